-- Parts laid one after the other over the front of a list, and what the functions return from what their calls ensure.
use mathlib.Core.Path.{◌≡◌, refl, sym, ap, ◌∙◌}
use Prim.Native.Nat.{ℕ, ◌+◌, ◌≤◌}
use native.Mathlib.Omega.{arith}
use mathlib.Core.List.{List, [], ◌++◌, map, append_assoc, append-nil}
use lib.ListN.{length, get_or, take, drop, length-append, length-take, length-drop, take-append-drop, drop_of_length-le}
use lib.Seq.{take_at, drop_at, drop-drop}
use Rattle.letters.specs.Packing.{join, split}
use Rattle.records.specs.Records.{flag}
use Rattle.streaming.specs.declared.Monitor.{Monitor}
use Rattle.streaming.specs.declared.Stream.{Stream}
use Rattle.states.specs.States.{monitor_size, letters_place, first_letter_place, second_place, stream_size}
use Rattle.states.specs.States.{eight_octets, head_of, parts_then, monitor_then, Sizes, WindowSizes, monitor_in, KeepsMonitor}
use Rattle.states.specs.States.{first_number, second_number, tail_of, tail_then, stream_then, stream_in, KeepsStream}
use Rattle.states.proofs.Theory.StateLaws.{behind, front, monitor_back, stream_back}

-- a part laid behind what is done
laid_on : (b b' done rest part : List ℕ) (at : ℕ) → b ≡ done ++ rest → length done ≡ at → b' ≡ take at b ++ part ++ drop (at + length part) b
    → b' ≡ (done ++ part) ++ drop (length part) rest
laid_on b b' done rest part at e l q =
    q ∙ rw (e, take_at done rest at l, ← drop-drop (length part) at (done ++ rest), drop_at done rest at l)

module _ (head class unequal marks ever result : List ℕ) (heads : length head ≡ 7) (z : Sizes class unequal marks ever result) where
  pub six_laid : (b₀ b₁ b₂ b₃ b₄ b₅ b₆ : List ℕ)
      → b₁ ≡ take 0 b₀ ++ head ++ drop (0 + length head) b₀
      → b₂ ≡ take 7 b₁ ++ class ++ drop (7 + length class) b₁
      → b₃ ≡ take 15 b₂ ++ unequal ++ drop (15 + length unequal) b₂
      → b₄ ≡ take 23 b₃ ++ marks ++ drop (23 + length marks) b₃
      → b₅ ≡ take 31 b₄ ++ ever ++ drop (31 + length ever) b₄
      → b₆ ≡ take 63 b₅ ++ result ++ drop (63 + length result) b₅
      → b₆ ≡ parts_then head class unequal marks ever result (drop monitor_size b₀)
  six_laid b₀ b₁ b₂ b₃ b₄ b₅ b₆ q₁ q₂ q₃ q₄ q₅ q₆ =
      let r₁ = drop (length head) b₀ in
      let r₂ = drop (length class) r₁ in
      let r₃ = drop (length unequal) r₂ in
      let r₄ = drop (length marks) r₃ in
      let r₅ = drop (length ever) r₄ in
      let e₁ : b₁ ≡ head ++ r₁ = laid_on b₀ b₁ [] b₀ head 0 refl refl q₁ in
      let e₂ : b₂ ≡ head ++ class ++ r₂ = laid_on b₁ b₂ head r₁ class 7 e₁ heads q₂ in
      let l₂ : length (head ++ class) ≡ 15 = simp length-append (omega (arith, z.classes)) in
      let e₃ : b₃ ≡ head ++ class ++ unequal ++ r₃ = laid_on b₂ b₃ (head ++ class) r₂ unequal 15 e₂ l₂ q₃ in
      let l₃ : length (head ++ class ++ unequal) ≡ 23 = simp length-append (omega (arith, z.classes, z.unequals)) in
      let e₄ : b₄ ≡ head ++ class ++ unequal ++ marks ++ r₄ = laid_on b₃ b₄ (head ++ class ++ unequal) r₃ marks 23 e₃ l₃ q₄ in
      let l₄ : length (head ++ class ++ unequal ++ marks) ≡ 31 = simp length-append (omega (arith, z.classes, z.unequals, z.marked)) in
      let e₅ : b₅ ≡ head ++ class ++ unequal ++ marks ++ ever ++ r₅ = laid_on b₄ b₅ (head ++ class ++ unequal ++ marks) r₄ ever 31 e₄ l₄ q₅ in
      let l₅ : length (head ++ class ++ unequal ++ marks ++ ever) ≡ 63 = simp length-append (omega (arith, z.classes, z.unequals, z.marked, z.evers)) in
      let e₆ = laid_on b₅ b₆ (head ++ class ++ unequal ++ marks ++ ever) r₅ result 63 e₅ l₅ q₆ in
      let d : drop (length result) r₅ ≡ drop monitor_size b₀ = behind in
      e₆ ∙ ap (λ r. head ++ class ++ unequal ++ marks ++ ever ++ result ++ r) d ∙ simp append_assoc
    where
      behind : drop (length result) (drop (length ever) (drop (length marks) (drop (length unequal) (drop (length class) (drop (length head) b₀)))))
          ≡ drop monitor_size b₀
      behind =
          rw (z.results, z.evers, z.marked, z.unequals, z.classes, heads)
          (rw (drop-drop 8 7 b₀, drop-drop 8 15 b₀, drop-drop 8 23 b₀, drop-drop 32 31 b₀, drop-drop 256 63 b₀))

pub four_laid : (tail letters first second b₀ b₁ b₂ b₃ b₄ : List ℕ) → stream_size ≤ length b₀
    → length tail ≡ 4 → length letters ≡ 8 → length first ≡ 8 → length second ≡ 8
    → b₁ ≡ take monitor_size b₀ ++ tail ++ drop (monitor_size + length tail) b₀
    → b₂ ≡ take letters_place b₁ ++ letters ++ drop (letters_place + length letters) b₁
    → b₃ ≡ take first_letter_place b₂ ++ first ++ drop (first_letter_place + length first) b₂
    → b₄ ≡ take second_place b₃ ++ second ++ drop (second_place + length second) b₃
    → b₄ ≡ take monitor_size b₀ ++ tail_then tail letters first second (drop stream_size b₀)
four_laid tail letters first second b₀ b₁ b₂ b₃ b₄ room z₁ z₂ z₃ z₄ q₁ q₂ q₃ q₄ =
    let f = take monitor_size b₀ in
    let r₁ = drop (length tail) (drop monitor_size b₀) in
    let r₂ = drop (length letters) r₁ in
    let r₃ = drop (length first) r₂ in
    let l₀ : length f ≡ monitor_size = simp length-take (omega arith) in
    let e₁ : b₁ ≡ f ++ tail ++ r₁ = laid_on b₀ b₁ f (drop monitor_size b₀) tail monitor_size (sym (take-append-drop monitor_size b₀)) l₀ q₁ in
    let l₁ : length (f ++ tail) ≡ letters_place = simp length-append (omega arith) in
    let e₂ : b₂ ≡ f ++ tail ++ letters ++ r₂ = laid_on b₁ b₂ (f ++ tail) r₁ letters letters_place e₁ l₁ q₂ in
    let l₂ : length (f ++ tail ++ letters) ≡ first_letter_place = simp length-append (omega arith) in
    let e₃ : b₃ ≡ f ++ tail ++ letters ++ first ++ r₃ = laid_on b₂ b₃ (f ++ tail ++ letters) r₂ first first_letter_place e₂ l₂ q₃ in
    let l₃ : length (f ++ tail ++ letters ++ first) ≡ second_place = simp length-append (omega arith) in
    let e₄ = laid_on b₃ b₄ (f ++ tail ++ letters ++ first) r₃ second second_place e₃ l₃ q₄ in
    e₄ ∙ ap (λ r. f ++ tail ++ letters ++ first ++ second ++ r) behind ∙ simp append_assoc
  where
    behind : drop (length second) (drop (length first) (drop (length letters) (drop (length tail) (drop monitor_size b₀)))) ≡ drop stream_size b₀
    behind =
        rw (z₄, z₃, z₂, z₁)
        (rw (drop-drop 4 monitor_size b₀, drop-drop 8 letters_place b₀, drop-drop 8 first_letter_place b₀, drop-drop 8 second_place b₀))

-- a part of a list, copied over an array of its length
pub copied : (b s zero : List ℕ) (at n k : ℕ) → k ≡ n → length zero ≡ n → at + n ≤ length s
    → b ≡ take 0 zero ++ take k (drop at s) ++ drop (0 + length (take k (drop at s))) zero
    → b ≡ take n (drop at s)
copied b s zero at n k e z l q =
    let m : length (take k (drop at s)) ≡ n = simp (length-take, length-drop) (omega arith) in
    q ∙ rw (drop_of_length-le zero {i = 0 + length (take k (drop at s))} (omega arith), append-nil (take k (drop at s)), e)

-- ---- a monitor and a stream stored

pub keeps_monitor : (kind : ℕ) (m : Monitor) (entry exit head marks : List ℕ) → head ≡ head_of kind m → marks ≡ map flag m.window.mark
    → Sizes m.window.class m.window.unequal marks m.window.ever m.window.result
    → exit ≡ parts_then head m.window.class m.window.unequal marks m.window.ever m.window.result (drop monitor_size entry)
    → KeepsMonitor kind m entry exit
keeps_monitor kind m entry exit head marks h k z q =
    let all : exit ≡ monitor_then kind m (drop monitor_size entry) = rw (h, k) at q in
    let sizes : WindowSizes m.window = rw k at z in
    record {
      bytes = all;
      kept = ap (λ l. get_or l 0 0) all;
      back = ap monitor_in all ∙ monitor_back kind m (drop monitor_size entry) sizes;
      sizes = sizes;
    }

pub keeps_stream : (kind : ℕ) (s : Stream) (entry between exit tail letters first second : List ℕ) → KeepsMonitor kind s.run.monitor entry between
    → tail ≡ tail_of s
    → (letters ≡ split eight_octets s.run.letters) × (join eight_octets letters ≡ s.run.letters)
    → (first ≡ split eight_octets (first_number s.run.verdict)) × (join eight_octets first ≡ first_number s.run.verdict)
    → (second ≡ split eight_octets (second_number s.run.verdict)) × (join eight_octets second ≡ second_number s.run.verdict)
    → exit ≡ take monitor_size between ++ tail_then tail letters first second (drop stream_size between)
    → KeepsStream kind s entry exit
keeps_stream kind s entry between exit tail letters first second k t x y o q =
    let m = s.run.monitor in
    let w = m.window in
    let r = drop monitor_size entry in
    let far : drop stream_size between ≡ drop stream_size entry =
    sym (drop-drop 28 monitor_size between)
    ∙ ap (drop 28) (ap (drop monitor_size) k.bytes
    ∙ behind (head_of kind m) w.class w.unequal (map flag w.mark) w.ever w.result refl k.sizes r)
    ∙ drop-drop 28 monitor_size entry in
    let near : (other : List ℕ) → take monitor_size between ++ other ≡ monitor_then kind m other =
    (λ other. ap (λ l. take monitor_size l ++ other) k.bytes
    ∙ front (head_of kind m) w.class w.unequal (map flag w.mark) w.ever w.result refl k.sizes r other) in
    let all : exit ≡ stream_then kind s (drop stream_size entry) = q ∙ rw (far, t, x.0, y.0, o.0) (near _) in
    record {
      bytes = all;
      kept = ap (λ l. get_or l 0 0) all;
      back = ap stream_in all
          ∙ stream_back kind s (drop stream_size entry) k.sizes (ap (join eight_octets) (sym x.0) ∙ x.1) (ap (join eight_octets) (sym y.0) ∙ y.1)
          (ap (join eight_octets) (sym o.0) ∙ o.1);
    }
