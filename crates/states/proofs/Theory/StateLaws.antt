-- What was stored is read again.
use mathlib.Core.Path.{◌≡◌, refl, sym, ap, ◌∙◌}
use Prim.Native.Nat.{ℕ, ◌+◌}
use native.Mathlib.Omega.{arith}
use mathlib.Core.List.{List, ◌++◌, map, append_assoc}
use lib.ListN.{length, get_or, take, drop, length-append}
use lib.Seq.{take_at, drop_at, drop-drop, get_or-drop}
use Rattle.letters.specs.Packing.{join, split}
use Rattle.records.specs.Records.{flag}
use Rattle.records.proofs.Theory.Storable.{flag_back, flags_back}
use Rattle.streaming.specs.declared.Monitor.{Monitor}
use Rattle.streaming.specs.declared.Phase.{Phase}
use Rattle.streaming.specs.declared.Phase.TheVariants.{Empty, One, Even, Odd}
use Rattle.streaming.specs.declared.Stream.{Stream}
use Rattle.streaming.specs.declared.RunAnswer.{RunAnswer}
use Rattle.streaming.specs.declared.RunAnswer.TheVariants.{Judged, Refused}
use Rattle.states.specs.States.{monitor_size, letters_place, first_letter_place, second_place}
use Rattle.states.specs.States.{eight_octets, head_of, parts_then, monitor_then, Sizes, WindowSizes, monitor_window_in, monitor_in}
use Rattle.states.specs.States.{phase_code, phase_in, run_answer_code, refusal_number, first_number, second_number, run_answer_in}
use Rattle.states.specs.States.{tail_of, tail_then, stream_then, number_at, stream_in}

-- one part further
next : (s x y : List ℕ) (a n b : ℕ) → drop a s ≡ x ++ y → length x ≡ n → b ≡ a + n → drop b s ≡ y
next s x y a n b e l q = rw (q, ← drop-drop n a s, e) (drop_at x y n l)

-- ---- a monitor's bytes

module _ (head class unequal marks ever result : List ℕ) (heads : length head ≡ 7) (z : Sizes class unequal marks ever result) where
  joined : List ℕ
  joined = head ++ class ++ unequal ++ marks ++ ever ++ result

  joined_size : length joined ≡ monitor_size
  unfolding joined
  joined_size = simp length-append (omega (arith, z.classes, z.unequals, z.marked, z.evers, z.results))

  parts_joined : (rest : List ℕ) → parts_then head class unequal marks ever result rest ≡ joined ++ rest
  unfolding joined
  parts_joined rest = simp append_assoc

  -- what stands behind the parts
  pub behind : (rest : List ℕ) → drop monitor_size (parts_then head class unequal marks ever result rest) ≡ rest
  behind rest = rw (parts_joined rest) (drop_at joined rest monitor_size joined_size)

  -- other bytes behind them
  pub front : (rest other : List ℕ)
      → take monitor_size (parts_then head class unequal marks ever result rest) ++ other ≡ parts_then head class unequal marks ever result other
  front rest other = rw (parts_joined rest, take_at joined rest monitor_size joined_size) (sym (parts_joined other))

pub monitor_back : (kind : ℕ) (m : Monitor) (rest : List ℕ) → WindowSizes m.window → monitor_in (monitor_then kind m rest) ≡ m
unfolding monitor_in monitor_window_in
monitor_back kind m rest z =
    let w = m.window in
    let s = monitor_then kind m rest in
    let u = w.unequal ++ (map flag w.mark ++ (w.ever ++ (w.result ++ rest))) in
    let k = map flag w.mark ++ (w.ever ++ (w.result ++ rest)) in
    let d : drop 15 s ≡ u = next s w.class u 7 8 15 refl z.classes refl in
    let f : drop 23 s ≡ k = next s w.unequal k 15 8 23 d z.unequals refl in
    let g : drop 31 s ≡ w.ever ++ (w.result ++ rest) = next s (map flag w.mark) (w.ever ++ (w.result ++ rest)) 23 8 31 f z.marked refl in
    let i : drop 63 s ≡ w.result ++ rest = next s w.ever (w.result ++ rest) 31 32 63 g z.evers refl in
    rw (
      take_at w.class u 8 z.classes,
      d,
      take_at w.unequal k 8 z.unequals,
      f,
      take_at (map flag w.mark) (w.ever ++ (w.result ++ rest)) 8 z.marked,
      flags_back w.mark,
      g,
      take_at w.ever (w.result ++ rest) 32 z.evers,
      i,
      take_at w.result rest 256 z.results,
      flag_back w.infeasible,
      flag_back m.running,
    )

-- ---- a stream's bytes

phase_back : (p : Phase) → phase_in (phase_code p) ≡ p
unfolding phase_in
phase_back Empty = refl
phase_back One = refl
phase_back Even = refl
phase_back Odd = refl

verdict_back : (v : RunAnswer) → run_answer_in (run_answer_code v) (refusal_number v) (first_number v) (second_number v) ≡ v
unfolding run_answer_in
verdict_back (Judged incoherent infeasible) = refl
verdict_back (Refused number place) = refl

pub stream_back : (kind : ℕ) (s : Stream) (rest : List ℕ) → WindowSizes s.run.monitor.window
    → join eight_octets (split eight_octets s.run.letters) ≡ s.run.letters
    → join eight_octets (split eight_octets (first_number s.run.verdict)) ≡ first_number s.run.verdict
    → join eight_octets (split eight_octets (second_number s.run.verdict)) ≡ second_number s.run.verdict
    → stream_in (stream_then kind s rest) ≡ s
unfolding stream_in
stream_back kind s rest z a b c =
    let v = s.run.verdict in
    let m = s.run.monitor in
    let w = m.window in
    let x = split eight_octets s.run.letters in
    let y = split eight_octets (first_number v) in
    let o = split eight_octets (second_number v) in
    let t = tail_then (tail_of s) x y o rest in
    let all = monitor_then kind m t in
    let d : drop monitor_size all ≡ t = behind (head_of kind m) w.class w.unequal (map flag w.mark) w.ever w.result refl z t in
    let at : (i : ℕ) → get_or all (monitor_size + i) 0 ≡ get_or t i 0 = (λ i. sym (get_or-drop monitor_size all i 0) ∙ ap (λ l. get_or l i 0) d) in
    let f : drop letters_place all ≡ x ++ (y ++ (o ++ rest)) = next all (tail_of s) (x ++ (y ++ (o ++ rest))) monitor_size 4 letters_place d refl refl in
    let g : drop first_letter_place all ≡ y ++ (o ++ rest) = next all x (y ++ (o ++ rest)) letters_place 8 first_letter_place f refl refl in
    let i : drop second_place all ≡ o ++ rest = next all y (o ++ rest) first_letter_place 8 second_place g refl refl in
    let n₁ : number_at letters_place all ≡ s.run.letters = ap (λ l. join eight_octets (take 8 l)) f ∙ a in
    let n₂ : number_at first_letter_place all ≡ first_number v = ap (λ l. join eight_octets (take 8 l)) g ∙ b in
    let n₃ : number_at second_place all ≡ second_number v = ap (λ l. join eight_octets (take 8 l)) i ∙ c in
    rw (at 0, at 1, at 2, at 3, monitor_back kind m t z, n₁, n₂, n₃, phase_back s.phase, verdict_back v)
