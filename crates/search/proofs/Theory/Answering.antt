-- What follows from the definitions of specs/Answering.antt.
use mathlib.Core.Path.{◌≡◌, refl, sym, ap, ◌∙◌, subst}
use mathlib.Core.Bool.{Bool, true, false}
use mathlib.Core.List.{List, ◌∷◌, ◌++◌, map}
use Prim.Native.Nat.{ℕ, suc, ◌-◌, ◌*◌, ◌/◌, ◌≤◌, ◌<◌}
use native.Mathlib.Omega.{arith}
use lib.ListN.{length, take, drop, length-drop, length-map, take-append-drop}
use lib.Seq.{length-take-le, drop_at}
use Rattle.letters.specs.declared.Header.{Header}
use Rattle.letters.specs.declared.Letter.{Letter}
use Rattle.letters.specs.Editions.{first_edition}
use Rattle.letters.specs.Words.{header_word, letter_word}
use Rattle.letters.proofs.Theory.WordLaws.{first_roomy}
use Rattle.letters.specs.declared.reasons.Reason.TheVariants.{OutputTooSmall}
use Rattle.letters.specs.declared.reasons.Refused.{Refused}
use Rattle.std.specs.Prelude.{Result, Ok, Err}
use Rattle.search.specs.Tracing.{trace_bytes, last_letter}
use Rattle.traces.specs.Traces.{packing}
use Rattle.traces.proofs.Theory.TraceLaws.{bytes_length}
use Rattle.semantics.specs.Terms.{begin}
use Rattle.verdict_theory.specs.Verdict.{fail, incoherent, unfit, breaking, failing, showing, Delivered}
use Rattle.verdict_theory.specs.AnswerPacking.{packed}
use Rattle.search.specs.declared.Packed.{Packed}
use Rattle.search.specs.declared.Verdict.{Verdict}
use Rattle.search.specs.declared.Verdict.TheVariants.{Fail, Incoherent}
use Rattle.search.proofs.Theory.Delivering.{delivered_trace, refused_trace, refused_failing, delivered_model, refused_model, behind_kept}
use Rattle.search.specs.Modelling.{ModelWrittenBehind}
use Rattle.search.specs.Answering.{Packs, Delivers}

-- The refusal of an output that the answer does not fit.
abbrev output_refused : Result Verdict Refused
output_refused = Err (record { reason = OutputTooSmall; place = 0 })

module _ (p : Packed) (count : ℕ) (output : List ℕ) (inside : p.start ≤ last_letter) where
  abbrev s : List ℕ
  s = drop p.start p.bytes

  abbrev n : ℕ
  n = trace_bytes - p.start

  module _ (h : Header) (ls : List Letter) (x : Packs p h ls) where
    long : length (packing first_edition h ls) ≡ 2 * suc (length ls)
    unfolding packing
    long = bytes_length first_edition first_roomy (header_word first_edition h ∷ map (letter_word first_edition h) ls)
        ∙ ap (λ n. 2 * suc n) (length-map ls (letter_word first_edition h))

    size : length s ≡ n
    size = length-drop p.start p.bytes ∙ ap (λ k. k - p.start) x.long

    same : n ≡ length (packing first_edition h ls)
    same = sym size ∙ ap length x.bytes

    letters_are : (n - 2) / 2 ≡ length ls
    letters_are = let a = same in let b = long in omega arith

  -- ── incoherent ──
  pub breaking_refused : length output < trace_bytes - p.start → Delivers breaking p count output output_refused output
  breaking_refused l h ls x f = refused_trace h ls output (showing breaking count (length ls)) (let a = same h ls x in omega arith)

  pub breaking_shown : trace_bytes - p.start ≤ length output → (output' : List ℕ)
      → output' ≡ drop p.start p.bytes ++ drop (length (drop p.start p.bytes)) output
      → Delivers breaking p count output (Ok (Incoherent count ((trace_bytes - p.start - 2) / 2))) output'
  breaking_shown l output' e h ls x f =
      subst (λ o. Delivered (packed first_edition (begin h) breaking ls) (showing breaking count (length ls)) output (incoherent count ((n - 2) / 2)) o)
      (sym (e ∙ ap (λ b. b ++ drop (length b) output) x.bytes))
      (subst (λ k. Delivered (packed first_edition (begin h) breaking ls) (showing breaking count (length ls)) output (incoherent count k)
      (packing first_edition h ls ++ drop (length (packing first_edition h ls)) output))
      (sym (letters_are h ls x)) (delivered_trace h ls output (showing breaking count (length ls)) (let a = same h ls x in omega arith)))

  -- ── fail ──
  pub failing_refused : length output < trace_bytes - p.start → Delivers failing p count output output_refused output
  failing_refused l h ls x f = refused_failing h ls output (showing failing count (length ls)) (let a = same h ls x in omega arith)

  module _ (l : trace_bytes - p.start ≤ length output) (between : List ℕ) where
    module _ (fits : Bool) (w : ModelWrittenBehind (drop p.start p.bytes) output fits between) (h : Header) (ls : List Letter) (x : Packs p h ls) where
      abbrev trace : List ℕ
      trace = packing first_edition h ls

      showed : ModelWrittenBehind (packing first_edition h ls) output fits between
      showed = subst (λ b. ModelWrittenBehind b output fits between) x.bytes w

    -- the model does not fit behind the trace
    pub failing_unfit : ModelWrittenBehind (drop p.start p.bytes) output false between
        → Delivers failing p count output output_refused between
    failing_unfit w h ls x f =
        let y = showed false w h ls x in
        let k = behind_kept h ls output (showing failing count (length ls)) x.header x.fit x.few x.formed (f refl) y.shown y.behind
        y.showed (y.no refl) in
        let e : between ≡ output = y.stands ∙ ap (λ b. take (length (packing first_edition h ls)) output ++ b) k
        ∙ take-append-drop (length (packing first_edition h ls)) output in
        subst (λ o. Delivered (packed first_edition (begin h) failing ls) (showing failing count (length ls)) output unfit o) (sym e)
        (refused_model h ls output (showing failing count (length ls)) x.header x.fit x.few x.formed (f refl) y.shown y.behind y.showed
        (let a = same h ls x in omega arith) (y.no refl))

    pub failing_shown : ModelWrittenBehind (drop p.start p.bytes) output true between → (output' : List ℕ)
        → output' ≡ drop p.start p.bytes ++ drop (length (drop p.start p.bytes)) between
        → Delivers failing p count output (Ok (Fail count ((trace_bytes - p.start - 2) / 2))) output'
    failing_shown w output' e h ls x f =
        let y = showed true w h ls x in
        let (k, g) = y.yes refl in
        let q : length (take (length (packing first_edition h ls)) output) ≡ length (packing first_edition h ls) =
        length-take-le (length (packing first_edition h ls)) output (let a = same h ls x in omega arith) in
        let i : output' ≡ packing first_edition h ls ++ y.behind =
        e ∙ ap (λ b. b ++ drop (length b) between) x.bytes
        ∙ ap (λ b. packing first_edition h ls ++ drop (length (packing first_edition h ls)) b) y.stands
        ∙ ap (λ b. packing first_edition h ls ++ b)
        (drop_at (take (length (packing first_edition h ls)) output) y.behind (length (packing first_edition h ls)) q) in
        subst (λ o. Delivered (packed first_edition (begin h) failing ls) (showing failing count (length ls)) output (fail count ((n - 2) / 2)) o) (sym i)
        (subst (λ j. Delivered (packed first_edition (begin h) failing ls) (showing failing count (length ls)) output (fail count j)
        (packing first_edition h ls ++ y.behind)) (sym (letters_are h ls x))
        (delivered_model h ls output (showing failing count (length ls)) x.header x.fit x.few x.formed (f refl) y.shown y.behind y.showed k
        (let a = same h ls x in omega arith) g))
