-- The laws of the run: how it starts, goes on and ends.
use Rattle.std.specs.Prelude.{Option, Some, None, Ok, Err}
use mathlib.Core.Path.{◌≡◌, refl, sym, ◌∙◌, ap, subst}
use mathlib.Core.Logic.{◌⊎◌, inl, inr, ◌≢◌}
use mathlib.Core.Bool.{Bool, true, false}
use mathlib.Core.List.Memᴰ
use mathlib.Core.List.{List, [], ◌∷◌, ◌++◌, append-nil}
use Prim.Native.Nat.{ℕ, suc, ◌+◌, ◌≤◌, ◌<◌}
use native.Mathlib.Omega.{arith}
use native.Mathlib.Numerals.{add-one}
use lib.ListN.{length, get_or, length-append}
use Rattle.letters.specs.declared.Header.{Header}
use Rattle.letters.specs.declared.Letter.{Letter}
use Rattle.letters.specs.Letters.{Fits}
use Rattle.letters.specs.Editions.{first_edition, most_letters, most_registers}
use Rattle.letters.specs.CodeAnswers.{letter_answer}
use Rattle.letters.specs.Letters.{HeaderFits}
use Rattle.traces.specs.Reading.{trace, letters_of}
use Rattle.traces.specs.ReadingParts.{letter_at}
use Rattle.semantics.specs.Terms.{begin, ◌▸◌, state, start, after, trace_of}
use Rattle.semantics.specs.Facts.{WellFormed}
use Rattle.closure.specs.Limits.{signature_chains, most_terms}
use Rattle.semantics.specs.Models.{Feasible}
use Rattle.semantics.specs.Judgement.{FailsAt, size}
use Rattle.semantics.proofs.Theory.JudgementLaws.{first_infeasible_unique}
use Rattle.semantics.proofs.Theory.TraceLaws.{extend_append, extend_size, extend_header}
use Rattle.semantics.proofs.Theory.Facts.{state_valid}
use Rattle.semantics.proofs.Theory.Shown.{corollary_2}
use Rattle.base.proofs.Theory.Each.{each_length}
use Rattle.closure.proofs.Theory.Written.{done_below}
use Rattle.closure.proofs.Theory.Represents.{represents_start}
use Rattle.closure.specs.Arrays.{entry_at, Below, signature_at, Parts, Clashes, clashes}
use Rattle.closure.specs.Arrays as arrays
use Rattle.closure.proofs.Theory.Entering.{chains_none, complete_none}
use Rattle.closure.proofs.Theory.Steps.{letter_clash}
use Rattle.engine.specs.Engine.{Engine, Computed, Ready, LetterPerformed}
use Rattle.engine.specs.Engine.{Counts}
use Rattle.letters.specs.declared.reasons.Reason.TheVariants.{LetterMalformed}
use Rattle.engine.specs.Run as spec
use Rattle.engine.proofs.Theory.ReadingLaws.{headed, behind_none, behind_one, rest_starts, rest_ends, rest_bad, rest_good, letter_fits}

true_false : true ≡ false → ⊥
true_false e = let z : ◌≡◌ {A = ℕ} 0 1 = cc in omega arith

module _ (s : List ℕ) (h : Header) (n : ℕ) (r : spec.Begun s h n) where
  fit : HeaderFits first_edition h
  fit = (headed s h r.header).fits

  pub registers_few : h.registers ≤ most_registers
  registers_few = fit.registers

  module _ (function first second representative head link value left right : List ℕ) (registers : ℕ) (counts : Counts) (k : ℕ) (b : k < n)
      (w : spec.Running s h n function first second representative head link value left right registers counts.terms counts.tests counts.parted k)
      (read : Option Letter) (e : letter_answer read ≡ letter_at first_edition h s k) where
    -- the letter is not well formed
    pub malformed_at : read ≡ None → spec.Ran s h n function first second representative counts.terms (Err (record { reason = LetterMalformed; place = k + 1 }))
    malformed_at q = spec.malformed (k + 1) (w.rest ∙ ap (spec.behind w.letters) (rest_bad s h n r k b read e q))

  module _ (function first second representative head link value left right : List ℕ) (registers : ℕ) (counts : Counts) (k : ℕ) (b : k < n)
      (w : spec.Running s h n function first second representative head link value left right registers counts.terms counts.tests counts.parted k)
      (read : Option Letter) (e : letter_answer read ≡ letter_at first_edition h s k)
      (l : Letter) (q : read ≡ Some l) where
    same_header : (state (trace_of h w.letters)).header ≡ h
    same_header = extend_header (begin h) w.letters

    fits_next : Fits (state (trace_of h w.letters)).header l
    fits_next = subst (λ (g : Header). Fits g l) (sym same_header) (letter_fits s h n r k b read e q)

    under : k < most_letters
    under = let c = r.few in omega arith

    pub ready : Ready l function first second representative head link value left right registers counts
    ready = record { state = state (trace_of h w.letters); letters = k; few = under; engine = w.engine; fits = fits_next }

    -- the letters with this one
    abbrev letters_next : List Letter
    letters_next = w.letters ++ (l ∷ [])

    next : trace_of h letters_next ≡ trace_of h w.letters ▸ l
    next = extend_append (begin h) w.letters (l ∷ [])

    rest_next : letters_of first_edition h s ≡ spec.behind letters_next (spec.reading_from s h n (k + 1))
    rest_next = w.rest ∙ ap (spec.behind w.letters) (rest_good s h n r k b read e q) ∙ behind_one w.letters l (spec.reading_from s h n (k + 1))

    module _ (function' first' second' representative' head' link' value' left' right' : List ℕ) (counts' : Counts)
        (p : LetterPerformed l function first second representative head link value left right registers counts function' first' second' representative' head'
        link' value' left' right' counts') where
      engine_next : Engine (after (state (trace_of h w.letters)) l) function' first' second' representative' head' link' value' left' right' registers
          counts'.terms counts'.tests counts'.parted (suc k)
      unfolding LetterPerformed
      engine_next = p (state (trace_of h w.letters)) k under fits_next w.engine

      pub clash_ready : (counts'.parted ≤ counts'.tests) × (counts'.tests ≤ most_letters) × Below most_terms counts'.tests left'
          × Below most_terms counts'.tests right' × Parts representative' left' right' counts'.parted
      unfolding Below
      clash_ready =
          let q = engine_next in
          let f = q.formed.within in (
            q.parts_few,
            let a = q.tests_few in let c = under in
                omega arith,
            (λ i d. let a = q.sides.left_below i d in omega arith),
            (λ i d. let a = q.sides.right_below i d in omega arith),
            q.parts,
          )

      module _ (c : Bool) (d : Clashes representative' left' right' counts'.tests c) where
        clashing : ((c ≡ true) × (¬ Feasible (after (state (trace_of h w.letters)) l))) ⊎ ((c ≡ false) × Feasible (after (state (trace_of h w.letters)) l))
        clashing = let q = engine_next in
            letter_clash (after (state (trace_of h w.letters)) l) function' first' second' representative' value' registers counts'.terms
            q.represents left' right' counts'.tests q.sides c d

        -- all tests so far have their sides in different classes
        judged : c ≡ false → Engine (after (state (trace_of h w.letters)) l) function' first' second' representative' head' link' value' left' right'
            registers counts'.terms counts'.tests counts'.tests (suc k)
        unfolding Parts
        judged z = let q = engine_next in record {
          formed = q.formed;
          represents = q.represents;
          indexed = q.indexed;
          sides = q.sides;
          registers_few = q.registers_few;
          functions_few = q.functions_few;
          function_long = q.function_long;
          first_long = q.first_long;
          second_long = q.second_long;
          value_long = q.value_long;
          left_long = q.left_long;
          right_long = q.right_long;
          terms_few = q.terms_few;
          tests_few = q.tests_few;
          parts = parted z d;
          parts_few = omega arith;
        }
          where
            parted : {b : Bool} → b ≡ false → Clashes representative' left' right' counts'.tests b → (q : ℕ) → q < counts'.tests
                → get_or representative' (get_or left' q 0) 0 ≢ get_or representative' (get_or right' q 0) 0
            parted z (clashes q h e) = absurd (true_false z)
            parted z (arrays.parts none) = none

        pub goes_on : c ≡ false → spec.Running s h n function' first' second' representative' head' link' value' left' right' registers counts'.terms
            counts'.tests counts'.tests (k + 1)
        goes_on z = record {
          letters = letters_next;
          long = length-append w.letters (l ∷ []) ∙ (let a = w.long in omega arith);
          rest = rest_next;
          formed = subst WellFormed (sym next) (w.formed, fits_next);
          engine = subst (λ ρ. Engine (state ρ) function' first' second' representative' head' link' value' left' right' registers counts'.terms
              counts'.tests counts'.tests (k + 1)) (sym next)
              (subst (λ j. Engine (after (state (trace_of h w.letters)) l) function' first' second' representative' head' link' value' left' right' registers
              counts'.terms counts'.tests counts'.tests j) (sym (add-one k)) (judged z));
          feasible = subst (λ ρ. Feasible (state ρ)) (sym next) (elim clashing [ inl (y, x) ↦ absurd (true_false (sym y ∙ z)) | inr (y, x) ↦ x ]);
        }

        pub stops : c ≡ true → spec.Ran s h n function' first' second' representative' counts'.terms (Ok (Some (k + 1)))
        stops z = spec.infeasible (k + 1) letters_next rest_next (subst (λ ρ. FailsAt (λ π. Feasible (state π)) ρ (k + 1)) (sym next) fails) (omega arith)
          where
            so_long : k + 1 ≡ suc (size (trace_of h w.letters))
            so_long = let a = extend_size (begin h) w.letters in let c = w.long in omega arith

            fails : FailsAt (λ π. Feasible (state π)) (trace_of h w.letters ▸ l) (k + 1)
            fails = inr (so_long, w.feasible, elim clashing [ inl (y, x) ↦ x | inr (y, x) ↦ absurd (true_false (sym z ∙ y)) ])

  module _ (function first second representative head link value left right : List ℕ) (registers : ℕ) (counts : Counts) (k : ℕ) (b : n ≤ k)
      (e : registers ≡ h.registers)
      (w : spec.Running s h n function first second representative head link value left right registers counts.terms counts.tests counts.parted k)
    where
      pub ends : spec.Ran s h n function first second representative counts.terms (Ok None)
      ends = spec.feasible w.letters
          (w.rest ∙ ap (spec.behind w.letters) (rest_ends s h n r k b) ∙ ap (trace h) (append-nil w.letters))
          (first_infeasible_unique (trace_of h w.letters) w.formed 0 w.feasible)
          (subst (λ g. Computed (state (trace_of h w.letters)) function first second representative g counts.terms) e (record {
            valid = w.engine.represents.valid;
            header_registers = w.engine.represents.header_registers;
            registers_few = w.engine.registers_few;
            formed = w.engine.formed;
            numbered = w.engine.represents.numbered;
            exactly = w.engine.represents.exactly;
          }))

  -- how a run begins
  module _ (function first second representative head link value left right representative' value' : List ℕ) (bf : spec.Blank function) (bo : spec.Blank first)
      (bs : spec.Blank second) (br : spec.Blank representative)
      (lh : length head ≡ signature_chains) (zh : (b : ℕ) → get_or head b 0 ≡ 0) (bl : spec.Blank link) (lv : length value ≡ most_registers)
      (ll : length left ≡ most_letters) (lr : length right ≡ most_letters) where
    begun : spec.Began representative value h.registers representative' value'
        → spec.Running s h n function first second representative' head link value' left right h.registers h.registers 0 0 0
    unfolding Below Parts
    begun b = record {
      letters = [];
      long = refl;
      rest = rest_starts s h n r ∙ sym (behind_none (spec.reading_from s h n 0));
      formed = tt;
      engine = record {
        formed = record {
          some = fit.some;
          more = omega arith;
          within = let l = within_registers in omega arith;
          long = ap length b.classes ∙ each_length _ h.registers representative ∙ br.long;
          classes = λ k l. subst (λ v. v < h.registers) (sym (class_at k l)) l;
          lowest = λ k l. subst (λ v. v ≤ k) (sym (class_at k l)) (omega arith);
          own = λ k l. ap (λ v. get_or representative' v 0) (class_at k l);
          functions = λ k l. let z = bf.zero k in omega arith;
          firsts = λ k l. let z = bo.zero k in omega arith;
          seconds = λ k l. let z = bs.zero k in omega arith;
          first_before = λ k l. let z = bo.zero k in omega arith;
          second_before = λ k l. let z = bs.zero k in omega arith;
        };
        represents = represents_start h (entry_at function) (entry_at first) (entry_at second) (entry_at representative') (entry_at value') class_at value_at;
        indexed = record {
          chains = chains_none head link h.registers lh bl.long zh bl.zero fit.some;
          complete =
              complete_none (signature_at representative' function first second) h.registers head link zh fit.some;
        };
        sides = record {
          left_below = λ q l. absurd (omega arith);
          right_below = λ q l. absurd (omega arith);
          listed = λ q l. absurd (omega arith);
          all =
              λ u v m. absurd (Memᴰ.not-nil m);
        };
        registers_few = within_registers;
        functions_few = fit.functions;
        function_long = bf.long;
        first_long = bo.long;
        second_long = bs.long;
        value_long = ap length b.values ∙ each_length _ h.registers value ∙ lv;
        left_long = ll;
        right_long = lr;
        terms_few = let l = within_registers in omega arith;
        tests_few = omega arith;
        parts = λ q l. absurd (omega arith);
        parts_few = omega arith;
      };
      feasible = (corollary_2 (start h) (state_valid (begin h) tt)).1 (λ c. Memᴰ.not-nil c.2);
    }
      where
        within_registers : h.registers ≤ most_registers
        within_registers = fit.registers

        class_at : (k : ℕ) → k < h.registers → get_or representative' k 0 ≡ k
        class_at k l = ap (λ (r : List ℕ). get_or r k 0) b.classes
            ∙ done_below (λ i _. i) h.registers representative 0 k l (let m = br.long in let o = within_registers in omega arith)

        value_at : (k : ℕ) → k < h.registers → get_or value' k 0 ≡ k
        value_at k l = ap (λ (r : List ℕ). get_or r k 0) b.values ∙ done_below (λ i _. i) h.registers value 0 k l (let o = within_registers in omega arith)

    pub begins : (registers : ℕ) → registers ≡ h.registers → spec.Began representative value registers representative' value'
        → spec.Running s h n function first second representative' head link value' left right h.registers h.registers 0 0 0
    begins registers e b = begun (subst (λ g. spec.Began representative value g representative' value') e b)
