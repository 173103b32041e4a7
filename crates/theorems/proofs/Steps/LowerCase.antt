-- A text and the same text in lower case are refused alike, or are read as the same macro but for the spellings of its names.
use mathlib.Core.Path.{◌≡◌, sym, ap, subst, ◌∙◌}
use Prim.Native.Nat.{ℕ, ◌+◌, ◌*◌, ◌-◌, ◌≤◌, ◌<◌}
use native.Mathlib.Omega.{arith}
use mathlib.Core.List.{List, ◌++◌}
use lib.ListN.{length, get_or, take, drop, length-map, length-drop, take-append-drop}
use lib.Seq.{length-take-le, get_or-take, get_or-drop}
use borrow.Author.Tests.{lt-ltb, le-ltb}
use Rattle.tokens.specs.Bytes.{lowered, lower_case}
use Rattle.tokens.specs.Tokens.{token_at, place_of, spellings}
use Rattle.grammar.specs.Grammar.{Macro, sentence}
use Rattle.grammar.specs.Limits.{longest_text}
use Rattle.grammar.specs.Spelled.{Spells, Spelled, InOrder, first_register, first_function, first_test_token, entry_length, function_token, spelled_functions}
use Rattle.refusals.specs.FirstNo.{FirstNo}
use Rattle.refusals.specs.Order.{Refusal}
use Rattle.refusals.specs.Accepted.{Accepted}
use Rattle.refusals.proofs.Theory.Declared.{register_declared, function_declared}
use Rattle.refusals.proofs.Theory.Accepted.{Acceptance, Becomes, an_acceptance, accepted_once, refused_once, never_both}
use Rattle.theorems.specs.LowerCase.{in_lower_case}
use Rattle.theorems.proofs.Steps.LowerCaseTokens.{key_lower, start_lower, end_lower, behind_lower, key_of_lower, spellings_lower}
use Rattle.theorems.proofs.Steps.ByTokens.{order_respelled, place-by, key-by, first_by, by_first, first_same}

module _ (s : List ℕ) where
  length_lower : length (lower_case s) ≡ length s
  length_lower = length-map s lowered

  short_lower : length s ≤ longest_text → length (lower_case s) ≤ longest_text
  short_lower h = omega (arith, length_lower)

  -- ---- a macro

  spells_lower : {at e : ℕ} {ks : List ℕ} → Spells s at ks e → Spells (lower_case s) at ks e
  spells_lower Spells.none = Spells.none
  spells_lower (Spells.more {at} {e = e} {ks = ks} h l p) =
      Spells.more (key_lower s at ∙ h) l (subst (λ n. Spells (lower_case s) n ks e) (sym (end_lower s at)) (spells_lower p))

  early : (n t k : ℕ) → k < t → first_function n + entry_length * k ≡ function_token n t k
  early n t k l = rw (lt-ltb k t l)

  late : (n t k : ℕ) → first_test_token n t + entry_length * k ≡ function_token n t (t + k)
  late n t k = rw (le-ltb (t + k) t (omega arith)) (ap (λ j. first_test_token n t + entry_length * j) (let e : k ≡ t + k - t = omega arith in e))

  -- the functions and the tests, each by the token that declares it
  functions_lower : (n t : ℕ) (fs : List ℕ) → t ≤ length fs
      → ((f : ℕ) → f < length fs → (token_at s (place_of s (function_token n t f))).key ≡ get_or fs f 0) → spelled_functions (lower_case s) n t (length fs) ≡ fs
  functions_lower n t fs l h =
      let front = length-take-le t fs l in
      let behind = length-drop t fs in
      let functions = spellings_lower s (first_function n) entry_length (take t fs) λ k g.
      ap (λ i. (token_at s (place_of s i)).key) (early n t k (omega arith)) ∙ h k (omega arith) ∙ sym (get_or-take t fs k 0 (omega arith)) in
      let tests = spellings_lower s (first_test_token n t) entry_length (drop t fs) λ k g.
      ap (λ i. (token_at s (place_of s i)).key) (late n t k) ∙ h (t + k) (omega arith) ∙ sym (get_or-drop t fs k 0) in
      (λ i. spellings (lower_case s) (place_of (lower_case s) (first_function n)) entry_length (sym front i)
      ++ spellings (lower_case s) (place_of (lower_case s) (first_test_token n t)) entry_length (sym behind i))
      ∙ (λ i. functions i ++ tests i) ∙ take-append-drop t fs

  spelled_lower : (m : Macro) → InOrder m → Spelled s m → Spelled (lower_case s) (in_lower_case m)
  unfolding sentence
  spelled_lower m O S = record {
    place = S.place;
    tokens = spells_lower S.tokens;
    ended = key_lower s S.place ∙ S.ended;
    register_spellings = sym (spellings_lower s first_register 1 m.registers λ r h.
        rw (let e : first_register + 1 * r ≡ first_register + r = omega arith in e) (register_declared s m S r h));
    function_spellings = sym (functions_lower (length m.registers) m.first_test m.functions O.tests (function_declared s m S O.arities));
  }

  pub accepted_lower : {m : Macro} → Accepted s m → Accepted (lower_case s) (in_lower_case m)
  accepted_lower {m} A = record {
    short = short_lower A.short;
    spelled = spelled_lower m A.in_order A.spelled;
    in_order = order_respelled m.registers m.functions m A.in_order;
    few = A.few;
  }

  -- ---- a refusal

  start_of_lower : (i : ℕ) → (token_at (lower_case s) (place_of (lower_case s) i)).start ≡ (token_at s (place_of s i)).start
  start_of_lower i = start_lower s (place_of (lower_case s) i) ∙ ap (λ k. (token_at s k).start) (behind_lower s 0 i)

  -- a question looks at keys alone
  first_lower : {n p : ℕ} → FirstNo s n p → FirstNo (lower_case s) n p
  first_lower F =
      let r = lower_case s in
      by_first r (first_same (length s) (length r) (token_at s) (token_at r)
      (λ i. sym (key-by s i) ∙ sym (key_of_lower s i) ∙ key-by r i)
      (λ i. sym (ap (λ p. (token_at s p).start) (place-by s i)) ∙ sym (start_of_lower i) ∙ ap (λ p. (token_at r p).start) (place-by r i))
      (first_by s F))

  pub refusal_lower : {n p : ℕ} → Refusal s n p → Refusal (lower_case s) n p
  refusal_lower (Refusal.long h) = Refusal.long (omega (arith, length_lower))
  refusal_lower (Refusal.token h F) = Refusal.token (short_lower h) (first_lower F)
  refusal_lower (Refusal.points m h S O k) =
      Refusal.points (in_lower_case m) (short_lower h) (spelled_lower m O S) (order_respelled m.registers m.functions m O) k

  -- ---- and back, since a text has one answer

  pub accepted_lifted : {k : Macro} → Accepted (lower_case s) k → (m : Macro) × Accepted s m × (k ≡ in_lower_case m)
  accepted_lifted {k} B = let (o, x) = an_acceptance s in go o x
    where
      go : (o : Acceptance) → Becomes s o → (m : Macro) × Accepted s m × (k ≡ in_lower_case m)
      go (Acceptance.accepted m) A = (m, A, accepted_once (lower_case s) B (accepted_lower A))
      go (Acceptance.refused n p) R = absurd (never_both (lower_case s) B (refusal_lower R))

  pub refusal_lifted : {n p : ℕ} → Refusal (lower_case s) n p → Refusal s n p
  refusal_lifted {n} {p} B = let (o, x) = an_acceptance s in go o x
    where
      go : (o : Acceptance) → Becomes s o → Refusal s n p
      go (Acceptance.accepted m) A = absurd (never_both (lower_case s) (accepted_lower A) B)
      go (Acceptance.refused k q) R = let (e, f) = refused_once (lower_case s) (refusal_lower R) B in subst (λ n. Refusal s n p) e (subst (Refusal s k) f R)
