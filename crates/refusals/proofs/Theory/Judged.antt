-- What an answer of a reader says of the tokens: what is read has no no, and a refusal is the first no.
use mathlib.Core.Path.{◌≡◌, refl, sym, ap, subst, ◌∙◌}
use Prim.Native.Nat.{ℕ, zero, suc, ◌≤◌, ◌<◌}
use native.Mathlib.Omega.{arith}
use mathlib.Core.Bool.{Bool, true, false, not, ◌||◌}
use mathlib.Core.List.{List, [], ◌∷◌, ◌++◌}
use lib.Dec.{eqb, ltb}
use borrow.Author.Tests.{eqb-true, eqb-false, ltb-true, ltb-false}
use Rattle.base.specs.Choice.{pick}
use Rattle.base.proofs.Theory.Choice.{by_test}
use Rattle.letters.specs.MacroRefusalNumbers.{declaration_wrong, grammar_violated, nesting_too_deep, no_room_for_tests, token_malformed, use_wrong}
use Rattle.tokens.specs.Tokens.{token_at, place_of}
use Rattle.tokens.specs.Words.{is_name}
use Rattle.tokens.specs.Words as word
use Rattle.tokens.proofs.Theory.WordsLaws.{name_real}
use Rattle.grammar.specs.Reading.{Got, got, exhausted, and_then}
use Rattle.grammar.specs.Reading as reading
use Rattle.refusals.proofs.Theory.Basics.{clash, not-true, nor}
use Rattle.refusals.proofs.Theory.Rests.{Rest, took, stuck, take, start, complete, on_took, run, run_more, run_viable, viable_run, sentence_run}
use Rattle.refusals.specs.Questions.{Unfit, Redeclared, Misused, TooDeep, NoRoom, No}
use Rattle.refusals.specs.FirstNo.{key_of, tokens_before, NoAt, Reached, FirstNo}

pub data JudgedReading (s : List ℕ) (A : Type 0) (P : A → ℕ → Type 0) : Got A → Type 0 where
  fine : {a : A} {e : ℕ} → P a e → JudgedReading s A P (got a e)
  first : {n p : ℕ} → FirstNo s n p → JudgedReading s A P (Got.refused n p)
  never : JudgedReading s A P exhausted

pub judged_on : {s : List ℕ} {A B : Type 0} {P : A → ℕ → Type 0} {Q : B → ℕ → Type 0} (g : Got A) (f : A → ℕ → Got B) → JudgedReading s A P g
    → ((a : A) (e : ℕ) → g ≡ got a e → P a e → JudgedReading s B Q (f a e)) → JudgedReading s B Q (and_then g f)
judged_on (got a e) f (fine p) k = k a e refl p
judged_on (Got.refused n p) f (first h) k = first h
judged_on exhausted f never k = never

pub judged_pick : {s : List ℕ} {A : Type 0} {P : A → ℕ → Type 0} (c : Bool) (x y : Unit {0} → Got A) → (c ≡ true → JudgedReading s A P (x tt))
    → (c ≡ false → JudgedReading s A P (y tt)) → JudgedReading s A P (pick c x y)
judged_pick true x y f g = f refl
judged_pick false x y f g = g refl

pub judged_map : {s : List ℕ} {A : Type 0} {P Q : A → ℕ → Type 0} {g : Got A} → JudgedReading s A P g → ((a : A) (e : ℕ) → P a e → Q a e)
    → JudgedReading s A Q g
judged_map (fine {a} {e} p) k = fine (k a e p)
judged_map (first h) k = first h
judged_map never k = never

pub judged_first : {s : List ℕ} {A : Type 0} {P : A → ℕ → Type 0} (n p : ℕ) → JudgedReading s A P (Got.refused n p) → FirstNo s n p
judged_first n p (first h) = h

pub judged_fine : {s : List ℕ} {A : Type 0} {P : A → ℕ → Type 0} (a : A) (e : ℕ) → JudgedReading s A P (got a e) → P a e
judged_fine a e (fine p) = p

-- a no is one of the six
pub lower : {before : List ℕ} {k next : ℕ} (n m : ℕ) → m < n → (token_malformed < n → k ≡ 1 → ⊥) → (grammar_violated < n → Unfit before k → ⊥)
    → (declaration_wrong < n → Redeclared before k → ⊥) → (use_wrong < n → Misused before k next → ⊥) → (nesting_too_deep < n → TooDeep before k → ⊥)
    → (no_room_for_tests < n → NoRoom before k → ⊥) → No m before k next → ⊥
lower n m l a b c d e f (No.no_token h) = a l h
lower n m l a b c d e f (No.unfit h) = b l h
lower n m l a b c d e f (No.redeclared h) = c l h
lower n m l a b c d e f (No.misused h) = d l h
lower n m l a b c d e f (No.too_deep h) = e l h
lower n m l a b c d e f (No.no_room h) = f l h

-- tokens that questions 10 to 12 and 16 do not concern: no name, `,`, `)`, `{` or `tests`
abbrev pub plain : ℕ → Bool
plain k = not (is_name k || (eqb k word.comma_key || (eqb k word.rparen_key || (eqb k word.lbrace_key || (eqb k word.tests_key || (eqb k 0 || eqb k 1))))))

-- a token is two or more
pub real : (k : ℕ) → (k ≡ 0 → ⊥) → (k ≡ 1 → ⊥) → 2 ≤ k
real zero h g = absurd (h refl)
real (suc zero) h g = absurd (g refl)
real (suc (suc k)) h g = omega arith

-- tokens that questions 10 and 11 do not concern: no name, `,` or `)`
module _ (k : ℕ) (n : is_name k ≡ false) where
  pub unnamed_redeclared : {before : List ℕ} → Redeclared before k → ⊥
  unnamed_redeclared (Redeclared.register I t x) = clash t n
  unnamed_redeclared (Redeclared.function I t x) = clash t n
  unnamed_redeclared (Redeclared.test I t x) = clash t n

  pub unnamed_misused : {before : List ℕ} {next : ℕ} → eqb k word.comma_key ≡ false → eqb k word.rparen_key ≡ false → Misused before k next → ⊥
  unnamed_misused x y (Misused.register I t d f u) = clash t n
  unnamed_misused x y (Misused.function I t d u) = clash t n
  unnamed_misused x y (Misused.test I t d u) = clash t n
  unnamed_misused x y (Misused.more_arguments I c t e) = eqb-false k word.comma_key x e
  unnamed_misused x y (Misused.fewer_arguments I c t e) = eqb-false k word.rparen_key y e

module _ (k : ℕ) (h : plain k ≡ true) where
  -- the tests one after the other
  plain_tests : (is_name k ≡ false) × (eqb k word.comma_key ≡ false) × (eqb k word.rparen_key ≡ false) × (eqb k word.lbrace_key ≡ false)
      × (eqb k word.tests_key ≡ false) × (eqb k 0 ≡ false) × (eqb k 1 ≡ false)
  plain_tests =
      let (a, x) = nor (is_name k) _ h in
      let (b, y) = nor (eqb k word.comma_key) _ x in
      let (c, z) = nor (eqb k word.rparen_key) _ y in
      let (d, w) = nor (eqb k word.lbrace_key) _ z in
      let (e, v) = nor (eqb k word.tests_key) _ w in
      let (f, u) = nor (eqb k 0) _ v in
      (a, b, c, d, e, f, not-true (eqb k 1) u)

  pub plain_brace : eqb k word.lbrace_key ≡ false
  plain_brace = plain_tests.3

  pub plain_tests_word : eqb k word.tests_key ≡ false
  plain_tests_word = plain_tests.4

  pub plain_real : 2 ≤ k
  plain_real = real k (eqb-false k 0 plain_tests.5) (eqb-false k 1 plain_tests.6)

  pub plain_redeclared : {before : List ℕ} → Redeclared before k → ⊥
  plain_redeclared = unnamed_redeclared k plain_tests.0

  pub plain_misused : {before : List ℕ} {next : ℕ} → Misused before k next → ⊥
  plain_misused = unnamed_misused k plain_tests.0 plain_tests.1 plain_tests.2

  pub plain_deep : {before : List ℕ} → TooDeep before k → ⊥
  plain_deep D = eqb-false k word.lbrace_key plain_tests.3 D.brace

  pub plain_room : {before : List ℕ} → NoRoom before k → ⊥
  plain_room N = eqb-false k word.tests_key plain_tests.4 N.begins

-- The token k does not fit where r is to come.
pub record Stuck (r : Rest) (k : ℕ) : Type 0 where
  pub end : k ≡ 0 → complete r ≡ false
  pub token : (k ≡ 0 → ⊥) → take r k ≡ stuck

pub stuck_at : (r : Rest) (k : ℕ) → complete r ≡ false → take r k ≡ stuck → Stuck r k
stuck_at r k h g = record { end = λ _. h; token = λ _. g }

module _ (s : List ℕ) where
  abbrev pub key_at : ℕ → ℕ
  key_at at = (token_at s at).key

  abbrev pub next_at : ℕ → ℕ
  next_at at = (token_at s (token_at s at).end).key

  abbrev pub NoHere : ℕ → ℕ → ℕ → Type 0
  NoHere i at m = No m (tokens_before s i) (key_at at) (next_at at)

  -- Token i is looked for at the place `at`, r is to come there, and no token before it has a no.
  pub record At (i at : ℕ) (r : Rest) : Type 0 where
    pub place : place_of s i ≡ at
    pub leaves : run start (tokens_before s i) ≡ took r
    pub none_before : (m j : ℕ) → j < i → NoAt s m j → ⊥
    pub reached : Reached s i

  pub here : {i at : ℕ} {r : Rest} (m : ℕ) → At i at r → NoAt s m i → NoHere i at m
  here {i} m A n = subst (λ p. No m (tokens_before s i) (token_at s p).key (token_at s (token_at s p).end).key) A.place n

  there : {i at : ℕ} {r : Rest} (m : ℕ) → At i at r → NoHere i at m → NoAt s m i
  there {i} m A n = subst (λ p. No m (tokens_before s i) (token_at s p).key (token_at s (token_at s p).end).key) (sym A.place) n

  -- the tokens with the one at the place
  pub before_next : {i at : ℕ} {r : Rest} → At i at r → tokens_before s (suc i) ≡ tokens_before s i ++ key_at at ∷ []
  before_next {i} A = ap (λ p. tokens_before s i ++ (token_at s p).key ∷ []) A.place

  run_next : {i at : ℕ} {r : Rest} → At i at r → run start (tokens_before s i ++ key_at at ∷ []) ≡ take r (key_at at)
  run_next {i} {at} {r} A = run_more start (tokens_before s i) (key_at at) ∙ ap (λ t. on_took t λ q. take q (key_at at)) A.leaves

  -- One token is taken.
  pub advance : {i at : ℕ} {r : Rest} → At i at r → (q : Rest) → 2 ≤ key_at at → take r (key_at at) ≡ took q → ((m : ℕ) → NoHere i at m → ⊥)
      → At (suc i) (token_at s at).end q
  advance {i} {at} {r} A q l h c =
      record {
        place = ap (λ p. (token_at s p).end) A.place;
        leaves = ap (λ ws. run start ws) (before_next A) ∙ run_next A ∙ h;
        none_before = λ m j g. by_test (ltb j i) (λ t. A.none_before m j (ltb-true j i t)) λ t n. c m (here m A (subst (NoAt s m) (last j g t) n));
        reached = λ j g. by_test (ltb j i) (λ t. A.reached j (ltb-true j i t)) λ t n. nothing
            (ap (λ p. (token_at s p).key) (sym A.place) ∙ subst (λ j. key_of s j ≡ 0) (last j g t) n);
      }
    where
      last : (j : ℕ) → j < suc i → ltb j i ≡ false → j ≡ i
      last j g t = let x = ltb-false j i t in omega arith

      nothing : key_at at ≡ 0 → ⊥
      nothing e = omega arith

  -- ---- no no at a token

  fits : {i at : ℕ} {r q : Rest} → At i at r → take r (key_at at) ≡ took q → 2 ≤ key_at at → Unfit (tokens_before s i) (key_at at) → ⊥
  fits A h l (Unfit.early e n) = omega arith
  fits {i} {at} {r} {q} A h l (Unfit.misplaced e n) = n (run_viable (tokens_before s i ++ key_at at ∷ []) q (run_next A ∙ h))

  pub none_here : {i at : ℕ} {r q : Rest} → At i at r → take r (key_at at) ≡ took q → 2 ≤ key_at at → (Redeclared (tokens_before s i) (key_at at) → ⊥)
      → (Misused (tokens_before s i) (key_at at) (next_at at) → ⊥) → (TooDeep (tokens_before s i) (key_at at) → ⊥)
      → (NoRoom (tokens_before s i) (key_at at) → ⊥) → (m : ℕ) → NoHere i at m → ⊥
  none_here A h l x y z w m n = lower (suc m) m (omega arith) (λ _ e. omega arith) (λ _ u. fits A h l u) (λ _. x) (λ _. y) (λ _. z) (λ _. w) n

  -- a token that questions 10 to 12 and 16 do not concern
  pub plain_on : {i at : ℕ} {r : Rest} → At i at r → (q : Rest) → plain (key_at at) ≡ true → take r (key_at at) ≡ took q → At (suc i) (token_at s at).end q
  plain_on {i} {at} A q p h = advance A q (plain_real (key_at at) p) h
      (none_here A h (plain_real (key_at at) p) (plain_redeclared (key_at at) p) (plain_misused (key_at at) p) (plain_deep (key_at at) p)
      (plain_room (key_at at) p))

  -- ---- refusals

  pub first_here : {i at : ℕ} {r : Rest} → At i at r → (n : ℕ) → NoHere i at n → ((m : ℕ) → m < n → NoHere i at m → ⊥) → FirstNo s n (token_at s at).start
  first_here {i} A n x y = record {
    index = i;
    reached = A.reached;
    place = sym (ap (λ p. (token_at s p).start) A.place);
    no = there n A x;
    lowest =
        λ m l z. y m l (here m A z);
    first = A.none_before;
  }

  -- by 8 or 9
  pub unfit_judged : {A : Type 0} {P : A → ℕ → Type 0} {i at : ℕ} {r : Rest} → At i at r → Stuck r (key_at at)
      → JudgedReading s A P (reading.refused_token (token_at s at))
  unfit_judged {i = i} {at} {r} A S =
      by_test (eqb (key_at at) 1)
      (λ t. rw t (first (first_here A token_malformed (No.no_token (eqb-true (key_at at) 1 t)) λ m l. lower token_malformed m l (λ x. absurd (omega arith))
      (λ x. absurd (omega arith)) (λ x. absurd (omega arith)) (λ x. absurd (omega arith)) (λ x. absurd (omega arith)) λ x. absurd (omega arith))))
      λ t. rw t (first (first_here A grammar_violated (No.unfit wrong) λ m l. lower grammar_violated m l (λ _. eqb-false (key_at at) 1 t)
      (λ x. absurd (omega arith)) (λ x. absurd (omega arith)) (λ x. absurd (omega arith)) (λ x. absurd (omega arith)) λ x. absurd (omega arith)))
    where
      not_took : (q : Rest) → stuck ≡ took q → ⊥
      not_took q h = let z : ◌≡◌ {A = ℕ} 0 1 = cc in omega arith

      wrong : Unfit (tokens_before s i) (key_at at)
      wrong = by_test (eqb (key_at at) 0)
          (λ t. let e = eqb-true (key_at at) 0 t in Unfit.early e λ n. clash (sentence_run (tokens_before s i) r A.leaves n) (S.end e))
          λ t. let e = eqb-false (key_at at) 0 t in Unfit.misplaced e λ n. let (q, h) = viable_run (tokens_before s i ++ key_at at ∷ []) n in
          not_took q (sym (S.token e) ∙ sym (run_next A) ∙ h)

  pub redeclared_judged : {A : Type 0} {P : A → ℕ → Type 0} {i at : ℕ} {r q : Rest} → At i at r → take r (key_at at) ≡ took q → is_name (key_at at) ≡ true
      → Redeclared (tokens_before s i) (key_at at) → JudgedReading s A P (Got.refused declaration_wrong (token_at s at).start)
  redeclared_judged {at = at} A h t x =
      let l = name_real (key_at at) t in
      first (first_here A declaration_wrong (No.redeclared x) λ m g. lower declaration_wrong m g (λ _ e. omega arith) (λ _. fits A h l)
      (λ y. absurd (omega arith)) (λ y. absurd (omega arith)) (λ y. absurd (omega arith)) λ y. absurd (omega arith))

  pub misused_judged : {A : Type 0} {P : A → ℕ → Type 0} {i at : ℕ} {r q : Rest} → At i at r → take r (key_at at) ≡ took q → 2 ≤ key_at at
      → (Redeclared (tokens_before s i) (key_at at) → ⊥) → Misused (tokens_before s i) (key_at at) (next_at at)
      → JudgedReading s A P (Got.refused use_wrong (token_at s at).start)
  misused_judged A h l d x =
      first (first_here A use_wrong (No.misused x) λ m g. lower use_wrong m g (λ _ e. omega arith) (λ _. fits A h l) (λ _. d) (λ y. absurd (omega arith))
      (λ y. absurd (omega arith)) λ y. absurd (omega arith))

  pub deep_judged : {A : Type 0} {P : A → ℕ → Type 0} {i at : ℕ} {r q : Rest} → At i at r → take r (key_at at) ≡ took q → TooDeep (tokens_before s i) (key_at at)
      → JudgedReading s A P (Got.refused nesting_too_deep (token_at s at).start)
  deep_judged {i = i} {at} A h x =
      let k : key_at at ≡ word.lbrace_key = x.brace in
      first (first_here A nesting_too_deep (No.too_deep x) λ m g. lower nesting_too_deep m g (λ _ e. omega arith) (λ _. fits A h (omega arith))
      (λ _. unnamed_redeclared (key_at at) (ap is_name k))
      (λ _. unnamed_misused (key_at at) (ap is_name k) (ap (λ k. eqb k word.comma_key) k) (ap (λ k. eqb k word.rparen_key) k))
      (λ y. absurd (omega arith)) λ y. absurd (omega arith))

  -- by 16, at the word `tests`
  pub no_room_judged : {A : Type 0} {P : A → ℕ → Type 0} {i at : ℕ} {r q : Rest} → At i at r → take r (key_at at) ≡ took q → NoRoom (tokens_before s i) (key_at at)
      → JudgedReading s A P (Got.refused no_room_for_tests (token_at s at).start)
  no_room_judged {i = i} {at} A h x =
      let k : key_at at ≡ word.tests_key = x.begins in
      first (first_here A no_room_for_tests (No.no_room x) λ m g. lower no_room_for_tests m g (λ _ e. omega arith) (λ _. fits A h (omega arith))
      (λ _. unnamed_redeclared (key_at at) (ap is_name k))
      (λ _. unnamed_misused (key_at at) (ap is_name k) (ap (λ k. eqb k word.comma_key) k) (ap (λ k. eqb k word.rparen_key) k))
      (λ _ D. let z : word.lbrace_key ≡ word.tests_key = sym D.brace ∙ k in omega arith) λ y. absurd (omega arith))
