-- The laws of answers as the code holds them.
use Rattle.std.proofs.Common.{◌≡◌, ℕ, ◌+◌, ◌<◌, ◌≤◌, Bool, true, false, List, ◌∷◌, length, refl, sym, ap, ◌∙◌, arith, cond, ltb, leb, ◌⊎◌, inl, inr}
use Rattle.std.proofs.Common.{Result, Ok, Err, Option, Some, None}
use borrow.Author.Tests.{lt-ltb, le-ltb, le-leb, lt-leb, ltb-false}
use Rattle.std.specs.List.{position, position_or_len}
use Rattle.std.specs.Option.{is_some}
use Rattle.std.specs.Result.{IsErr, IsErrAnd}
use Rattle.std.proofs.lemmas.Result.{err_from_is_err_and}
use Rattle.std.proofs.lemmas.List.Recursion.{is_position_or_len}
use Rattle.base.proofs.Theory.Choice.{by_test}
use Rattle.letters.specs.MacroRefusalNumbers.{use_wrong}
use Rattle.letters.specs.declared.reasons.Refused.{Refused}
use Rattle.tokens.specs.declared.Token.{Token}
use Rattle.tokens.specs.Words.{same_name, is_name}
use Rattle.grammar.specs.Reading as reading
use Rattle.phrases.specs.Codes.{refused_as, unfit, read_as, coded, plain, without_value, sign_of, comparing, test_of}

-- ---- the place of a name in a list

index_is : (k : ℕ) (l : List ℕ) → reading.index_of k l ≡ position_or_len (λ x. same_name k x) l
unfolding reading.index_of
index_is k l = is_position_or_len (reading.index_of k) (λ x. same_name k x) refl one l
  where
    one : (x : ℕ) (xs : List ℕ) → reading.index_of k (x ∷ xs) ≡ cond (same_name k x) 0 (1 + reading.index_of k xs)
    one x xs = by_test (same_name k x) (λ t. rw t refl) λ t. rw t (omega arith)

pub found : (k : ℕ) (l : List ℕ) → position (λ x. same_name k x) l ≡ cond (reading.is_declared k l) (Some (reading.index_of k l)) None
found k l = rw index_is refl

pub known : (k : ℕ) (l : List ℕ) → is_some (position (λ x. same_name k x) l) ≡ reading.is_declared k l
known k l = ap is_some (found k l) ∙ one (reading.is_declared k l)
  where
    one : (b : Bool) → is_some (cond b (Some (reading.index_of k l)) None) ≡ b
    one true = refl
    one false = refl

-- ---- a refusal stands, whatever would have followed

pub refused_on : {A B X Y : Type 0} (f : A → ℕ → X) (h : B → ℕ → Y) (g : reading.Got A) (k : A → ℕ → reading.Got B) {r : Result X Refused} {e : Refused}
    → r ≡ read_as f g → r ≡ Err e → Err e ≡ read_as h (reading.and_then g k)
refused_on f h (reading.got a p) k i j = cc
refused_on f h (reading.refused n p) k i j = cc
refused_on f h reading.exhausted k i j = cc

-- the same at the exit of a `?`
pub passed_on : {A B X Y : Type 0} (f : A → ℕ → X) (h : B → ℕ → Y) (g : reading.Got A) (k : A → ℕ → reading.Got B) {r : Result X Refused} {e : Refused}
    {w : Result Y Refused} → r ≡ read_as f g → r ≡ Err e → IsErr w × IsErrAnd w (λ d. d ≡ e) → w ≡ read_as h (reading.and_then g k)
passed_on f h g k {w = w} i j o =
    let (d, p, q) = err_from_is_err_and w o.1 in
    p ∙ ap Err q ∙ refused_on f h g k i j

-- ---- what stands behind an answer that is no refusal

pub coded_on : {A X : Type 0} (f : A → X) (g : reading.Got A) {r : Result (X × ℕ) Refused} {x : X} {e : ℕ} → r ≡ coded f g → r ≡ Ok (x, e)
    → (a : A) × (g ≡ reading.got a e) × (x ≡ f a)
coded_on {X = X} f (reading.got a e') {x = x} {e = e} i j =
    let h : ◌≡◌ {A = X × ℕ} (x, e) (f a, e') = cc in
    (a, ap (reading.got a) (sym (ap (λ (p : X × ℕ). p.1) h)), ap (λ (p : X × ℕ). p.0) h)
coded_on f (reading.refused n p) i j = absurd (cc)
coded_on f reading.exhausted i j = absurd (cc)

pub plain_on : (g : reading.Got ℕ) {r : Result (ℕ × ℕ) Refused} {x e : ℕ} → r ≡ plain g → r ≡ Ok (x, e) → g ≡ reading.got x e
plain_on g i j = let (y, h, k) = coded_on (λ n. n) g i j in rw k h

pub place_on : (g : reading.Got (Unit {0})) {r : Result ℕ Refused} {e : ℕ} → r ≡ without_value g → r ≡ Ok e → g ≡ reading.got tt e
place_on (reading.got a e') {e = e} i j = let h : e' ≡ e = cc in ap (reading.got tt) h
place_on (reading.refused n p) i j = absurd (cc)
place_on reading.exhausted i j = absurd (cc)

-- ---- conditions

-- a sign makes the test that it stands for
pub compared_test : (n : ℕ) (q : Bool) (x y : ℕ) → comparing (sign_of q) x y ≡ test_of n (reading.compared q x y)
compared_test n true x y = refl
compared_test n false x y = refl

-- ---- a use

module _ (l : List ℕ) (t : Token) where
  pub used_some : {r : Option ℕ} {i : ℕ} → is_name t.key ≡ true → r ≡ position (λ x. same_name t.key x) l → r ≡ Some i → Ok (i, t.end) ≡ plain
      (reading.use_t l t)
  used_some {r} {i} n e j =
      let f : r ≡ cond (reading.is_declared t.key l) (Some (reading.index_of t.key l)) None = e ∙ found t.key l in
      by_test (reading.is_declared t.key l)
      (λ d. let g = rw d at f in let h : reading.index_of t.key l ≡ i = cc in rw (n, d, h) refl)
      λ d. let g = rw d at f in absurd (cc)

  pub used_none : {r : Option ℕ} → is_name t.key ≡ true → r ≡ position (λ x. same_name t.key x) l → r ≡ None
      → Err (refused_as use_wrong t.start) ≡ plain (reading.use_t l t)
  used_none {r} n e j =
      let f : r ≡ cond (reading.is_declared t.key l) (Some (reading.index_of t.key l)) None = e ∙ found t.key l in
      by_test (reading.is_declared t.key l) (λ d. let g = rw d at f in absurd (cc)) λ d. rw (n, d) refl

  pub unused : {e : Refused} → is_name t.key ≡ false → e ≡ unfit t → Err e ≡ plain (reading.use_t l t)
  unused n e = rw (n, e) refl

  -- a use that was read
  used : {f e : ℕ} → reading.use_t l t ≡ reading.got f e → (is_name t.key ≡ true) × (reading.index_of t.key l ≡ f) × (t.end ≡ e)
  used {f} {e} h =
      by_test (is_name t.key)
      (λ n. let g = rw n at h in by_test (reading.is_declared t.key l)
      (λ d. let k = rw d at g in (n, (cc), (cc)))
      λ d. let k = rw d at g in absurd (cc))
      λ n. let g = rw n at h in absurd (cc)

  module _ (from to : ℕ) where
    pub between_within : {r : Result (ℕ × ℕ) Refused} {f e : ℕ} → r ≡ plain (reading.use_t l t) → r ≡ Ok (f, e) → from ≤ f → f < to
        → Ok (f, e) ≡ plain (reading.use_between l from to t)
    between_within {f = f} i j low high =
        let (n, x, y) = used (plain_on (reading.use_t l t) i j) in
        rw (n, x, le-leb from f low, lt-ltb f to high, y) refl

    pub between_outside : {r : Result (ℕ × ℕ) Refused} {f e : ℕ} → r ≡ plain (reading.use_t l t) → r ≡ Ok (f, e) → (f < from) ⊎ (to ≤ f)
        → Err (refused_as use_wrong t.start) ≡ plain (reading.use_between l from to t)
    between_outside {f = f} i j out =
        let (n, x, y) = used (plain_on (reading.use_t l t) i j) in
        rw (n, x) (elim out [ inl h ↦ rw (lt-leb from f h) refl | inr h ↦ rw (le-ltb f to h) (by_test (leb from f) (λ b. rw b refl) λ b. rw b refl) ])

    pub between_refused : {r w : Result (ℕ × ℕ) Refused} {e : Refused} → to ≤ length l → r ≡ plain (reading.use_t l t) → r ≡ Err e
        → IsErr w × IsErrAnd w (λ d. d ≡ e) → w ≡ plain (reading.use_between l from to t)
    between_refused {r} {w} {e} few i j o =
        let (d, p, q) = err_from_is_err_and w o.1 in
        p ∙ ap Err q ∙ by_test (is_name t.key)
        (λ n. let g = rw n at i in by_test (reading.is_declared t.key l)
        (λ d. let k = rw d at g in absurd (cc))
        λ d. let k = rw d at g in
        let h : ltb (reading.index_of t.key l) to ≡ false = le-ltb (reading.index_of t.key l) to (omega (
          arith,
          ltb-false (reading.index_of t.key l)
              (length l) d,
        )) in
        rw (n, h) (by_test (leb from (reading.index_of t.key l)) (λ b. rw b (cc)) λ b. rw b (cc)))
        λ n. let g = rw n at i in rw n (cc)
