-- What is made of the arguments of a call may be made of the letter that applies the function.
use Rattle.std.proofs.Common.{◌≡◌, ℕ, Bool, true, false, List, length, get_or, refl, ap, ◌∙◌, eqb, Result, Ok, Err, Some, None}
use Rattle.std.specs.Result.{IsErr, IsErrAnd}
use Rattle.std.proofs.lemmas.Result.{err_from_is_err_and}
use Rattle.base.proofs.Theory.Choice.{by_test}
use Rattle.letters.specs.declared.Letter.{Letter}
use Rattle.letters.specs.declared.Letter.TheVariants.{Apply}
use Rattle.letters.specs.declared.reasons.Refused.{Refused}
use Rattle.tokens.specs.declared.Token.{Token}
use Rattle.tokens.specs.Tokens.{token_at}
use Rattle.tokens.specs.Words as word
use Rattle.grammar.specs.Tree.{letter_of, apply}
use Rattle.grammar.specs.Tree as written
use Rattle.grammar.specs.Expanded.{truth_register}
use Rattle.grammar.specs.Reading as reading
use Rattle.phrases.specs.Codes.{lettered, same_letter, comparing, condition_by, call_at, test_of, asked}
use Rattle.phrases.specs.declared.Condition as held
use Rattle.phrases.specs.declared.Sign.{Sign}
use Rattle.phrases.specs.declared.Sign.TheVariants as sign

-- answers to which F and G give the same where they are refusals, and where they are what is made of the same arguments, are the same
module _ {A B X : Type 0} (F : reading.Got A → X) (G : reading.Got B → X) (no : (n p : ℕ) → F (reading.refused n p) ≡ G (reading.refused n p))
    (never : F reading.exhausted ≡ G reading.exhausted) where
  then_alike : {C : Type 0} (u : reading.Got C) (f : C → ℕ → reading.Got A) (g : C → ℕ → reading.Got B) → ((c : C) (e : ℕ) → F (f c e) ≡ G (g c e))
      → F (reading.and_then u f) ≡ G (reading.and_then u g)
  then_alike (reading.got c e) f g h = h c e
  then_alike (reading.refused n p) f g h = no n p
  then_alike reading.exhausted f g h = never

  module _ (s rs : List ℕ) where
    arguments_alike : (make : ℕ → ℕ → A) (make' : ℕ → ℕ → B) → ((y z e : ℕ) → F (reading.got (make y z) e) ≡ G (reading.got (make' y z) e))
        → (n y : ℕ) (t : Token) → F (reading.arguments_t s rs make n y t) ≡ G (reading.arguments_t s rs make' n y t)
    unfolding reading.arguments_t
    arguments_alike make make' h n y t =
        by_test (eqb t.key word.comma_key)
        (λ a. rw a (by_test (eqb n 2) (λ b. rw b
        (then_alike (reading.use_t rs (token_at s t.end)) _ _ λ z e. then_alike (reading.expect s word.rparen_key e) _ _ λ _ e. h y z e)) λ b. rw b (no _ _)))
        λ a. rw a (by_test (eqb t.key word.rparen_key) (λ b. rw b (by_test (eqb n 2) (λ c. rw c (no _ _)) λ c. rw c (h y y t.end))) λ b. rw b (no _ _))

    pub call_alike : (fs ns : List ℕ) (make : ℕ → ℕ → ℕ → A) (make' : ℕ → ℕ → ℕ → B)
        → ((f y z e : ℕ) → F (reading.got (make f y z) e) ≡ G (reading.got (make' f y z) e)) → (from to at : ℕ)
        → F (call_at s rs fs ns make from to at) ≡ G (call_at s rs fs ns make' from to at)
    unfolding reading.applied
    call_alike fs ns make make' h from to at =
        then_alike (reading.use_between fs from to (token_at s at)) _ _ λ f a. then_alike (reading.expect s word.lparen_key a) _ _
        λ _ b. then_alike (reading.use_t rs (token_at s b)) _ _ λ y e. arguments_alike (make f) (make' f) (h f) (get_or ns f 0) y (token_at s e)

-- ---- a condition

-- a letter that was read, as the condition of which it is the test, and as that of which it applies the named test
abbrev pub compares : Letter → held.Condition
compares l = record { application = None; test = l }

abbrev pub names : Letter → Letter → held.Condition
names c l = record { application = Some l; test = c }

abbrev pub as_condition : (Letter → held.Condition) → Result (Letter × ℕ) Refused → Result (held.Condition × ℕ) Refused
as_condition f (Ok p) = Ok (f p.0, p.1)
as_condition f (Err e) = Err e

pub as_read : (f : Letter → held.Condition) {r : Result (Letter × ℕ) Refused} {l : Letter} {e : ℕ} → r ≡ Ok (l, e) → Ok (f l, e) ≡ as_condition f r
as_read f i = rw i refl

pub as_refused : (f : Letter → held.Condition) {r : Result (Letter × ℕ) Refused} {e : Refused} {w : Result (held.Condition × ℕ) Refused} → r ≡ Err e
    → IsErr w × IsErrAnd w (λ d. d ≡ e) → w ≡ as_condition f r
as_refused f {w = w} i o = let (d, p, q) = err_from_is_err_and w o.1 in rw i (p ∙ ap Err q)

module _ (n : ℕ) (s rs : List ℕ) where
  pub named-test : (fs ns : List ℕ) (m at : ℕ) (q : Sign) {x : ℕ} {r : Result (Letter × ℕ) Refused} → x ≡ n
      → r ≡ lettered same_letter (call_at s rs fs ns (Apply x) m (length fs) at)
      → as_condition (names (comparing q n (truth_register n))) r ≡ asked n (reading.named_test s rs fs ns m (condition_by q) at)
  unfolding reading.named_test
  named-test fs ns m at q i g =
      ap (as_condition (names (comparing q n (truth_register n)))) (g ∙ ap (λ x. lettered same_letter (call_at s rs fs ns (Apply x) m (length fs) at)) i)
      ∙ call_alike (λ r. as_condition (names (comparing q n (truth_register n))) (lettered same_letter r)) (asked n) (λ _ _. refl) refl s rs fs ns (Apply n)
      (condition_by q) (one q) m (length fs) at
    where
      one : (q : Sign) (f y z e : ℕ) → Ok (names (comparing q n (truth_register n)) (Apply n f y z), e) ≡ asked n (reading.got (condition_by q f y z) e)
      one sign.Equal f y z e = refl
      one sign.Unequal f y z e = refl

  -- a comparison is a condition that performs nothing before its test
  pub comparison_asked : (at : ℕ) {r : Result (Letter × ℕ) Refused} → r ≡ lettered (test_of n) (reading.comparison s rs at)
      → as_condition compares r ≡ asked n (reading.comparison s rs at)
  unfolding reading.comparison
  comparison_asked at g =
      ap (as_condition compares) g
      ∙ alike (reading.use_t rs (token_at s at)) _ _ λ x a. alike (reading.sign_t (token_at s a)) _ _ λ q b. alike (reading.use_t rs (token_at s b)) _ _
      λ y e. one q x y e
    where
      alike : {C : Type 0} (u : reading.Got C) (f g : C → ℕ → reading.Got written.Condition)
          → ((c : C) (e : ℕ) → as_condition compares (lettered (test_of n) (f c e)) ≡ asked n (g c e))
          → as_condition compares (lettered (test_of n) (reading.and_then u f)) ≡ asked n (reading.and_then u g)
      alike u f g h = then_alike (λ r. as_condition compares (lettered (test_of n) r)) (asked n) (λ _ _. refl) refl u f g h

      one : (q : Bool) (x y e : ℕ) → Ok (compares (test_of n (reading.compared q x y)), e) ≡ asked n (reading.got (reading.compared q x y) e)
      one true x y e = refl
      one false x y e = refl

-- ---- a value

pub value_applied : (s rs fs ns : List ℕ) (m x at : ℕ) {r : Result (Letter × ℕ) Refused} → r ≡ lettered same_letter (call_at s rs fs ns (Apply x) 0 m at)
    → r ≡ lettered letter_of (call_at s rs fs ns (apply x) 0 m at)
value_applied s rs fs ns m x at i =
    i ∙ call_alike (lettered same_letter) (lettered letter_of) (λ _ _. refl) refl s rs fs ns (Apply x) (apply x) (λ _ _ _ _. refl) 0 m at
