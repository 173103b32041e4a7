-- What follows from the definitions of specs/Answer.antt: the reading from step to step is the reading of the grammar.
use mathlib.Core.Path.{◌≡◌, refl, sym, ◌∙◌}
use Prim.Native.Nat.{ℕ, ◌+◌, ◌*◌, ◌≤◌, ◌<◌}
use native.Mathlib.Omega.{arith}
use mathlib.Core.List.{List, []}
use lib.Dec.{ltb}
use lib.ListN.{length}
use borrow.Author.Tests.{le-ltb, lt-ltb, ltb-true, ltb-false}
use Rattle.base.proofs.Theory.Choice.{by_test}
use Rattle.letters.specs.Editions.{most_registers}
use Rattle.tokens.specs.Words as word
use Rattle.tokens.specs.Tokens.{token_at}
use Rattle.grammar.specs.Limits.{longest_text, deepest_nesting}
use Rattle.grammar.specs.Reading.{Got, got, exhausted, and_then, expect, register_names, functions_t, tests_t, block, count_t}
use Rattle.grammar.proofs.Theory.Reading.{read_text, read_macro}
use Rattle.syntax.specs.Answer.{body_from, tests_from, functions_from, registers_from, text_read}

assoc : {A B C : Type 0} (x : Got A) (f : A → ℕ → Got B) (g : B → ℕ → Got C) (h : A → ℕ → Got C) → ((a : A) (e : ℕ) → and_then (f a e) g ≡ h a e)
    → and_then (and_then x f) g ≡ and_then x h
assoc (got a e) f g h k = k a e
assoc (Got.refused n p) f g h k = refl
assoc exhausted f g h k = refl

-- a text that is not too long
pub steps : (s : List ℕ) → length s ≤ longest_text → read_macro s ≡ and_then (expect s word.vars_key 0) λ _ a. registers_from s a
unfolding read_macro read_text registers_from functions_from tests_from body_from
steps s h =
    rw (le-ltb longest_text (length s) h)
    (assoc (expect s word.vars_key 0) _ (count_t s) _ λ _ a.
    assoc (register_names s most_registers [] a) _ (count_t s) _ λ rs b.
    assoc (functions_t s rs b (token_at s b)) _ (count_t s) _ λ r c.
    assoc (tests_t s rs r.0 r.1 c (token_at s c)) _ (count_t s) _ λ q d.
    assoc (block s rs q.0 q.1 (length r.0) (2 * length s + 1) deepest_nesting d) _ (count_t s) _ λ body e. refl)

short_text : (s : List ℕ) → length s ≤ longest_text → text_read s ≡ and_then (expect s word.vars_key 0) λ _ a. registers_from s a
unfolding text_read
short_text s h = rw (le-ltb longest_text (length s) h)

long_text : (s : List ℕ) → longest_text < length s → text_read s ≡ read_macro s
unfolding text_read read_macro read_text
long_text s h = rw (lt-ltb longest_text (length s) h)

-- the reading from step to step is the reading of the grammar
pub text_read_macro : (s : List ℕ) → text_read s ≡ read_macro s
text_read_macro s = by_test (ltb longest_text (length s)) (λ t. long_text s (ltb-true longest_text (length s) t)) λ t.
    let l : length s ≤ longest_text = (let g = ltb-false longest_text (length s) t in omega arith) in short_text s l ∙ sym (steps s l)
