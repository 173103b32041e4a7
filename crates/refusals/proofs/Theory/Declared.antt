-- The tokens that declare a macro's names: which tokens of the text they are, and that they have the names' keys and spellings (SPEC 8.3, 8.4).
use mathlib.Core.Path.{◌≡◌, refl, sym, ap, ◌∙◌}
use Prim.Native.Nat.{ℕ, zero, suc, ◌+◌, ◌*◌, ◌-◌, ◌≤◌, ◌<◌}
use native.Mathlib.Omega.{arith}
use native.Mathlib.Nat.{mul-suc}
use mathlib.Core.List.{List, [], ◌∷◌, ◌++◌}
use mathlib.Core.Bool.{false}
use lib.Dec.{eqb, ltb}
use lib.ListN.{length, get_or, take, drop, length-append, length-drop, get_or-append}
use lib.Seq.{length-take-le, get_or-take, get_or-drop, get_or-append-add}
use borrow.Author.Tests.{ltb-true, ltb-false, ne_eqb}
use Rattle.base.proofs.Theory.Choice.{by_test}
use Rattle.tokens.specs.Tokens.{token_at, place_behind, place_of, spellings}
use Rattle.tokens.proofs.Theory.TokensLaws.{behind_both, spellings_length, spelling_at}
use Rattle.grammar.specs.Grammar.{Macro, sentence, entry_tokens, line_tokens}
use Rattle.grammar.specs.Spelled.{Spells, Spelled, Arities, first_register, first_function, first_test_token, entry_length, line_length, function_token}
use Rattle.grammar.proofs.Theory.Parts.{arities_take, arities_drop}
use Rattle.tokens.specs.Words as word

-- ---- element i of a list

pub record Holds (ks : List ℕ) (i k : ℕ) : Type 0 where
  pub within : i < length ks
  pub element : get_or ks i 0 ≡ k

held_before : (ks ls : List ℕ) (i k : ℕ) → Holds ks i k → Holds (ks ++ ls) i k
held_before ks ls i k H = record { within = omega (arith, length-append ks ls); element = get_or-append ks ls 0 i H.within ∙ H.element }

held_behind : (ks ls : List ℕ) (i k : ℕ) → Holds ls i k → Holds (ks ++ ls) (length ks + i) k
held_behind ks ls i k H = record { within = omega (arith, length-append ks ls); element = get_or-append-add ks ls i 0 ∙ H.element }

held_cons : (j : ℕ) {ks : List ℕ} {i k : ℕ} → Holds ks i k → Holds (j ∷ ks) (suc i) k
held_cons j H = record { within = omega arith; element = H.element }

pub three_more : (f : ℕ) → entry_length * suc f ≡ suc (suc (suc (entry_length * f)))
three_more f = omega (arith, mul-suc entry_length f)

-- an entry is three tokens, the first of them the function's name
entry_held : {fs ns : List ℕ} → Arities fs ns → (f : ℕ) → f < length fs → Holds (entry_tokens fs ns) (entry_length * f) (get_or fs f 0)
unfolding entry_tokens
entry_held Arities.none f h = absurd (omega arith)
entry_held (Arities.one a) zero h = record { within = omega arith; element = refl }
entry_held (Arities.one a) (suc f) h = rw (three_more f) (held_cons _ (held_cons _ (held_cons _ (entry_held a f (omega arith)))))
entry_held (Arities.two a) zero h = record { within = omega arith; element = refl }
entry_held (Arities.two a) (suc f) h = rw (three_more f) (held_cons _ (held_cons _ (held_cons _ (entry_held a f (omega arith)))))

entries_length : {fs ns : List ℕ} → Arities fs ns → length (entry_tokens fs ns) ≡ entry_length * length fs
unfolding entry_tokens
entries_length Arities.none = refl
entries_length (Arities.one {fs = fs} a) = omega (arith, entries_length a, three_more (length fs))
entries_length (Arities.two {fs = fs} a) = omega (arith, entries_length a, three_more (length fs))

-- behind the word that a line begins with
line_held : (j : ℕ) (fs : List ℕ) {ns : List ℕ} → Arities fs ns → (f : ℕ) → f < length fs → Holds (line_tokens j fs ns) (suc (entry_length * f)) (get_or fs f 0)
unfolding line_tokens
line_held j [] a f h = absurd (omega arith)
line_held j (g ∷ fs) {ns} a f h = held_cons _ (held_before (entry_tokens (g ∷ fs) ns) _ _ _ (entry_held a f h))

pub line-length : (j : ℕ) (fs : List ℕ) {ns : List ℕ} → Arities fs ns → length (line_tokens j fs ns) ≡ line_length (length fs)
unfolding line_tokens
line-length j [] a = refl
line-length j (g ∷ fs) {ns} a =
    let n = length-append (entry_tokens (g ∷ fs) ns) (word.semicolon_key ∷ []) in
    let e : eqb (suc (length fs)) 0 ≡ false = ne_eqb (suc (length fs)) 0 (λ z. omega arith) in
    rw e (omega (arith, entries_length a))

-- ---- the sentence of a macro

module _ (m : Macro) where
  pub register_held : (r : ℕ) → r < length m.registers → Holds (sentence m) (first_register + r) (get_or m.registers r 0)
  unfolding sentence
  register_held r h = rw (let e : 1 + r ≡ suc r = omega arith in e)
      (held_cons _ (held_before m.registers _ r _ (record { within = h; element = refl })))

  -- a function below number `first_test` stands in the line of functions, the others in that of tests
  function_before : Arities m.functions m.arities → (f : ℕ) → f < length m.functions → f < m.first_test
      → Holds (sentence m) (first_function (length m.registers) + entry_length * f) (get_or m.functions f 0)
  unfolding sentence
  function_before a f h l =
      let t = m.first_test in
      rw (
        let e : length m.registers + 3 + 3 * f ≡ suc (length m.registers + suc (suc (3 * f))) = omega arith in e,
        ← get_or-take t m.functions f 0 l,
      )
      (held_cons _ (held_behind m.registers _ (suc (suc (3 * f))) _ (held_cons _ (held_before _ _ _ _ (held_before _ _ _ _
      (line_held word.funs_key (take t m.functions) (arities_take t a) f (taken t m.functions f l h)))))))
    where
      taken : (t : ℕ) (fs : List ℕ) (f : ℕ) → f < t → f < length fs → f < length (take t fs)
      taken zero fs f l h = absurd (omega arith)
      taken (suc t) [] f l h = absurd (omega arith)
      taken (suc t) (g ∷ fs) zero l h = omega arith
      taken (suc t) (g ∷ fs) (suc f) l h = omega (arith, taken t fs f (omega arith) (omega arith))

  test_behind : Arities m.functions m.arities → (f : ℕ) → f < length m.functions → m.first_test ≤ f
      → Holds (sentence m) (first_test_token (length m.registers) m.first_test + entry_length * (f - m.first_test)) (get_or m.functions f 0)
  unfolding sentence
  test_behind a f h l =
      let t = m.first_test in
      let L = line_tokens word.funs_key (take t m.functions) (take t m.arities) in
      let n : length L ≡ line_length t = line-length word.funs_key (take t m.functions) (arities_take t a)
      ∙ ap line_length (length-take-le t m.functions (omega arith)) in
      let d = length-drop t m.functions in
      let g : get_or (drop t m.functions) (f - t) 0 ≡ get_or m.functions f 0 =
      get_or-drop t m.functions (f - t) 0 ∙ ap (λ f. get_or m.functions f 0) (let e : t + (f - t) ≡ f = omega arith in e) in
      rw (
        let e : first_test_token (length m.registers) t + 3 * (f - t)
            ≡ suc (length m.registers + suc (length L + suc (3 * (f - t)))) = omega arith in e,
        ← g,
      )
      (held_cons _ (held_behind m.registers _ (suc (length L + suc (3 * (f - t)))) _ (held_cons _ (held_before _ _ _ _ (held_behind L _ _ _
      (line_held word.tests_key (drop t m.functions) (arities_drop t a) (f - t) (omega arith)))))))

  pub function_held : Arities m.functions m.arities → (f : ℕ) → f < length m.functions
      → Holds (sentence m) (function_token (length m.registers) m.first_test f) (get_or m.functions f 0)
  function_held a f h =
      by_test (ltb f m.first_test) (λ t. rw t (function_before a f h (ltb-true f m.first_test t)))
      λ t. rw t (test_behind a f h (ltb-false f m.first_test t))

-- ---- token i of a text

pub spells_at : (s : List ℕ) {at e : ℕ} {ks : List ℕ} → Spells s at ks e → (i k : ℕ) → Holds ks i k → (token_at s (place_behind s at i)).key ≡ k
spells_at s Spells.none i k H = absurd (let z = H.within in omega arith)
spells_at s (Spells.more e l p) zero k H = e ∙ H.element
spells_at s (Spells.more {at} e l p) (suc i) k H =
    ap (λ n. (token_at s n).key) (ap (place_behind s at) (let z : suc i ≡ 1 + i = omega arith in z) ∙ sym (behind_both s at 1 i))
    ∙ spells_at s p i k (record { within = let z = H.within in omega arith; element = H.element })

-- name k of those whose spellings are collected from token `first` on, each the `step`-th behind the one before
spelled_at : (s : List ℕ) (first step n : ℕ) {names : List ℕ} → names ≡ spellings s (place_of s first) step n → (k : ℕ) → k < n
    → (token_at s (place_of s (first + step * k))).spelling ≡ get_or names k 0
spelled_at s first step n e k h =
    ap (λ at. (token_at s at).spelling) (sym (behind_both s 0 first (step * k)))
    ∙ sym (spelling_at s (place_of s first) step n k h)
    ∙ ap (λ l. get_or l k 0) (sym e)

-- ---- the names of a macro that a text spells

module _ (text : List ℕ) (m : Macro) (S : Spelled text m) where
  -- register r is declared by token 1 + r
  pub register_declared : (r : ℕ) → r < length m.registers → (token_at text (place_of text (first_register + r))).key ≡ get_or m.registers r 0
  register_declared r h = spells_at text S.tokens (first_register + r) _ (register_held m r h)

  pub register_spelled : (r : ℕ) → r < length m.registers → (token_at text (place_of text (first_register + r))).spelling ≡ get_or m.register_spellings r 0
  register_spelled r h = rw (let e : first_register + r ≡ first_register + 1 * r = omega arith in e)
      (spelled_at text first_register 1 (length m.registers) S.register_spellings r h)

  -- and function f by the first token of its entry
  pub function_declared : Arities m.functions m.arities → (f : ℕ) → f < length m.functions
      → (token_at text (place_of text (function_token (length m.registers) m.first_test f))).key ≡ get_or m.functions f 0
  function_declared a f h = spells_at text S.tokens (function_token (length m.registers) m.first_test f) _ (function_held m a f h)

  pub function_spelled : (f : ℕ) → f < length m.functions
      → (token_at text (place_of text (function_token (length m.registers) m.first_test f))).spelling ≡ get_or m.function_spellings f 0
  function_spelled f h =
      let n = length m.registers in
      let t = m.first_test in
      let A = spellings text (place_of text (first_function n)) entry_length t in
      let B = spellings text (place_of text (first_test_token n t)) entry_length (length m.functions - t) in
      let a : length A ≡ t = spellings_length text (place_of text (first_function n)) entry_length t in
      by_test (ltb f t)
      (λ u. let l = ltb-true f t u in
      rw u (spelled_at text (first_function n) entry_length t {names = A} refl f l ∙ sym (get_or-append A B 0 f (omega arith))
      ∙ ap (λ l. get_or l f 0) (sym S.function_spellings)))
      λ u. let l = ltb-false f t u in
      let e : f ≡ length A + (f - t) = omega arith in
      rw u (spelled_at text (first_test_token n t) entry_length (length m.functions - t) {names = B} refl (f - t) (omega arith)
      ∙ sym (get_or-append-add A B (f - t) 0) ∙ ap (λ g. get_or (A ++ B) g 0) (sym e) ∙ ap (λ l. get_or l f 0) (sym S.function_spellings))
