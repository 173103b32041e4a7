-- The print of a macro is read as that macro without its empty elses (SPEC 8.6).
use mathlib.Core.Path.{◌≡◌, refl, sym, ap, ◌∙◌, subst}
use Prim.Native.Nat.{ℕ, zero, suc, ◌+◌, ◌*◌, ◌-◌, ◌≤◌, ◌<◌}
use native.Mathlib.Omega.{arith}
use mathlib.Core.Bool.{Bool, true, false, ◌&&◌}
use mathlib.Core.List.{List, [], ◌∷◌, ◌++◌}
use lib.Dec.{ltb, leb, eqb}
use lib.ListN.{length, get_or, take, drop, length-append, length-drop, take-append-drop}
use lib.Seq.{get_or-take, get_or-drop, length-take-le, ext_get_or}
use borrow.Author.Tests.{eqb-true, eqb-false, ltb-true, lt-ltb, le-ltb}
use Rattle.base.specs.Recursion.{within_calls, fixed}
use Rattle.base.proofs.Theory.Choice.{by_test}
use Rattle.letters.proofs.Theory.WordLaws.{and_true}
use Rattle.tokens.specs.Bytes.{letter, inner, symbol, negation, mark, gap, name_length, longest_name, width, key, spelling}
use Rattle.tokens.specs.Words.{is_name}
use Rattle.tokens.specs.Words as word
use Rattle.tokens.specs.Tokens.{token_at, bytes_at, place_behind, place_of, spellings}
use Rattle.tokens.proofs.Theory.BytesLaws.{width_le}
use Rattle.tokens.proofs.Theory.Keys.{slice_take, token_held}
use Rattle.tokens.proofs.Theory.TokensLaws.{behind_both, spelling_at, spellings_length}
use Rattle.tokens.proofs.Theory.WordsLaws.{name_real}
use Rattle.text.specs.Names.{name_text}
use Rattle.text.proofs.Theory.Names.{name_back}
use Rattle.grammar.specs.Grammar.{Macro, sentence}
use Rattle.grammar.specs.Spelled.{Spelled, InOrder, Arities, first_register, register_length, first_function, first_test_token, entry_length, spelled_registers}
use Rattle.grammar.specs.Spelled.{spelled_functions}
use Rattle.refusals.specs.Accepted.{Accepted}
use Rattle.refusals.specs.Order.{Refusal}
use Rattle.refusals.proofs.Theory.Basics.{clash}
use Rattle.refusals.proofs.Theory.Accepted.{never_both}
use Rattle.refusals.proofs.Theory.Declared.{Holds, register_held, function_held, register_declared, register_spelled, function_declared, function_spelled}
use Rattle.layout_theory.specs.Layout.{without_empty_elses, as_declared, spaced, print_tokens, house_layout, longest_print}
use Rattle.layout_theory.proofs.Theory.Pairs.{fixed_tokens, is_fixed_token, plain_token, pass_among, begins_append, Pairwise, Tokenwise}
use Rattle.layout_theory.proofs.Theory.Pairs.{sentence_tokenwise, sentence_pairs}
use Rattle.layout_theory.proofs.Theory.Dropping.{order_short, size_short, macro_short_twice}
use Rattle.layout_theory.proofs.Theory.Spaced.{OneToken, HeldAs, Unjoined, SpellsAs, SpelledWhole}
use Rattle.layout_theory.proofs.Theory.Spaced.{spells_keys, all_printed, spaced_spelled}

-- ---- words and signs

-- one computed test for each of them
abbrev fixed_test : ℕ → Bool
fixed_test k =
    (ltb 0 (length (name_text k)) && eqb (width (name_text k)) (length (name_text k)))
    && (eqb (spelling (name_text k)) k && (eqb (key (name_text k)) k && ltb word.wrong (key (name_text k))))

tested : (k : ℕ) → fixed_test k ≡ true → HeldAs k k
tested k t =
    let b = name_text k in
    let (one, rest) = and_true (ltb 0 (length b) && eqb (width b) (length b)) (eqb (spelling b) k && (eqb (key b) k && ltb word.wrong (key b))) t in
    let (some, whole) = and_true (ltb 0 (length b)) (eqb (width b) (length b)) one in
    let (back, numbers) = and_true (eqb (spelling b) k) (eqb (key b) k && ltb word.wrong (key b)) rest in
    let (known, real) = and_true (eqb (key b) k) (ltb word.wrong (key b)) numbers in
    record {
      printed = record {
        one = record { some = ltb-true 0 (length b) some; whole = eqb-true (width b) (length b) whole };
        back = eqb-true (spelling b) k back;
        real = ltb-true word.wrong (key b) real;
      };
      known = eqb-true (key b) k known;
    }

-- a word or a sign is printed as itself
fixed_printed : (k : ℕ) → is_fixed_token k ≡ true → HeldAs k k
unfolding name_text fixed within_calls width name_length
fixed_printed k t = tested k (pass_among fixed_test fixed_tokens refl k t)

-- ---- `!`

-- A name that is held as the number w: this is neither `!` nor `=`.
record NameHeld (k w : ℕ) : Type 0 where
  real : is_name k ≡ true
  held : HeldAs k w

name_no_sign : {k w : ℕ} → NameHeld k w → (j : ℕ) → is_name (key (name_text j)) ≡ false → w ≡ j → ⊥
name_no_sign r j f e = clash r.real (ap is_name (sym r.held.known ∙ ap (λ i. key (name_text i)) e) ∙ f)

unjoined_append : (ws vs : List ℕ) → Unjoined ws → Unjoined vs → Unjoined (ws ++ vs)
unjoined_append [] vs U W = W
unjoined_append (w ∷ ws) vs (u, U) W = (λ e. begins_append word.equal_key ws vs (u e), unjoined_append ws vs U W)

-- Behind `!` stands a name.
unjoined_tokenwise : Tokenwise NameHeld (λ ks ws. Unjoined ws)
unfolding name_text fixed within_calls
unjoined_tokenwise = record {
  none = tt;
  append = λ {ks} {ws} {us} {vs} U W. unjoined_append ws vs U W;
  plain = λ k t U. (λ e. absurd (eqb-false k word.not_key (plain_token k t).1 e), U);
  name = λ r U. (λ e. absurd (name_no_sign r word.not_key refl e), U);
  negated = λ r U. (λ e. name_no_sign r word.equal_key refl, U);
}

-- ---- the tokens of a text

run_take : (r : List ℕ) → name_length (take (name_length r) r) ≡ name_length r
unfolding name_length
run_take [] = refl
run_take (b ∷ r) = by_test (inner b) (λ t. rw t (rw t (ap suc (run_take r)))) λ t. rw t

name_take : (b : ℕ) (r : List ℕ) → letter b ≡ true → leb (name_length (b ∷ r)) longest_name ≡ true
    → width (take (name_length (b ∷ r)) (b ∷ r)) ≡ name_length (b ∷ r)
unfolding width name_length
name_take b r t = rw t λ u. rw (t, run_take r, u)

-- the bytes of a token are a token by themselves
width_take : (r : List ℕ) → width (take (width r) r) ≡ width r
unfolding width
width_take [] = refl
width_take (b ∷ r) = by_test (letter b)
    (λ t. rw t (by_test (leb (name_length (b ∷ r)) longest_name) (λ u. rw u (name_take b r t u)) λ u. rw u))
    λ t. rw t (by_test (mark b)
    (λ u. rw u (by_test (eqb (get_or r 0 0) 61) (λ v. rw (v, t, u) (rw (get_or-take 1 r 0 0 (omega arith), v)))
    λ v. rw v (by_test (negation b) (λ w. rw (w, t, u, w)) λ w. rw w)))
    λ u. rw u (by_test (symbol b) (λ v. rw (v, t, u, v)) λ v. rw v))

token_one : (s : List ℕ) (at : ℕ) → word.wrong < (token_at s at).key → OneToken (bytes_at s at)
unfolding token_at
token_one s at =
    let p = at + gap false (drop at s) in
    by_test (leb (length s) p) (λ t. rw t λ h. absurd (omega arith))
    λ t. rw t (by_test (eqb (width (drop p s)) 0) (λ u. rw u λ h. absurd (omega arith))
    λ u. rw u λ h.
    let r = drop p s in
    let bytes = slice_take p (width r) s in
    let size : length (take (width r) r) ≡ width r = length-take-le (width r) r (width_le r).0 in
    subst OneToken (sym bytes) (record { some = subst (λ n. 0 < n) (sym size) (positive (width r) u); whole = width_take r ∙ sym size }))
  where
    positive : (w : ℕ) → eqb w 0 ≡ false → 0 < w
    positive zero e = absurd (clash refl e)
    positive (suc w) e = omega arith

-- a token that declares a name is printed as it is spelled, and known by the same key
declared_printed : (s : List ℕ) (at k w : ℕ) → (token_at s at).key ≡ k → (token_at s at).spelling ≡ w → is_name k ≡ true → HeldAs k w
declared_printed s at k w e f n =
    let h : word.wrong < (token_at s at).key = rw e (name_real k n) in
    let T = token_held s at h in
    let bytes : name_text w ≡ bytes_at s at = ap name_text (sym f ∙ T.spelling_is) ∙ name_back (bytes_at s at) T.bytes in
    let known : key (name_text w) ≡ k = ap key bytes ∙ sym T.key_is ∙ e in
    record {
      printed = record {
        one = subst OneToken (sym bytes) (token_one s at h);
        back = ap spelling bytes ∙ sym T.spelling_is ∙ f;
        real = subst (λ j. word.wrong < j) (sym known) (name_real k n);
      };
      known = known;
    }

-- ---- the print's tokens by their indexes

module _ (s : List ℕ) where
  held_spelling : {at e : ℕ} {ws : List ℕ} → SpellsAs s at ws e → (i w : ℕ) → Holds ws i w → (token_at s (place_behind s at i)).spelling ≡ w
  held_spelling SpellsAs.none i w H = absurd (let z = H.within in omega arith)
  held_spelling (SpellsAs.more e f l p) zero w H = e ∙ H.element
  held_spelling (SpellsAs.more {at} e f l p) (suc i) w H =
      ap (λ n. (token_at s n).spelling) (ap (place_behind s at) (let z : suc i ≡ 1 + i = omega arith in z) ∙ sym (behind_both s at 1 i))
      ∙ held_spelling p i w (record { within = let z = H.within in omega arith; element = H.element })

  spelled_end : {at e : ℕ} {ws : List ℕ} → SpellsAs s at ws e → place_behind s at (length ws) ≡ e
  spelled_end SpellsAs.none = refl
  spelled_end (SpellsAs.more {at} {ws = ws} e f l p) =
      ap (place_behind s at) (let z : suc (length ws) ≡ 1 + length ws = omega arith in z) ∙ sym (behind_both s at 1 (length ws)) ∙ spelled_end p

  -- names that stand from token `first` on, each the `step`-th behind the one before
  held_spellings : {e : ℕ} {ws : List ℕ} → SpellsAs s 0 ws e → (first step : ℕ) (names : List ℕ)
      → ((k : ℕ) → k < length names → Holds ws (first + step * k) (get_or names k 0)) → names ≡ spellings s (place_of s first) step (length names)
  held_spellings S first step names H =
      let at = place_of s first in
      sym (ext_get_or 0 (spellings s at step (length names)) names (spellings_length s at step (length names)) λ k l.
      let h : k < length names = omega (arith, spellings_length s at step (length names)) in
      spelling_at s at step (length names) k h
      ∙ ap (λ e. (token_at s e).spelling) (behind_both s 0 first (step * k))
      ∙ held_spelling S (first + step * k) (get_or names k 0) (H k h))

-- the arguments of functions that are spelled otherwise
arities_kept : {fs ns : List ℕ} (gs : List ℕ) → length gs ≡ length fs → Arities fs ns → Arities gs ns
arities_kept [] e Arities.none = Arities.none
arities_kept (g ∷ gs) e Arities.none = absurd (omega arith)
arities_kept [] e (Arities.one a) = absurd (omega arith)
arities_kept (g ∷ gs) e (Arities.one a) = Arities.one (arities_kept gs (omega arith) a)
arities_kept [] e (Arities.two a) = absurd (omega arith)
arities_kept (g ∷ gs) e (Arities.two a) = Arities.two (arities_kept gs (omega arith) a)

-- ---- the print of an accepted text

module _ (text : List ℕ) (m : Macro) (a : Accepted text m) where
  pub registers_spelled : length m.register_spellings ≡ length m.registers
  registers_spelled = ap length a.spelled.register_spellings ∙ spellings_length text (place_of text first_register) register_length (length m.registers)

  pub functions_spelled : length m.function_spellings ≡ length m.functions
  functions_spelled =
      let n = length m.registers in
      let t = m.first_test in
      let fs = spellings text (place_of text (first_function n)) entry_length t in
      let ts = spellings text (place_of text (first_test_token n t)) entry_length (length m.functions - t) in
      ap length a.spelled.function_spellings
      ∙ omega (
        arith,
        length-append fs ts,
        spellings_length text (place_of text (first_function n)) entry_length t,
        spellings_length text (place_of text (first_test_token n t)) entry_length (length m.functions - t),
        a.in_order.tests,
      )

  register_printed : (x : ℕ) → x < length m.registers → HeldAs (get_or m.registers x 0) (get_or m.register_spellings x 0)
  register_printed x h = declared_printed text (place_of text (first_register + x)) _ _
      (register_declared text m a.spelled x h) (register_spelled text m a.spelled x h) (a.in_order.registers.names x h)

  function_printed : (f : ℕ) → f < length m.functions → HeldAs (get_or m.functions f 0) (get_or m.function_spellings f 0)
  function_printed f h = declared_printed text _ _ _
      (function_declared text m a.spelled a.in_order.arities f h) (function_spelled text m a.spelled f h) (a.in_order.functions.names f h)

  short_order : InOrder (without_empty_elses m)
  short_order = order_short m a.in_order

  print_pairs : Pairwise HeldAs (sentence (without_empty_elses m)) (print_tokens m)
  print_pairs = sentence_pairs HeldAs fixed_printed (without_empty_elses m) short_order registers_spelled functions_spelled register_printed function_printed

  print_unjoined : Unjoined (print_tokens m)
  print_unjoined =
      sentence_tokenwise unjoined_tokenwise (λ ks ws U. (λ e. absurd (omega arith), U)) (without_empty_elses m) short_order registers_spelled functions_spelled
      (λ x h. record { real = a.in_order.registers.names x h; held = register_printed x h })
      λ f h. record { real = a.in_order.functions.names f h; held = function_printed f h }

  print_whole : SpelledWhole (house_layout m) 0 (print_tokens m)
  unfolding house_layout
  print_whole = spaced_spelled (print_tokens m) (all_printed print_pairs) print_unjoined

  -- Token i of the print is the i-th that is to be printed,
  pub print_token : (i : ℕ) → i < length (print_tokens m) → (token_at (house_layout m) (place_of (house_layout m) i)).spelling ≡ get_or (print_tokens m) i 0
  print_token i h = held_spelling (house_layout m) print_whole.tokens i _ (record { within = h; element = refl })

  -- and no token stands behind them.
  pub print_ended : (token_at (house_layout m) (place_of (house_layout m) (length (print_tokens m)))).key ≡ word.end
  print_ended = ap (λ n. (token_at (house_layout m) n).key) (spelled_end (house_layout m) print_whole.tokens) ∙ print_whole.ended

  print_registers : m.register_spellings ≡ spelled_registers (house_layout m) (length m.registers)
  print_registers =
      held_spellings (house_layout m) print_whole.tokens first_register register_length m.register_spellings
      (λ k h. rw (let e : 1 + 1 * k ≡ 1 + k = omega arith in e) (register_held (as_declared (without_empty_elses m)) k h))
      ∙ ap (spelled_registers (house_layout m)) registers_spelled

  spelled_arities : Arities m.function_spellings m.arities
  spelled_arities = arities_kept m.function_spellings functions_spelled a.in_order.arities

  tests_within : m.first_test ≤ length m.function_spellings
  tests_within = let l = a.in_order.tests in omega (arith, functions_spelled)

  -- the names in the line of functions, and those in the line of tests
  functions_in_print : take m.first_test m.function_spellings
      ≡ spellings (house_layout m) (place_of (house_layout m) (first_function (length m.register_spellings))) entry_length m.first_test
  functions_in_print =
      let t = m.first_test in
      let gs = m.function_spellings in
      let first = first_function (length m.register_spellings) in
      let size = length-take-le t gs tests_within in
      held_spellings (house_layout m) print_whole.tokens first entry_length (take t gs)
      (λ k h.
      let l : k < t = omega arith in
      subst (Holds (print_tokens m) (first + entry_length * k)) (sym (get_or-take t gs k 0 l))
      (rw (lt-ltb k t l) at (function_held (as_declared (without_empty_elses m)) spelled_arities k (let w = tests_within in omega arith))))
      ∙ ap (spellings (house_layout m) (place_of (house_layout m) first) entry_length) size

  tests_in_print : drop m.first_test m.function_spellings
      ≡ spellings (house_layout m) (place_of (house_layout m) (first_test_token (length m.register_spellings) m.first_test)) entry_length
      (length m.function_spellings - m.first_test)
  tests_in_print =
      let t = m.first_test in
      let gs = m.function_spellings in
      let first = first_test_token (length m.register_spellings) t in
      let size = length-drop t gs in
      held_spellings (house_layout m) print_whole.tokens first entry_length (drop t gs)
      (λ k h.
      let back : t + k - t ≡ k = omega arith in
      subst (Holds (print_tokens m) (first + entry_length * k)) (sym (get_or-drop t gs k 0))
      (rw (le-ltb (t + k) t (omega arith), back) at (function_held (as_declared (without_empty_elses m)) spelled_arities (t + k) (omega arith))))
      ∙ ap (spellings (house_layout m) (place_of (house_layout m) first) entry_length) size

  print_functions : m.function_spellings ≡ spelled_functions (house_layout m) (length m.registers) m.first_test (length m.functions)
  print_functions =
      sym (take-append-drop m.first_test m.function_spellings) ∙ (λ i. functions_in_print i ++ tests_in_print i)
      ∙ λ i. spelled_functions (house_layout m) (registers_spelled i) m.first_test (functions_spelled i)

  -- the tokens of the print are the sentence of the macro without its empty elses, with the names as declared
  pub print_spelled : Spelled (house_layout m) (without_empty_elses m)
  print_spelled = record {
    place = print_whole.place;
    tokens = spells_keys (house_layout m) print_pairs print_whole.tokens;
    ended = print_whole.ended;
    register_spellings = print_registers;
    function_spellings = print_functions;
  }

-- ---- what becomes of a print

pub print_accepted : (text : List ℕ) (m : Macro) → Accepted text m → length (house_layout m) ≤ longest_print → Accepted (house_layout m) (without_empty_elses m)
print_accepted text m a h = record {
  short = h;
  spelled = print_spelled text m a;
  in_order = order_short m a.in_order;
  few = rw (size_short m) a.few;
}

pub print_not_refused : (text : List ℕ) (m : Macro) → Accepted text m → length (house_layout m) ≤ longest_print
    → (n p : ℕ) → Refusal (house_layout m) n p → ⊥
print_not_refused text m a h n p r = never_both (house_layout m) (print_accepted text m a h) r

-- printing what is read back changes nothing
pub print_of_print : (m : Macro) → house_layout (without_empty_elses m) ≡ house_layout m
unfolding house_layout
print_of_print m = ap (λ n. spaced false (sentence (as_declared n))) (macro_short_twice m)
