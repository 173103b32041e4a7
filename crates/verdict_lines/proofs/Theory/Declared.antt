-- The names that are printed are those of the text: each is printed as the bytes of the token that declares it, and no two of them alike, whatever
-- the case of their letters.
use mathlib.Core.Path.{◌≡◌, refl, sym, ap, ◌∙◌}
use mathlib.Core.List.{List, [], ◌∷◌}
use Prim.Native.Nat.{ℕ, zero, suc, ◌+◌, ◌-◌, ◌≤◌, ◌<◌}
use native.Mathlib.Omega.{arith}
use lib.Dec.{ltb}
use lib.ListN.{length, get_or, drop, get_or-eq_default, get_or-append, length-append}
use lib.Seq.{get_or-append-add}
use borrow.Author.Tests.{ltb-true, ltb-false, lt-ltb, eqb-true}
use Rattle.base.proofs.Theory.Choice.{by_test}
use Rattle.tokens.specs.Bytes.{lower_case}
use Rattle.tokens.specs.Words.{is_name, result_word, truth_word}
use Rattle.tokens.specs.Words as word
use Rattle.tokens.specs.Tokens.{token_at, bytes_at, place_of, spellings}
use Rattle.tokens.proofs.Theory.Keys.{TokenBytes, token_held, same_token}
use Rattle.tokens.proofs.Theory.TokensLaws.{spellings_length}
use Rattle.tokens.proofs.Theory.WordsLaws.{name_real}
use Rattle.grammar.specs.Grammar.{Macro, hidden_of, shown_registers}
use Rattle.grammar.specs.Spelled.{Declared, Disjoint, first_register, first_function, first_test_token, entry_length, function_token, spelled_functions}
use Rattle.refusals.specs.Accepted.{Accepted}
use Rattle.refusals.proofs.Theory.Declared.{register_declared, register_spelled, function_declared, function_spelled}
use Rattle.text.specs.Names.{name_text}
use Rattle.text.proofs.Theory.Names.{name_back, name_none}
use Rattle.report.specs.Shown.{names_of}
use Rattle.verdict_lines.specs.Prints.{register_token, name_declared, hidden_names, register_name, declared_names}

-- ── names of one sort: their keys, how they are spelled, and the tokens that declare them ──
record Declaring (text keys spelled : List ℕ) (declaring : ℕ → ℕ) : Type 0 where
  names : Declared keys
  size : length spelled ≡ length keys
  key_is : (i : ℕ) → i < length keys → (token_at text (place_of text (declaring i))).key ≡ get_or keys i 0
  spelling_is : (i : ℕ) → i < length keys → (token_at text (place_of text (declaring i))).spelling ≡ get_or spelled i 0

module _ (text keys spelled : List ℕ) (declaring : ℕ → ℕ) (D : Declaring text keys spelled declaring) where
  real : (i : ℕ) → i < length keys → 2 ≤ (token_at text (place_of text (declaring i))).key
  real i h = name_real _ (ap is_name (D.key_is i h) ∙ D.names.names i h)

  printed : (i : ℕ) → name_text (get_or spelled i 0) ≡ name_declared text (length keys) declaring i
  printed i = by_test (ltb i (length keys))
      (λ t.
      let h = ltb-true i (length keys) t in
      let T = token_held text (place_of text (declaring i)) (real i h) in
      ap name_text (sym (D.spelling_is i h) ∙ T.spelling_is) ∙ name_back (bytes_at text (place_of text (declaring i))) T.bytes ∙ rw t)
      λ t. let h = ltb-false i (length keys) t in name_none _ (get_or-eq_default spelled 0 (omega (arith, D.size))) ∙ rw t

-- names that are printed alike have one key
module _ (text keys spelled : List ℕ) (declaring : ℕ → ℕ) (D : Declaring text keys spelled declaring)
    (others respelled : List ℕ) (redeclaring : ℕ → ℕ) (E : Declaring text others respelled redeclaring) where
  one_key : (i j : ℕ) → i < length keys → j < length others
      → lower_case (name_declared text (length keys) declaring i) ≡ lower_case (name_declared text (length others) redeclaring j)
      → get_or keys i 0 ≡ get_or others j 0
  one_key i j h k =
      rw (lt-ltb i (length keys) h, lt-ltb j (length others) k) λ e.
      let p = place_of text (declaring i) in
      let q = place_of text (redeclaring j) in
      let t = (same_token text text p q (real text keys spelled declaring D i h) (real text others respelled redeclaring E j k)).1 e in
      sym (D.key_is i h) ∙ eqb-true (token_at text p).key (token_at text q).key t ∙ E.key_is j k

-- ── the names of a macro ──
-- the names of functions and tests are as many as these
spelled_size : (s : List ℕ) (n m k : ℕ) → m ≤ k → length (spelled_functions s n m k) ≡ k
spelled_size s n m k l =
    let a = spellings_length s (place_of s (first_function n)) entry_length m in
    let b = spellings_length s (place_of s (first_test_token n m)) entry_length (k - m) in
    length-append (spellings s (place_of s (first_function n)) entry_length m) (spellings s (place_of s (first_test_token n m)) entry_length (k - m))
    ∙ omega arith

module _ (text : List ℕ) (m : Macro) (a : Accepted text m) where
  registers : Declaring text m.registers m.register_spellings register_token
  registers = record {
    names = a.in_order.registers;
    size = ap length a.spelled.register_spellings ∙ spellings_length text (place_of text first_register) 1 (length m.registers);
    key_is = register_declared text m a.spelled;
    spelling_is = register_spelled text m a.spelled;
  }

  functions : Declaring text m.functions m.function_spellings (function_token (length m.registers) m.first_test)
  functions = record {
    names = a.in_order.functions;
    size = ap length a.spelled.function_spellings
        ∙ spelled_size text (length m.registers) m.first_test (length m.functions) a.in_order.tests;
    key_is = function_declared text m a.spelled a.in_order.arities;
    spelling_is = function_spelled text m a.spelled;
  }

  -- a hidden register is printed as its word
  hidden_printed : (r : ℕ) → name_text (get_or (hidden_of m) r 0) ≡ get_or (hidden_names m) r []
  hidden_printed r = by_test (ltb m.first_test (length m.functions)) (λ t. rw t (words r)) λ t. rw t (name_none _ refl)
    where
      words : (r : ℕ) → name_text (get_or (word.result_key ∷ word.truth_key ∷ []) r 0) ≡ get_or (result_word ∷ truth_word ∷ []) r []
      words zero =
          let behind : TokenBytes (drop 1 result_word) =
          (omega arith, omega arith, (omega arith, omega arith, (omega arith, omega arith, (omega arith, omega arith, (omega arith, omega arith, tt))))) in
          name_back result_word (omega arith, omega arith, behind)
      words (suc zero) = name_back truth_word
          (omega arith, omega arith, (omega arith, omega arith, (omega arith, omega arith, (omega arith, omega arith, (omega arith, omega arith, tt)))))
      words (suc (suc r)) = name_none _ refl

  register_printed : (r : ℕ) → name_text (get_or (shown_registers m) r 0) ≡ register_name text m r
  register_printed r =
      let size = registers.size in
      by_test (ltb r (length m.registers))
      (λ t. let h = ltb-true r (length m.registers) t in
      ap name_text (get_or-append m.register_spellings (hidden_of m) 0 r (omega arith))
      ∙ printed text m.registers m.register_spellings register_token registers r ∙ rw t)
      λ t. let h = ltb-false r (length m.registers) t in
      ap (λ i. name_text (get_or (shown_registers m) i 0)) (let z : r ≡ length m.register_spellings + (r - length m.registers) = omega arith in z)
      ∙ ap name_text (get_or-append-add m.register_spellings (hidden_of m) (r - length m.registers) 0)
      ∙ hidden_printed (r - length m.registers) ∙ rw t

  pub names_declared : names_of (shown_registers m) m.function_spellings ≡ declared_names text m
  names_declared = λ i. record {
    register = λ r. register_printed r i;
    function = λ f. printed text m.functions m.function_spellings (function_token (length m.registers) m.first_test) functions f i;
  }

  -- a declared register
  declared_register : (r : ℕ) → r < length m.registers → (declared_names text m).register r ≡ name_declared text (length m.registers) register_token r
  declared_register r h = rw (lt-ltb r (length m.registers) h)

  pub registers_differ : (i j : ℕ) → i < length m.registers → j < length m.registers
      → lower_case ((declared_names text m).register i) ≡ lower_case ((declared_names text m).register j) → i ≡ j
  registers_differ i j h k e =
      let D = one_key text m.registers m.register_spellings register_token registers in
      a.in_order.registers.once i j h k (D m.registers m.register_spellings register_token registers i j h k
      (ap lower_case (sym (declared_register i h)) ∙ e ∙ ap lower_case (declared_register j k)))

  pub functions_differ : (i j : ℕ) → i < length m.functions → j < length m.functions
      → lower_case ((declared_names text m).function i) ≡ lower_case ((declared_names text m).function j) → i ≡ j
  functions_differ i j h k e =
      let declaring = function_token (length m.registers) m.first_test in
      let D = one_key text m.functions m.function_spellings declaring functions in
      a.in_order.functions.once i j h k (D m.functions m.function_spellings declaring functions i j h k e)

  pub sorts_differ : (i j : ℕ) → i < length m.registers → j < length m.functions
      → lower_case ((declared_names text m).register i) ≡ lower_case ((declared_names text m).function j) → ⊥
  unfolding Disjoint
  sorts_differ i j h k e =
      let D = one_key text m.registers m.register_spellings register_token registers in
      let E = D m.functions m.function_spellings (function_token (length m.registers) m.first_test) functions in
      a.in_order.apart i j h k (E i j h k (ap lower_case (sym (declared_register i h)) ∙ e))
