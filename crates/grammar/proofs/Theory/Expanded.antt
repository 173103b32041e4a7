-- What follows from the definitions of specs/Expanded.antt: the points of one block before another, that the letters of the expanded macro fit
-- its header, the hidden registers counted, and that a macro without tests performs its own statements.
use mathlib.Core.Path.{◌≡◌, refl, sym, ap, ◌∙◌}
use mathlib.Core.Option.{Option, none, some}
use Prim.Native.Nat.{ℕ, suc, ◌+◌, ◌≤◌, ◌<◌}
use native.Mathlib.Omega.{arith}
use mathlib.Core.List.{List, [], ◌∷◌, ◌++◌, append_assoc}
use lib.ListN.{length, get_or, length-append}
use lib.Seq.{get_or-append_seam}
use borrow.Author.Tests.{lt-ltb}
use Rattle.letters.specs.declared.Header.{Header}
use Rattle.letters.specs.Letters.{Fits}
use Rattle.letters.specs.declared.Letter.{Letter}
use Rattle.macros.proofs.Theory.Points.{entry_then}
use Rattle.macros.proofs.Theory.WrittenOut.{IsPlain, IsPlainElse, IsPlainBlock}
use Rattle.macros.specs.Tree.{test, ◌then◌}
use Rattle.macros.specs.Tree as macro
use Rattle.macros.specs.Points.{size_statement, size_block, entry, compile, compile_block}
use Rattle.tokens.specs.Words as word
use Rattle.grammar.specs.Limits.{hidden_registers}
use Rattle.grammar.specs.Tree.{Condition, equal, unequal, holds, fails, Assignment, copy, apply, letter_of, Statement, skip, assign, assume, assert, if}
use Rattle.grammar.specs.Tree.{while, Else, absent, present, Block, empty, ProperAssignment, ProperCondition, Proper, ProperElse, ProperBlock}
use Rattle.grammar.specs.Tree as written
use Rattle.grammar.specs.Expanded.{◌before◌, result_register, truth_register, application, comparison, after, loop, expanded_statement}
use Rattle.grammar.specs.Expanded.{expanded_else, expanded_block}
use Rattle.grammar.specs.Grammar.{Macro, hidden, hidden_of, header, header_of, expanded}
use Rattle.grammar.specs.Spelled.{InOrder}

-- ---- points

pub size_before : (a k : macro.Block) → size_block (a before k) ≡ size_block a + size_block k
unfolding size_block
size_before macro.empty k = omega arith
size_before (s then a) k = omega (arith, size_before a k)

pub compile_before : (a k : macro.Block) (b follow : ℕ)
    → compile_block (a before k) b follow
    ≡ compile_block a b (entry (size_block k) (b + size_block a) follow) ++ compile_block k (b + size_block a) follow
unfolding compile_block size_block
compile_before macro.empty k b follow = let e : b ≡ b + 0 = omega arith in ap (λ n. compile_block k n follow) e
compile_before (s then a) k b follow =
    let place : b + size_statement s + size_block a ≡ b + (size_statement s + size_block a) = omega arith in
    let inner : entry (size_block (a before k)) (b + size_statement s) follow
    ≡ entry (size_block a) (b + size_statement s) (entry (size_block k) (b + (size_statement s + size_block a)) follow) =
    ap (λ n. entry n (b + size_statement s) follow) (size_before a k)
    ∙ entry_then (size_block a) (size_block k) (b + size_statement s) follow
    ∙ ap (λ n. entry (size_block a) (b + size_statement s) (entry (size_block k) n follow)) place in
    let rest : compile_block (a before k) (b + size_statement s) follow
    ≡ compile_block a (b + size_statement s) (entry (size_block k) (b + (size_statement s + size_block a)) follow)
    ++ compile_block k (b + (size_statement s + size_block a)) follow =
    compile_before a k (b + size_statement s) follow
    ∙ ap (λ n. compile_block a (b + size_statement s) (entry (size_block k) n follow) ++ compile_block k n follow) place in
    (λ i. compile s b (inner i) ++ rest i) ∙ sym (append_assoc (compile s b _) (compile_block a (b + size_statement s) _) (compile_block k _ follow))

-- ---- the hidden registers

-- a named test applies its function into the register `result`, and compares that with the register `truth`, by the names of all registers
pub hidden_named : (rs : List ℕ) (t k : ℕ) → t < k
    → (get_or (rs ++ hidden t k) (result_register (length rs)) 0 ≡ word.result_key) × (get_or (rs ++ hidden t k) (truth_register (length rs)) 0 ≡ word.truth_key)
hidden_named rs t k h = (rw (lt-ltb t k h) (get_or-append_seam rs word.result_key (word.truth_key ∷ []) 0), rw (lt-ltb t k h) (second rs))
  where
    second : (rs : List ℕ) → get_or (rs ++ word.result_key ∷ word.truth_key ∷ []) (suc (length rs)) 0 ≡ word.truth_key
    second [] = refl
    second (r ∷ rs) = second rs

-- ---- the letters fit

pub before_proper : (h : Header) (a k : macro.Block) → macro.ProperBlock a h → macro.ProperBlock k h → macro.ProperBlock (a before k) h
before_proper h macro.empty k u v = v
before_proper h (s then a) k (o, u) v = (o, before_proper h a k u v)

-- qs are the registers rs and perhaps more, with two more where there is a test
module _ (rs qs fs ns : List ℕ) (t : ℕ) (wide : length rs ≤ length qs) (room : t < length fs → length rs + hidden_registers ≤ length qs) where
  assignment_fits : (l : Assignment) → ProperAssignment l (header rs fs ns) t → Fits (header qs fs ns) (letter_of l)
  assignment_fits (copy x y) (a, b) = (omega arith, omega arith)
  assignment_fits (apply x f y z) ((a, b, c, d, same), _) = (omega arith, b, omega arith, omega arith, same)

  -- perhaps a letter, that fits
  abbrev LetterFits : Option Letter → Type 0
  LetterFits none = Unit {0}
  LetterFits (some a) = Fits (header qs fs ns) a

  -- what a condition performs
  application_fits : (c : Condition) → ProperCondition c (header rs fs ns) t → LetterFits (application (length rs) c)
  application_fits (equal x y) u = tt
  application_fits (unequal x y) u = tt
  application_fits (holds f y z) ((_, b, c, d, same), l) = let n = room (omega arith) in (omega arith, b, omega arith, omega arith, same)
  application_fits (fails f y z) ((_, b, c, d, same), l) = let n = room (omega arith) in (omega arith, b, omega arith, omega arith, same)

  comparison_fits : (c : Condition) → ProperCondition c (header rs fs ns) t → Fits (header qs fs ns) (test (comparison (length rs) c))
  comparison_fits (equal x y) (a, b) = (omega arith, omega arith)
  comparison_fits (unequal x y) (a, b) = (omega arith, omega arith)
  comparison_fits (holds f y z) ((_, b, c, d, same), l) = let n = room (omega arith) in (omega arith, omega arith)
  comparison_fits (fails f y z) ((_, b, c, d, same), l) = let n = room (omega arith) in (omega arith, omega arith)

  after_proper : (a : Option Letter) (s : macro.Statement) → LetterFits a → macro.Proper s (header qs fs ns)
      → macro.ProperBlock (after (length rs) a s) (header qs fs ns)
  after_proper none s u v = (v, tt)
  after_proper (some a) s u v = (u, (v, tt))

  loop_proper : (a : Option Letter) (c : macro.Condition) (b : macro.Block) → LetterFits a → Fits (header qs fs ns) (test c)
      → macro.ProperBlock b (header qs fs ns) → macro.Proper (loop (length rs) a c b) (header qs fs ns)
  loop_proper none c b u v w = (v, w)
  loop_proper (some a) c b u v w = (u, v, w)

  mutual
    unfolding expanded_statement

    statement_expanded : (s : Statement) → Proper s (header rs fs ns) t → macro.ProperBlock (expanded_statement (length rs) s) (header qs fs ns)
    statement_expanded skip u = (tt, tt)
    statement_expanded (assign l) u = (assignment_fits l u, tt)
    statement_expanded (assume c) u = after_proper (application (length rs) c) _ (application_fits c u) (comparison_fits c u)
    statement_expanded (assert c) u = after_proper (application (length rs) c) _ (application_fits c u) (comparison_fits c u)
    statement_expanded (if c b e) (u, v, w) =
        after_proper (application (length rs) c) _ (application_fits c u) (comparison_fits c u, expanded_proper b v, else_expanded e w)
    statement_expanded (while c b) (u, v) =
        (loop_proper (application (length rs) c) (comparison (length rs) c) _ (application_fits c u) (comparison_fits c u) (expanded_proper b v), tt)

    else_expanded : (e : Else) → ProperElse e (header rs fs ns) t → macro.ProperElse (expanded_else (length rs) e) (header qs fs ns)
    else_expanded absent u = tt
    else_expanded (present b) u = expanded_proper b u

    pub expanded_proper : (b : Block) → ProperBlock b (header rs fs ns) t → macro.ProperBlock (expanded_block (length rs) b) (header qs fs ns)
    expanded_proper empty u = tt
    expanded_proper (written.◌then◌ s b) (u, v) = before_proper (header qs fs ns) (expanded_statement (length rs) s) (expanded_block (length rs) b)
        (statement_expanded s u) (expanded_proper b v)

-- The letters of an expanded macro fit its header: where a test is used, the hidden registers are there.
pub expanded_fits : (m : Macro) → InOrder m → macro.ProperBlock (expanded m) (header_of m)
expanded_fits m O =
    let size = length-append m.registers (hidden_of m) in
    expanded_proper m.registers (m.registers ++ hidden_of m) m.functions m.arities m.first_test (omega arith)
    (λ h. let n : length (hidden_of m) ≡ hidden_registers = rw (lt-ltb m.first_test (length m.functions) h) in omega arith)
    m.body O.uses

-- ── macros without tests: what they perform is their own statements ──
before_plain : (a b : macro.Block) → IsPlainBlock a → IsPlainBlock b → IsPlainBlock (a before b)
before_plain macro.empty b x y = y
before_plain (macro.◌then◌ s a) b x y = (x.0, before_plain a b x.1 y)

module _ (h : Header) (t : ℕ) (none_declared : h.functions ≤ t) where
  no_application : (c : Condition) → ProperCondition c h t → application h.registers c ≡ none
  no_application (equal x y) u = refl
  no_application (unequal x y) u = refl
  no_application (holds f y z) u = let l = u.0.1 in let k = u.1 in absurd (omega arith)
  no_application (fails f y z) u = let l = u.0.1 in let k = u.1 in absurd (omega arith)

  after_plain : (c : Condition) → ProperCondition c h t → (s : macro.Statement) → IsPlain s
      → IsPlainBlock (after h.registers (application h.registers c) s)
  after_plain c u s x = rw (no_application c u) (x, tt)

  mutual
    unfolding expanded_statement

    statement_plain : (s : Statement) → Proper s h t → IsPlainBlock (expanded_statement h.registers s)
    statement_plain skip u = (tt, tt)
    statement_plain (assign a) u = (tt, tt)
    statement_plain (assume c) u = after_plain c u _ tt
    statement_plain (assert c) u = after_plain c u _ tt
    statement_plain (if c b e) u = after_plain c u.0 _ (expanded_plain b u.1, else_plain e u.2)
    statement_plain (while c b) u = rw (no_application c u.0) (expanded_plain b u.1, tt)

    else_plain : (e : Else) → ProperElse e h t → IsPlainElse (expanded_else h.registers e)
    else_plain absent u = tt
    else_plain (present b) u = expanded_plain b u

    pub expanded_plain : (b : Block) → ProperBlock b h t → IsPlainBlock (expanded_block h.registers b)
    expanded_plain empty u = tt
    expanded_plain (written.◌then◌ s b) u =
        before_plain (expanded_statement h.registers s) (expanded_block h.registers b) (statement_plain s u.0) (expanded_plain b u.1)
