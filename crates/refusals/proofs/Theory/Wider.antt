-- The grammar alone is the wider one: the sentence of a macro in order (crate `grammar`) is a sentence of it.
use mathlib.Core.Path.{◌≡◌, refl, sym, ap, ◌∙◌}
use Prim.Native.Nat.{ℕ, suc, ◌≤◌, ◌<◌}
use native.Mathlib.Omega.{arith}
use mathlib.Core.List.{List, [], ◌∷◌, ◌++◌, append_assoc, append-nil}
use lib.ListN.{length, get_or, take, drop}
use Rattle.base.proofs.Theory.Choice.{by_test}
use Rattle.tokens.specs.Words as word
use Rattle.grammar.specs.Tree.{Condition, Assignment, Statement, skip, assign, assume, assert, if, while, Else, absent, present, Block, empty, ◌then◌}
use Rattle.grammar.specs.Tree.{ProperAssignment, ProperCondition, Proper, ProperElse, ProperBlock}
use Rattle.grammar.specs.Tree as tree
use Rattle.grammar.specs.Grammar.{Macro, header, takes_two, condition_tokens, assignment_tokens, statement_tokens, else_tokens, block_tokens, entry_tokens, line_tokens}
use Rattle.grammar.specs.Grammar.{declaration_tokens, sentence}
use Rattle.grammar.specs.Spelled.{Arities, Spells, InOrder}
use Rattle.grammar.proofs.Theory.Parts.{arities_take, arities_drop}
use Rattle.refusals.specs.Sentences.{Name, NamedCondition, NamedStatement, condition_then, statement_then, else_then, block_then, Entry, names_then}
use Rattle.refusals.specs.Sentences.{entries_then, line_then, Sentence}
use Rattle.refusals.specs.Sentences as alone
use Rattle.refusals.specs.Questions.{AllNames}
use Rattle.refusals.proofs.Theory.Parts.{names_take, names_drop}

module _ (rs fs ns : List ℕ) (t : ℕ) (R : AllNames rs) (F : AllNames fs) where
  registered : (x : ℕ) → x < length rs → Name
  registered x l = record { key = get_or rs x 0; real = R x l }

  abbrev SameCondition : Condition → Type 0
  SameCondition c = (d : alone.NamedCondition) × ((ws : List ℕ) → condition_tokens rs fs ns c ++ ws ≡ condition_then d ws)

  abbrev SameStatement : List ℕ → Type 0
  SameStatement us = (d : alone.NamedStatement) × ((ws : List ℕ) → us ++ ws ≡ statement_then d ws)

  condition_same : (c : Condition) → ProperCondition c (header rs fs ns) t → SameCondition c
  unfolding registered
  condition_same (tree.equal x y) (l, r) = (NamedCondition.equal (registered x l) (registered y r), λ ws. refl)
  condition_same (tree.unequal x y) (l, r) = (NamedCondition.unequal (registered x l) (registered y r), λ ws. refl)
  condition_same (tree.holds f y z) ((l, h, r, q, n), o) =
      let g : Name = record { key = get_or fs f 0; real = F f h } in
      by_test (takes_two rs fs ns f) (λ t. (NamedCondition.holds_two g (registered y r) (registered z q), λ ws. rw t)) λ t.
      (NamedCondition.holds g (registered y r), λ ws. rw t)
  condition_same (tree.fails f y z) ((l, h, r, q, n), o) =
      let g : Name = record { key = get_or fs f 0; real = F f h } in
      by_test (takes_two rs fs ns f) (λ t. (NamedCondition.fails_two g (registered y r) (registered z q), λ ws. rw t)) λ t.
      (NamedCondition.fails g (registered y r), λ ws. rw t)

  assignment_same : (a : Assignment) → ProperAssignment a (header rs fs ns) t → SameStatement (assignment_tokens rs fs ns a)
  unfolding registered
  assignment_same (tree.copy x y) (l, r) = (NamedStatement.copy (registered x l) (registered y r), λ ws. refl)
  assignment_same (tree.apply x f y z) ((l, h, r, q, n), o) =
      let g : Name = record { key = get_or fs f 0; real = F f h } in
      by_test (takes_two rs fs ns f) (λ t. (NamedStatement.apply_two (registered x l) g (registered y r) (registered z q), λ ws. rw t)) λ t.
      (NamedStatement.apply (registered x l) g (registered y r), λ ws. rw t)

  mutual
    unfolding statement_tokens

    statement_same : (c : Statement) → Proper c (header rs fs ns) t → SameStatement (statement_tokens rs fs ns c)
    statement_same skip p = (alone.skip, λ ws. refl)
    statement_same (assign a) p = assignment_same a p
    statement_same (assume c) p =
        let (d, h) = condition_same c p in (
          alone.assume d,
          λ ws. ap (λ l. word.assume_key ∷ l)
              (append_assoc (condition_tokens rs fs ns c) (word.semicolon_key ∷ []) ws ∙ h (word.semicolon_key ∷ ws)),
        )
    statement_same (assert c) p =
        let (d, h) = condition_same c p in (
          alone.assert d,
          λ ws. ap (λ l. word.assert_key ∷ l)
              (append_assoc (condition_tokens rs fs ns c) (word.semicolon_key ∷ []) ws ∙ h (word.semicolon_key ∷ ws)),
        )
    statement_same (if c b e) (p, q, r) =
        let (d, h) = condition_same c p in
        let (x, g) = block_same b q in
        let (y, f) = else_same e r in (
          alone.if d x y,
          λ ws. ap (λ l. word.if_key ∷ l) (
              append_assoc (condition_tokens rs fs ns c) (word.lbrace_key ∷ (block_tokens rs fs ns b ++ word.rbrace_key ∷ else_tokens rs fs ns e)) ws
              ∙ h (word.lbrace_key ∷ ((block_tokens rs fs ns b ++ word.rbrace_key ∷ else_tokens rs fs ns e) ++ ws))
              ∙ ap (λ l. condition_then d (word.lbrace_key ∷ l))
              (append_assoc (block_tokens rs fs ns b) (word.rbrace_key ∷ else_tokens rs fs ns e) ws ∙ g (word.rbrace_key ∷ (else_tokens rs fs ns e ++ ws))
              ∙ ap (λ l. block_then x (word.rbrace_key ∷ l)) (f ws))),
        )
    statement_same (while c b) (p, q) =
        let (d, h) = condition_same c p in
        let (x, g) = block_same b q in (
          alone.while d x,
          λ ws. ap (λ l. word.while_key ∷ l) (
              append_assoc (condition_tokens rs fs ns c) (word.lbrace_key ∷ (block_tokens rs fs ns b ++ word.rbrace_key ∷ [])) ws
              ∙ h (word.lbrace_key ∷ ((block_tokens rs fs ns b ++ word.rbrace_key ∷ []) ++ ws))
              ∙ ap (λ l. condition_then d (word.lbrace_key ∷ l)) (append_assoc (block_tokens rs fs ns b) (word.rbrace_key ∷ []) ws ∙ g (word.rbrace_key ∷ ws))),
        )

    else_same : (e : Else) → ProperElse e (header rs fs ns) t → (d : alone.NamedElse) × ((ws : List ℕ) → else_tokens rs fs ns e ++ ws ≡ else_then d ws)
    else_same absent p = (alone.absent, λ ws. refl)
    else_same (present b) p = let (x, g) = block_same b p in (
      alone.present x,
      λ ws. ap (λ l. word.else_key ∷ word.lbrace_key ∷ l)
          (append_assoc (block_tokens rs fs ns b) (word.rbrace_key ∷ []) ws ∙ g (word.rbrace_key ∷ ws)),
    )

    block_same : (b : Block) → ProperBlock b (header rs fs ns) t → (d : alone.NamedBlock) × ((ws : List ℕ) → block_tokens rs fs ns b ++ ws ≡ block_then d ws)
    block_same empty p = (alone.empty, λ ws. refl)
    block_same (c then b) (p, q) =
        let (x, h) = statement_same c p in
        let (y, g) = block_same b q in (
          alone.◌followed_by◌ x y,
          λ ws. append_assoc (statement_tokens rs fs ns c) (block_tokens rs fs ns b) ws ∙ h (block_tokens rs fs ns b ++ ws)
              ∙ ap (statement_then x) (g ws),
        )

names_same : (ks : List ℕ) → AllNames ks → (xs : List Name) × ((ws : List ℕ) → ks ++ ws ≡ names_then xs ws)
names_same [] n = ([], λ ws. refl)
names_same (k ∷ ks) n = let (xs, h) = names_same ks (λ i l. n (suc i) (omega arith)) in
    (record { key = k; real = n 0 (omega arith) } ∷ xs, λ ws. ap (λ l. k ∷ l) (h ws))

entries_same : (fs ns : List ℕ) → Arities fs ns → AllNames fs → (es : List Entry) × ((ws : List ℕ) → entry_tokens fs ns ++ ws ≡ entries_then es ws)
unfolding entry_tokens
entries_same fs ns Arities.none n = ([], λ ws. refl)
entries_same fs ns (Arities.one {f} {fs = gs} {ns = ms} a) n = let (es, h) = entries_same gs ms a (λ i l. n (suc i) (omega arith)) in
    (alone.one (record { key = f; real = n 0 (omega arith) }) ∷ es, λ ws. ap (λ l. f ∷ word.slash_key ∷ word.one_key ∷ l) (h ws))
entries_same fs ns (Arities.two {f} {fs = gs} {ns = ms} a) n = let (es, h) = entries_same gs ms a (λ i l. n (suc i) (omega arith)) in
    (alone.two (record { key = f; real = n 0 (omega arith) }) ∷ es, λ ws. ap (λ l. f ∷ word.slash_key ∷ word.two_key ∷ l) (h ws))

-- a line that begins with the word j
line_same : (j : ℕ) (fs ns : List ℕ) → Arities fs ns → AllNames fs → (es : List Entry) × ((ws : List ℕ) → line_tokens j fs ns ++ ws ≡ line_then j es ws)
unfolding line_tokens entry_tokens
line_same j fs ns Arities.none n = ([], λ ws. refl)
line_same j fs ns (Arities.one {f} {fs = gs} {ns = ms} a) n =
    let (es, h) = entries_same gs ms a (λ i l. n (suc i) (omega arith)) in (
      alone.one (record { key = f; real = n 0 (omega arith) }) ∷ es,
      λ ws. ap (λ l. j ∷ f ∷ word.slash_key ∷ word.one_key ∷ l)
          (append_assoc (entry_tokens gs ms) (word.semicolon_key ∷ []) ws ∙ h (word.semicolon_key ∷ ws)),
    )
line_same j fs ns (Arities.two {f} {fs = gs} {ns = ms} a) n =
    let (es, h) = entries_same gs ms a (λ i l. n (suc i) (omega arith)) in (
      alone.two (record { key = f; real = n 0 (omega arith) }) ∷ es,
      λ ws. ap (λ l. j ∷ f ∷ word.slash_key ∷ word.two_key ∷ l)
          (append_assoc (entry_tokens gs ms) (word.semicolon_key ∷ []) ws ∙ h (word.semicolon_key ∷ ws)),
    )

-- both lines
lines_same : (fs ns : List ℕ) (t : ℕ) → Arities fs ns → AllNames fs → t ≤ length fs
    → (es ds : List Entry) × ((ws : List ℕ) → declaration_tokens fs ns t ++ ws ≡ line_then word.funs_key es (line_then word.tests_key ds ws))
lines_same fs ns t a n w =
    let L = line_tokens word.funs_key (take t fs) (take t ns) in
    let T = line_tokens word.tests_key (drop t fs) (drop t ns) in
    let (es, h) = line_same word.funs_key (take t fs) (take t ns) (arities_take t a) (names_take t fs w n) in
    let (ds, g) = line_same word.tests_key (drop t fs) (drop t ns) (arities_drop t a) (names_drop t fs w n) in
    (es, ds, λ ws. append_assoc L T ws ∙ h (T ++ ws) ∙ ap (line_then word.funs_key es) (g ws))

macro_same : (rs fs ns : List ℕ) (t : ℕ) (b : Block) → AllNames rs → 1 ≤ length rs → AllNames fs → Arities fs ns → t ≤ length fs
    → ProperBlock b (header rs fs ns) t
    → Sentence (word.vars_key ∷ (rs ++ word.semicolon_key ∷ (declaration_tokens fs ns t ++ block_tokens rs fs ns b)))
macro_same [] fs ns t b R n F A w p = absurd (omega arith)
macro_same (r ∷ rs) fs ns t b R n F A w p =
    let B = block_tokens (r ∷ rs) fs ns b in
    let (x, g) = block_same (r ∷ rs) fs ns t R F b p in
    let (es, ds, f) = lines_same fs ns t A F w in
    let (xs, h) = names_same rs (λ i l. R (suc i) (omega arith)) in
    record {
      macro = record { first = record { key = r; real = R 0 (omega arith) }; others = xs; functions = es; tests = ds; body = x };
      spelled = sym (ap (λ l. word.vars_key ∷ r ∷ l)
          (h (word.semicolon_key ∷ (declaration_tokens fs ns t ++ B))
          ∙ ap (λ l. names_then xs (word.semicolon_key ∷ l)) (f B
          ∙ ap (λ l. line_then word.funs_key es (line_then word.tests_key ds l)) (sym (append-nil B) ∙ g []))));
    }

-- The sentence of a macro in order is a sentence.
pub in_order_sentence : (m : Macro) → InOrder m → Sentence (sentence m)
unfolding sentence
in_order_sentence m O =
    macro_same m.registers m.functions m.arities m.first_test m.body O.registers.names O.some O.functions.names O.arities O.tests
    O.uses
