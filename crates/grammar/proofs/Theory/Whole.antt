-- The whole text: a macro that is read is spelled by the text, and is in order; and a macro in order that the text spells is read.
use mathlib.Core.Path.{◌≡◌, refl, sym, ap, subst, ◌∙◌}
use Prim.Native.Nat.{ℕ, ◌+◌, ◌*◌, ◌-◌, ◌≤◌, ◌<◌}
use native.Mathlib.Omega.{arith}
use mathlib.Core.Bool.{false}
use mathlib.Core.List.{List, [], ◌∷◌, ◌++◌, append_assoc, append-nil}
use lib.Dec.{eqb, ltb}
use lib.ListN.{length, take, drop, length-append, length-drop, take-append-drop}
use lib.Seq.{length-take-le}
use Rattle.letters.specs.Editions.{most_registers, most_functions}
use Rattle.letters.specs.MacroRefusalNumbers.{points_too_many}
use Rattle.grammar.specs.Limits.{longest_text, most_points, deepest_nesting, hidden_registers}
use borrow.Author.Tests.{eqb-true, ltb-false, eq-eqb, le-ltb, lt-ltb}
use Rattle.macros.specs.Points.{size_block}
use Rattle.tokens.specs.Tokens.{token_at}
use Rattle.tokens.specs.Words as word
use Rattle.grammar.specs.Tree.{copy, apply, Statement, skip, assign, assume, assert, if, while, Else, absent, present, Block, empty, ◌then◌}
use Rattle.grammar.specs.Grammar.{Macro, expanded, sentence, line_tokens, declaration_tokens, entry_tokens, condition_tokens, statement_tokens, else_tokens}
use Rattle.grammar.specs.Grammar.{block_tokens}
use Rattle.grammar.specs.Reading.{got, Got, expect, register_names, line_from, functions_t, tests_t, block, closing}
use Rattle.grammar.proofs.Theory.Reading.{read_text, read_macro}
use Rattle.grammar.specs.Spelled.{Spells, Spelled, Declared, Disjoint, Arities, InOrder}
use Rattle.grammar.specs.Spelled as spelled
use Rattle.grammar.proofs.Theory.Sound.{onward_got, pick_case, not_refused, got_value, got_place, expect_sound, block_sound, ReadBlock, spells_then}
use Rattle.grammar.proofs.Theory.Complete.{spells_split, spells_rest, spells_key, spells_nil, weight, weight_else, weight_block, block_no_funs}
use Rattle.grammar.proofs.Theory.Complete.{block_no_tests, block_complete}
use Rattle.grammar.proofs.Theory.Declarations.{registers_sound, entries_sound, registers_complete, entries_complete}
use Rattle.grammar.proofs.Theory.Parts.{arities_length, arities_then, arities_take, arities_drop, declared_front, apart_front, declared_lines}
use Rattle.grammar.proofs.Theory.Advance.{spells_bounded}

pub none_declared : Declared []
none_declared = record { names = λ i h. absurd (omega arith); once = λ i j h g e. absurd (omega arith) }

pub none_apart : (rs : List ℕ) → Disjoint rs []
unfolding Disjoint
none_apart rs i j h g e = absurd (omega arith)

-- ---- lines of entries

-- Functions and tests that are in order, beside the registers rs.
abbrev pub FunctionsInOrder : List ℕ → List ℕ → List ℕ → Type 0
FunctionsInOrder rs fs ns = Declared fs × Disjoint rs fs × Arities fs ns × (length fs ≤ most_functions)

pub no_functions : (rs : List ℕ) → FunctionsInOrder rs [] []
no_functions rs = (none_declared, none_apart rs, spelled.Arities.none, omega arith)

-- a line ks with the arities ls, read behind the functions fs
pub line_sound : (s rs fs ns : List ℕ) (at : ℕ) (r : List ℕ × List ℕ) (e : ℕ) → FunctionsInOrder rs fs ns → line_from s rs fs ns at ≡ got r e
    → (ks : List ℕ) × (ls : List ℕ) × (r.0 ≡ fs ++ ks) × (r.1 ≡ ns ++ ls) × FunctionsInOrder rs r.0 r.1 × (1 ≤ length ks)
    × Spells s at (entry_tokens ks ls ++ word.semicolon_key ∷ []) e
line_sound s rs fs ns at r e (D, P, A, l) h =
    let (ks, ls, q, q', D', P', A', n, w, p) = entries_sound s rs (length fs) (most_functions - length fs) fs ns at r e D P h in
    let size : length r.0 ≡ length fs + length ks = ap (λ x. length x) q ∙ length-append fs ks in
    let B : Arities r.0 r.1 = subst (λ x. Arities x r.1) (sym q) (subst (λ y. Arities (fs ++ ks) y) (sym q') (arities_then A A')) in
    (ks, ls, q, q', (D', P', B, omega arith), omega arith, p)

-- with its word before it
line_spelled : (s : List ℕ) (k : ℕ) (fs ns : List ℕ) {at e : ℕ} → 1 ≤ length fs → Spells s at (k ∷ (entry_tokens fs ns ++ word.semicolon_key ∷ [])) e
    → Spells s at (line_tokens k fs ns) e
unfolding line_tokens
line_spelled s k [] ns m p = absurd (omega arith)
line_spelled s k (f ∷ fs) ns m p = p

-- the first part, and whether there is a second one, by the lengths
pub front_within : (fs ks gs : List ℕ) → gs ≡ fs ++ ks → length fs ≤ length gs
front_within fs ks gs q = let n : length gs ≡ length fs + length ks = ap (λ x. length x) q ∙ length-append fs ks in omega arith

pub rest_some : (fs ks gs : List ℕ) → gs ≡ fs ++ ks → length fs < length gs → 1 ≤ length ks
rest_some fs ks gs q h = let n : length gs ≡ length fs + length ks = ap (λ x. length x) q ∙ length-append fs ks in omega arith

pub functions_line : (s rs : List ℕ) (at : ℕ) (r : List ℕ × List ℕ) (e : ℕ) → functions_t s rs at (token_at s at) ≡ got r e
    → Declared r.0 × Disjoint rs r.0 × Arities r.0 r.1 × (length r.0 ≤ most_functions) × Spells s at (line_tokens word.funs_key r.0 r.1) e
unfolding line_tokens
functions_line s rs at r e h =
    pick_case (eqb (token_at s at).key word.funs_key) _ _ _ h
    (λ t g.
    let (ks, ls, q, q', (D, P, A, l), n, p) = line_sound s rs [] [] (token_at s at).end r e (no_functions rs) g in
    let o : Spells s at (line_tokens word.funs_key ks ls) e =
    line_spelled s word.funs_key ks ls n (Spells.more (eqb-true (token_at s at).key word.funs_key t) (omega arith) p) in
    let o' : Spells s at (line_tokens word.funs_key r.0 r.1) e = subst (λ x. Spells s at (line_tokens word.funs_key x r.1) e) (sym q)
    (subst (λ y. Spells s at (line_tokens word.funs_key ks y) e) (sym q') o) in (D, P, A, l, o'))
    λ t g. subst
    (λ x. Declared x.0 × Disjoint rs x.0 × Arities x.0 x.1 × (length x.0 ≤ most_functions)
    × Spells s at (line_tokens word.funs_key x.0 x.1) e) (got_value g)
    (none_declared, none_apart rs, spelled.Arities.none, omega arith, subst (λ n. Spells s at [] n) (got_place g) spelled.Spells.none)

-- the tests ks with the arities ls behind the functions fs, perhaps none
pub tests_line : (s rs fs ns : List ℕ) (at : ℕ) (r : List ℕ × List ℕ) (e : ℕ) → FunctionsInOrder rs fs ns → tests_t s rs fs ns at (token_at s at) ≡ got r e
    → (ks : List ℕ) × (ls : List ℕ) × (r.0 ≡ fs ++ ks) × (r.1 ≡ ns ++ ls) × FunctionsInOrder rs r.0 r.1
    × (1 ≤ length ks → length rs + hidden_registers ≤ most_registers) × Spells s at (line_tokens word.tests_key ks ls) e
unfolding line_tokens
tests_line s rs fs ns at r e F h =
    pick_case (eqb (token_at s at).key word.tests_key) _ _ _ h
    (λ t g. pick_case (ltb most_registers (length rs + hidden_registers)) _ _ _ g (λ _ f. absurd (not_refused f))
    λ u f.
    let (ks, ls, q, q', G, n, p) = line_sound s rs fs ns (token_at s at).end r e F f in (
      ks,
      ls,
      q,
      q',
      G,
      (λ _. ltb-false most_registers (length rs + hidden_registers) u),
      line_spelled s word.tests_key ks ls n (Spells.more (eqb-true (token_at s at).key word.tests_key t) (omega arith) p),
    ))
    λ t g.
    let q : (fs, ns) ≡ r = got_value g in
    let G : FunctionsInOrder rs r.0 r.1 = subst (λ r. FunctionsInOrder rs r.0 r.1) q F in (
      [],
      [],
      sym (ap (λ r. r.0) q) ∙ sym (append-nil fs),
      sym (ap (λ r. r.1) q) ∙ sym (append-nil ns),
      G,
      (λ n. absurd (omega arith)),
      subst (λ n. Spells s at [] n) (got_place g) spelled.Spells.none,
    )

-- A text that is read as m, before its points are counted.
pub text_sound : (s : List ℕ) (m : Macro) (e : ℕ) → read_text s ≡ got m e → (length s ≤ longest_text) × Spelled s m × InOrder m
unfolding read_text sentence ReadBlock
text_sound s m e h =
    pick_case (ltb longest_text (length s)) _ _ _ h (λ t g. absurd (not_refused g))
    λ t g.
    let (u, a, g₁, h₁) = onward_got (expect s word.vars_key 0) _ m e g in
    let (rs, b, g₂, h₂) = onward_got (register_names s most_registers [] a) _ m e h₁ in
    let (r, c, g₃, h₃) = onward_got (functions_t s rs b (token_at s b)) _ m e h₂ in
    let (v, d, g₄, h₄) = onward_got (tests_t s rs r.0 r.1 c (token_at s c)) _ m e h₃ in
    let (body, f, g₅, h₅) = onward_got (block s rs v.0 v.1 (length r.0) (2 * length s + 1) deepest_nesting d) _ m e h₄ in
    let p₁ = expect_sound s word.vars_key 0 a u (omega arith) g₁ in
    let (ks, q, D, n, l, p₂) = registers_sound s most_registers [] a rs b none_declared g₂ in
    let (F, P, A, l', p₃) = functions_line s rs b r c g₃ in
    let (fs, ns, q₁, q₂, G, room, p₄) = tests_line s rs r.0 r.1 c v d (F, P, A, l') g₄ in
    let T = front_within r.0 fs v.0 q₁ in
    let (o, i, p₅) = block_sound s rs v.0 v.1 (length r.0) T (2 * length s + 1) deepest_nesting d body f g₅ in
    pick_case (eqb (token_at s f).key 0) _ _ _ h₅
    (λ x w. subst (λ m. (length s ≤ longest_text) × Spelled s m × InOrder m) (got_value w) (
      ltb-false 4096 (length s) t,
      record {
        place = f;
        tokens = spells_then s p₁
            (regroup rs (declaration_tokens v.0 v.1 (length r.0)) (block_tokens rs v.0 v.1 body)
            (spells_then s (subst (λ x. Spells s a (x ++ word.semicolon_key ∷ []) b) (sym q) p₂)
            (spells_then s (lines r.0 r.1 fs ns A q₁ q₂ (spells_then s p₃ p₄)) p₅)));
        ended = eqb-true (token_at s f).key 0 x;
        register_spellings = refl;
        function_spellings = refl;
      },
      record {
        registers = D;
        some = n;
        few = subst (λ x. length x ≤ most_registers) (sym q) l;
        functions = G.0;
        apart = G.1;
        arities = G.2;
        fewer = G.3;
        tests = T;
        room = λ n. room (rest_some r.0 fs v.0 q₁ n);
        uses = o;
        depth = i;
      },
    ))
    λ x y. absurd (not_refused y)
  where
    regroup : (xs ys zs : List ℕ) {at e : ℕ} → Spells s at ((xs ++ word.semicolon_key ∷ []) ++ (ys ++ zs)) e
        → Spells s at (xs ++ word.semicolon_key ∷ (ys ++ zs)) e
    regroup xs ys zs {at} {e} p = subst (λ l. Spells s at l e) (append_assoc xs (word.semicolon_key ∷ []) (ys ++ zs)) p

    lines : (fs ns ks ls : List ℕ) {gs os : List ℕ} {at e : ℕ} → Arities fs ns → gs ≡ fs ++ ks → os ≡ ns ++ ls
        → Spells s at (line_tokens word.funs_key fs ns ++ line_tokens word.tests_key ks ls) e → Spells s at (declaration_tokens gs os (length fs)) e
    lines fs ns ks ls {gs} {os} {at} {e} A q q' p =
        subst (λ x. Spells s at (declaration_tokens x os (length fs)) e) (sym q)
        (subst (λ y. Spells s at (declaration_tokens (fs ++ ks) y (length fs)) e) (sym q')
        (subst (λ l. Spells s at l e) (sym (declared_lines fs ns ks ls (arities_length A))) p))

-- What is read is spelled by the text, is in order, and has at most 256 points.
pub read_sound : (s : List ℕ) (m : Macro) (e : ℕ) → read_macro s ≡ got m e
    → (length s ≤ longest_text) × Spelled s m × InOrder m × (size_block (expanded m) ≤ most_points)
unfolding read_macro
read_sound s m e h =
    let (n, a, g, k) = onward_got (read_text s) _ m e h in
    pick_case (ltb most_points (size_block (expanded n))) _ _ _ k (λ _ f. absurd (not_refused f))
    λ t f. let (l, S, O) = text_sound s n a g in
    subst (λ m. (length s ≤ longest_text) × Spelled s m × InOrder m × (size_block (expanded m) ≤ most_points)) (got_value f)
    (l, S, O, ltb-false most_points (size_block (expanded n)) t)

-- ---- calls enough

module _ (rs fs ns : List ℕ) where
  mutual
    unfolding statement_tokens weight

    weight_statement : (c : Statement) → weight c + 1 ≤ 2 * length (statement_tokens rs fs ns c)
    weight_statement skip = omega arith
    weight_statement (assign (copy x y)) = omega arith
    weight_statement (assign (apply x f y z)) = omega arith
    weight_statement (assume c) = omega arith
    weight_statement (assert c) = omega arith
    weight_statement (if c b e) =
        let n = length-append (block_tokens rs fs ns b) (word.rbrace_key ∷ else_tokens rs fs ns e) in
        let m = length-append (condition_tokens rs fs ns c) (word.lbrace_key ∷ (block_tokens rs fs ns b ++ word.rbrace_key ∷ else_tokens rs fs ns e)) in
        omega (arith, weight-block b, weight-else e)
    weight_statement (while c b) =
        let n = length-append (block_tokens rs fs ns b) (word.rbrace_key ∷ []) in
        let m = length-append (condition_tokens rs fs ns c) (word.lbrace_key ∷ (block_tokens rs fs ns b ++ word.rbrace_key ∷ [])) in
        omega (arith, weight-block b)

    weight-else : (e : Else) → weight_else e ≤ 2 * length (else_tokens rs fs ns e)
    weight-else absent = omega arith
    weight-else (present b) = let n = length-append (block_tokens rs fs ns b) (word.rbrace_key ∷ []) in omega (arith, weight-block b)

    weight-block : (b : Block) → weight_block b ≤ 2 * length (block_tokens rs fs ns b) + 1
    weight-block empty = omega arith
    weight-block (c then b) = let n = length-append (statement_tokens rs fs ns c) (block_tokens rs fs ns b) in omega (arith, weight_statement c, weight-block b)

-- a line of entries behind the functions fs is read
line_read : (s rs fs ns ks ls : List ℕ) (at e : ℕ) → FunctionsInOrder rs (fs ++ ks) (ns ++ ls) → Arities ks ls → 1 ≤ length ks
    → Spells s at (entry_tokens ks ls ++ word.semicolon_key ∷ []) e → line_from s rs fs ns at ≡ got (fs ++ ks, ns ++ ls) e
line_read s rs fs ns ks ls at e (D, P, _, l) A n p =
    let size = length-append fs ks in
    entries_complete s rs (length fs) ks ls A fs ns (most_functions - length fs) at e D P (omega arith) (omega arith) p

-- the line of functions, where something else than `word.funs` follows it
functions_read : (s rs : List ℕ) (at : ℕ) (fs ns : List ℕ) (e : ℕ) → FunctionsInOrder rs fs ns → Arities fs ns → Spells s at (line_tokens word.funs_key fs ns) e
    → eqb (token_at s e).key word.funs_key ≡ false → functions_t s rs at (token_at s at) ≡ got (fs, ns) e
unfolding line_tokens
functions_read s rs at fs ns e F spelled.Arities.none p h =
    rw (ap (λ n. eqb (token_at s n).key word.funs_key) (spells_nil s p) ∙ h) (ap (got ([], [])) (spells_nil s p))
functions_read s rs at fs ns e F (spelled.Arities.one A) p h =
    rw (eq-eqb (token_at s at).key word.funs_key (spells_key s p))
    (line_read s rs [] [] _ _ (token_at s at).end e F (spelled.Arities.one A) (omega arith) (spells_rest s p))
functions_read s rs at fs ns e F (spelled.Arities.two A) p h =
    rw (eq-eqb (token_at s at).key word.funs_key (spells_key s p))
    (line_read s rs [] [] _ _ (token_at s at).end e F (spelled.Arities.two A) (omega arith) (spells_rest s p))

-- the line of the tests ks behind the functions fs, where something else than `word.tests` follows it
tests_read : (s rs fs ns : List ℕ) (at : ℕ) (ks ls : List ℕ) (e : ℕ) → FunctionsInOrder rs (fs ++ ks) (ns ++ ls) → Arities ks ls
    → (1 ≤ length ks → length rs + hidden_registers ≤ most_registers) → Spells s at (line_tokens word.tests_key ks ls) e
    → eqb (token_at s e).key word.tests_key ≡ false → tests_t s rs fs ns at (token_at s at) ≡ got (fs ++ ks, ns ++ ls) e
unfolding line_tokens
tests_read s rs fs ns at ks ls e F spelled.Arities.none room p h =
    rw (ap (λ n. eqb (token_at s n).key word.tests_key) (spells_nil s p) ∙ h)
    (λ i. got (sym (append-nil fs) i, sym (append-nil ns) i) (spells_nil s p i))
tests_read s rs fs ns at ks ls e F (spelled.Arities.one A) room p h =
    rw (eq-eqb (token_at s at).key word.tests_key (spells_key s p), le-ltb most_registers (length rs + hidden_registers) (room (omega arith)))
    (line_read s rs fs ns _ _ (token_at s at).end e F (spelled.Arities.one A) (omega arith) (spells_rest s p))
tests_read s rs fs ns at ks ls e F (spelled.Arities.two A) room p h =
    rw (eq-eqb (token_at s at).key word.tests_key (spells_key s p), le-ltb most_registers (length rs + hidden_registers) (room (omega arith)))
    (line_read s rs fs ns _ _ (token_at s at).end e F (spelled.Arities.two A) (omega arith) (spells_rest s p))

-- `word.funs` begins no line of tests
tests_no_funs : (s : List ℕ) (ks ls : List ℕ) {at e : ℕ} → Spells s at (line_tokens word.tests_key ks ls) e → eqb (token_at s e).key word.funs_key ≡ false
    → eqb (token_at s at).key word.funs_key ≡ false
unfolding line_tokens
tests_no_funs s [] ls p h = ap (λ n. eqb (token_at s n).key word.funs_key) (spells_nil s p) ∙ h
tests_no_funs s (k ∷ ks) ls p h = ap (λ k. eqb k word.funs_key) (spells_key s p)

-- A text that spells a macro in order is read as it.
pub text_complete : (s : List ℕ) (m : Macro) → length s ≤ longest_text → Spelled s m → InOrder m → (e : ℕ) × (read_text s ≡ got m e)
unfolding read_text sentence
text_complete s m l S O =
    let rs = m.registers in let fs = m.functions in let ns = m.arities in let t = m.first_test in
    let P = S.tokens in
    let (b, p₂, q) = spells_split s (rs ++ word.semicolon_key ∷ [])
    (subst (λ l. Spells s (token_at s 0).end l S.place)
    (sym (append_assoc rs (word.semicolon_key ∷ []) (declaration_tokens fs ns t ++ block_tokens rs fs ns m.body))) (spells_rest s P)) in
    let (d, q', p₅) = spells_split s (declaration_tokens fs ns t) q in
    let (c, p₃, p₄) = spells_split s (line_tokens word.funs_key (take t fs) (take t ns)) q' in
    let w = weight-block rs fs ns m.body in
    let n = spells_bounded s p₅ in
    let f : take t fs ++ drop t fs ≡ fs = take-append-drop t fs in
    let g : take t ns ++ drop t ns ≡ ns = take-append-drop t ns in
    let size : length (take t fs) ≡ t = length-take-le t fs O.tests in
    let F : FunctionsInOrder rs fs ns = (O.functions, O.apart, O.arities, O.fewer) in
    let F₁ : FunctionsInOrder rs (take t fs) (take t ns) = (
      declared_front (take t fs) (drop t fs) (subst Declared (sym f) O.functions),
      apart_front rs (take t fs) (drop t fs) (subst (Disjoint rs) (sym f) O.apart),
      arities_take t O.arities,
      let x = O.tests in let y = O.fewer in omega arith,
    ) in
    let F₂ : FunctionsInOrder rs (take t fs ++ drop t fs) (take t ns ++ drop t ns) = subst (λ x. FunctionsInOrder rs x (take t ns ++ drop t ns)) (sym f)
    (subst (λ y. FunctionsInOrder rs fs y) (sym g) F) in
    let room : 1 ≤ length (drop t fs) → length rs + hidden_registers ≤ most_registers = (λ n. O.room (omega (arith, length-drop t fs))) in
    let tested : tests_t s rs (take t fs) (take t ns) c (token_at s c) ≡ got (fs, ns) d =
    tests_read s rs (take t fs) (take t ns) c (drop t fs) (drop t ns) d F₂ (arities_drop t O.arities) room p₄
    (block_no_tests s rs fs ns t O.registers O.functions m.body O.uses p₅ S.ended) ∙ (λ i. got (f i, g i) d) in (
      (token_at s S.place).end,
      rw (
        le-ltb longest_text (length s) l,
        eq-eqb (token_at s 0).key word.vars_key (spells_key s P),
        registers_complete s rs [] most_registers (token_at s 0).end b O.registers O.some O.few p₂,
        functions_read s rs b (take t fs) (take t ns) c F₁ F₁.2 p₃
            (tests_no_funs s (drop t fs) (drop t ns) p₄
            (block_no_funs s rs fs ns t O.registers O.functions m.body O.uses p₅ S.ended)),
        tested,
        size,
        block_complete s rs fs ns t O.registers O.functions (2 * length s + 1) m.body deepest_nesting d S.place (omega arith) O.uses O.depth p₅
            (ap (λ k. closing s rs fs ns t k) S.ended),
        eq-eqb (token_at s S.place).key 0 S.ended,
      )
          (λ i. got (record {
            registers = rs;
            register_spellings = sym S.register_spellings i;
            functions = fs;
            function_spellings = sym S.function_spellings i;
            arities = ns;
            first_test = t;
            body = m.body;
          }) (token_at s S.place).end),
    )

pub read_complete : (s : List ℕ) (m : Macro) → length s ≤ longest_text → Spelled s m → InOrder m → size_block (expanded m) ≤ most_points
    → (e : ℕ) × (read_macro s ≡ got m e)
unfolding read_macro
read_complete s m l S O n = let (e, h) = text_complete s m l S O in (e, rw (h, le-ltb most_points (size_block (expanded m)) n))

-- and refused by 13 where it has more points
pub read_long : (s : List ℕ) (m : Macro) → length s ≤ longest_text → Spelled s m → InOrder m → most_points < size_block (expanded m)
    → read_macro s ≡ Got.refused points_too_many 0
unfolding read_macro
read_long s m l S O n = let (e, h) = text_complete s m l S O in rw (h, lt-ltb most_points (size_block (expanded m)) n)
