-- Tokens stand in one part of a macro only, and the lines before them are the ones that they spell.
use mathlib.Core.Path.{◌≡◌, refl, sym, ap, ◌∙◌}
use Prim.Native.Nat.{ℕ, suc, ◌+◌, ◌≤◌}
use native.Mathlib.Omega.{arith}
use mathlib.Core.Bool.{true, false}
use mathlib.Core.List.{List, [], ◌∷◌, ◌++◌, append_assoc}
use lib.ListN.{length, get_or, take, drop, length-append, take-append-drop, length-drop}
use lib.Seq.{length-take-le, get_or-take, get_or-drop}
use Rattle.tokens.specs.Words.{is_name}
use Rattle.tokens.specs.Words as word
use Rattle.grammar.specs.Grammar.{entry_tokens, line_tokens, declaration_tokens}
use Rattle.grammar.specs.Spelled.{Arities, Spells}
use Rattle.grammar.proofs.Theory.Parts.{arities_take, arities_drop}
use Rattle.refusals.proofs.Theory.Basics.{head_same, tail_same, not_nil, clash}
use Rattle.refusals.specs.Questions.{AllNames, InRegisters, InFunctions, InTests, InStatements, NoRoom, Behind, Called}

pub not_name : (k j : ℕ) → is_name j ≡ false → is_name k ≡ true → k ≡ j → ⊥
not_name k j f t e = clash t (ap is_name e ∙ f)

-- ---- lists without `;`

abbrev Without : List ℕ → Type 0
Without [] = Unit {0}
Without (x ∷ xs) = (x ≡ word.semicolon_key → ⊥) × Without xs

names_without : (ks : List ℕ) → AllNames ks → Without ks
names_without [] n = tt
names_without (k ∷ ks) n = (not_name k word.semicolon_key refl (n 0 (omega arith)), names_without ks λ i l. n (suc i) (omega arith))

entries_without : (fs ns : List ℕ) → Arities fs ns → AllNames fs → Without (entry_tokens fs ns)
unfolding entry_tokens
entries_without fs ns Arities.none n = tt
entries_without fs ns (Arities.one {f} {fs = gs} {ns = ms} a) n = (
  not_name f word.semicolon_key refl (n 0 (omega arith)),
  ((λ h. absurd (omega arith)), ((λ h. absurd (omega arith)), entries_without gs ms a λ i l. n (suc i) (omega arith))),
)
entries_without fs ns (Arities.two {f} {fs = gs} {ns = ms} a) n = (
  not_name f word.semicolon_key refl (n 0 (omega arith)),
  ((λ h. absurd (omega arith)), ((λ h. absurd (omega arith)), entries_without gs ms a λ i l. n (suc i) (omega arith))),
)

split_same : (xs us ys vs : List ℕ) → Without xs → Without us → xs ++ word.semicolon_key ∷ ys ≡ us ++ word.semicolon_key ∷ vs → (xs ≡ us) × (ys ≡ vs)
split_same [] [] ys vs w v h = (refl, tail_same h)
split_same [] (u ∷ us) ys vs w v h = absurd (v.0 (sym (head_same h)))
split_same (x ∷ xs) [] ys vs w v h = absurd (w.0 (head_same h))
split_same (x ∷ xs) (u ∷ us) ys vs w v h = let (p, q) = split_same xs us ys vs w.1 v.1 (tail_same h) in (λ i. head_same h i ∷ p i, q)

no_split : (xs us ys : List ℕ) → Without xs → xs ≡ us ++ word.semicolon_key ∷ ys → ⊥
no_split [] [] ys w h = not_nil (sym h)
no_split [] (u ∷ us) ys w h = not_nil (sym h)
no_split (x ∷ xs) [] ys w h = w.0 (head_same h)
no_split (x ∷ xs) (u ∷ us) ys w h = no_split xs us ys w.1 (tail_same h)

-- ---- lines of functions

no_arities : (ns : List ℕ) → Arities [] ns → ns ≡ []
no_arities ns Arities.none = refl

entries_same : (fs ns gs ms : List ℕ) → Arities fs ns → Arities gs ms → entry_tokens fs ns ≡ entry_tokens gs ms → (fs ≡ gs) × (ns ≡ ms)
unfolding entry_tokens
entries_same fs ns gs ms Arities.none Arities.none h = (refl, refl)
entries_same fs ns gs ms Arities.none (Arities.one b) h = absurd (not_nil (sym h))
entries_same fs ns gs ms Arities.none (Arities.two b) h = absurd (not_nil (sym h))
entries_same fs ns gs ms (Arities.one a) Arities.none h = absurd (not_nil h)
entries_same fs ns gs ms (Arities.two a) Arities.none h = absurd (not_nil h)
entries_same fs ns gs ms (Arities.one {fs = fs'} {ns = ns'} a) (Arities.one {fs = gs'} {ns = ms'} b) h = let (p, q) =
    entries_same fs' ns' gs' ms' a b (tail_same (tail_same (tail_same h))) in (λ i. head_same h i ∷ p i, λ i. 1 ∷ q i)
entries_same fs ns gs ms (Arities.one a) (Arities.two b) h = let z : ◌≡◌ {A = ℕ} 49 50 = head_same (tail_same (tail_same h)) in absurd (omega arith)
entries_same fs ns gs ms (Arities.two a) (Arities.one b) h = let z : ◌≡◌ {A = ℕ} 50 49 = head_same (tail_same (tail_same h)) in absurd (omega arith)
entries_same fs ns gs ms (Arities.two {fs = fs'} {ns = ns'} a) (Arities.two {fs = gs'} {ns = ms'} b) h = let (p, q) =
    entries_same fs' ns' gs' ms' a b (tail_same (tail_same (tail_same h))) in (λ i. head_same h i ∷ p i, λ i. 2 ∷ q i)

-- lines that begin with the word j
module _ (j : ℕ) where
  -- the tokens do not go on with it
  abbrev Other : List ℕ → Type 0
  Other ws = get_or ws 0 0 ≡ j → ⊥

  lines_same : (fs ns gs ms b d : List ℕ) → Arities fs ns → AllNames fs → Arities gs ms → AllNames gs → Other b → Other d
      → line_tokens j fs ns ++ b ≡ line_tokens j gs ms ++ d → (fs ≡ gs) × (ns ≡ ms) × (b ≡ d)
  unfolding line_tokens
  lines_same [] ns [] ms b d A N B M x y h = (refl, no_arities ns A ∙ sym (no_arities ms B), h)
  lines_same [] ns (g ∷ gs) ms b d A N B M x y h = absurd (x (ap (λ l. get_or l 0 0) h))
  lines_same (f ∷ fs) ns [] ms b d A N B M x y h = absurd (y (sym (ap (λ l. get_or l 0 0) h)))
  lines_same (f ∷ fs) ns (g ∷ gs) ms b d A N B M x y h =
      let E = entry_tokens (f ∷ fs) ns in
      let D = entry_tokens (g ∷ gs) ms in
      let l : E ++ word.semicolon_key ∷ b ≡ D ++ word.semicolon_key ∷ d =
      sym (append_assoc E (word.semicolon_key ∷ []) b) ∙ tail_same h ∙ append_assoc D (word.semicolon_key ∷ []) d in
      let (p, q) = split_same E D b d (entries_without (f ∷ fs) ns A N) (entries_without (g ∷ gs) ms B M) l in
      let (u, v) = entries_same (f ∷ fs) ns (g ∷ gs) ms A B p in
      (u, v, q)

  -- entries that go on are not followed by anything else
  open_line : (fs ns gs ms d : List ℕ) → Arities fs ns → AllNames fs → Other d → j ∷ entry_tokens fs ns ≡ line_tokens j gs ms ++ d → ⊥
  unfolding line_tokens
  open_line fs ns [] ms d A N y h = y (sym (ap (λ l. get_or l 0 0) h))
  open_line fs ns (g ∷ gs) ms d A N y h =
      no_split (entry_tokens fs ns) (entry_tokens (g ∷ gs) ms) d (entries_without fs ns A N)
      (tail_same h ∙ append_assoc (entry_tokens (g ∷ gs) ms) (word.semicolon_key ∷ []) d)

-- ---- some of a list

pub names_take : (t : ℕ) (ks : List ℕ) → t ≤ length ks → AllNames ks → AllNames (take t ks)
names_take t ks w n i l = let e = length-take-le t ks w in ap is_name (get_or-take t ks i 0 (omega arith)) ∙ n i (omega arith)

pub names_drop : (t : ℕ) (ks : List ℕ) → t ≤ length ks → AllNames ks → AllNames (drop t ks)
names_drop t ks w n i l = let e = length-drop t ks in ap is_name (get_or-drop t ks i 0) ∙ n (t + i) (omega arith)

-- two lists with the same parts
joined_same : (t u : ℕ) (xs ys : List ℕ) → take t xs ≡ take u ys → drop t xs ≡ drop u ys → xs ≡ ys
joined_same t u xs ys h g = sym (take-append-drop t xs) ∙ (λ i. h i ++ g i) ∙ take-append-drop u ys

-- ---- the parts

-- what stands behind the line of registers
registers_end : {before : List ℕ} (rs us ys vs : List ℕ) → AllNames rs → AllNames us → before ≡ word.vars_key ∷ (rs ++ word.semicolon_key ∷ ys)
    → before ≡ word.vars_key ∷ (us ++ word.semicolon_key ∷ vs) → (rs ≡ us) × (ys ≡ vs)
registers_end rs us ys vs n m h g = split_same rs us ys vs (names_without rs n) (names_without us m) (tail_same (sym h ∙ g))

-- behind the line of functions no other begins
tests_first : (fs ns ws : List ℕ) → Other word.funs_key ws → Other word.funs_key (line_tokens word.tests_key fs ns ++ ws)
unfolding line_tokens
tests_first [] ns ws x e = x e
tests_first (f ∷ fs) ns ws x e = omega arith

-- both lines and what follows them
declared_then : (fs ns : List ℕ) (t : ℕ) (ws : List ℕ)
    → declaration_tokens fs ns t ++ ws ≡ line_tokens word.funs_key (take t fs) (take t ns) ++ (line_tokens word.tests_key (drop t fs) (drop t ns) ++ ws)
declared_then fs ns t ws = append_assoc (line_tokens word.funs_key (take t fs) (take t ns)) (line_tokens word.tests_key (drop t fs) (drop t ns)) ws

pub registers_same : {before rs us : List ℕ} → InRegisters before rs → InRegisters before us → rs ≡ us
registers_same I J = tail_same (sym I.split ∙ J.split)

pub registers_functions : {before rs us fs ns : List ℕ} → InRegisters before rs → InFunctions before us fs ns → ⊥
registers_functions {rs = rs} {us} I J = no_split rs us _ (names_without rs I.registers) (tail_same (sym I.split ∙ J.split))

pub registers_tests : {before rs us fs ns : List ℕ} {t : ℕ} → InRegisters before rs → InTests before us fs ns t → ⊥
registers_tests {rs = rs} {us} I J = no_split rs us _ (names_without rs I.registers) (tail_same (sym I.split ∙ J.split))

pub registers_statements : {before rs us fs ns : List ℕ} {t : ℕ} → InRegisters before rs → InStatements before us fs ns t → ⊥
registers_statements {rs = rs} {us} I J = no_split rs us _ (names_without rs I.registers) (tail_same (sym I.split ∙ J.split))

pub functions_same : {before rs fs ns us gs ms : List ℕ} → InFunctions before rs fs ns → InFunctions before us gs ms → (rs ≡ us) × (fs ≡ gs)
functions_same {rs = rs} {fs} {ns} {us} {gs} {ms} I J =
    let (p, q) = registers_end rs us _ _ I.registers J.registers I.split J.split in
    (p, (entries_same fs ns gs ms I.arities J.arities (tail_same q)).0)

pub functions_tests : {before rs fs ns us gs ms : List ℕ} {u : ℕ} → InFunctions before rs fs ns → InTests before us gs ms u → ⊥
functions_tests {rs = rs} {fs} {ns} {us} {gs} {ms} {u} I J =
    let (p, q) = registers_end rs us _ _ I.registers J.registers I.split J.split in
    open_line word.funs_key fs ns (take u gs) (take u ms) _ I.arities I.functions (λ e. omega arith) q

pub functions_statements : {before rs fs ns us gs ms : List ℕ} {u : ℕ} → InFunctions before rs fs ns → InStatements before us gs ms u → ⊥
functions_statements {rs = rs} {fs} {ns} {us} {gs} {ms} {u} I J =
    let (p, q) = registers_end rs us _ _ I.registers J.registers I.split J.split in
    open_line word.funs_key fs ns (take u gs) (take u ms) _ I.arities I.functions (tests_first (drop u gs) (drop u ms) J.body J.functions_begun)
    (q ∙ declared_then gs ms u J.body)

pub tests_same : {before rs fs ns us gs ms : List ℕ} {t u : ℕ} → InTests before rs fs ns t → InTests before us gs ms u → (rs ≡ us) × (fs ≡ gs)
tests_same {rs = rs} {fs} {ns} {us} {gs} {ms} {t} {u} I J =
    let (p, q) = registers_end rs us _ _ I.registers J.registers I.split J.split in
    let (a, b, c) = lines_same word.funs_key (take t fs) (take t ns) (take u gs) (take u ms) _ _ (arities_take t I.arities)
    (names_take t fs I.within I.functions) (arities_take u J.arities) (names_take u gs J.within J.functions) (λ e. omega arith)
    (λ e. omega arith) q in
    let (d, e) = entries_same (drop t fs) (drop t ns) (drop u gs) (drop u ms) (arities_drop t I.arities) (arities_drop u J.arities)
    (tail_same c) in
    (p, joined_same t u fs gs a d)

pub tests_statements : {before rs fs ns us gs ms : List ℕ} {t u : ℕ} → InTests before rs fs ns t → InStatements before us gs ms u → ⊥
tests_statements {rs = rs} {fs} {ns} {us} {gs} {ms} {t} {u} I J =
    let (p, q) = registers_end rs us _ _ I.registers J.registers I.split J.split in
    let (a, b, c) = lines_same word.funs_key (take t fs) (take t ns) (take u gs) (take u ms) _ _ (arities_take t I.arities)
    (names_take t fs I.within I.functions) (arities_take u J.arities) (names_take u gs J.within J.functions) (λ e. omega arith)
    (tests_first (drop u gs) (drop u ms) J.body J.functions_begun) (q ∙ declared_then gs ms u J.body) in
    open_line word.tests_key (drop t fs) (drop t ns) (drop u gs) (drop u ms) J.body (arities_drop t I.arities)
    (names_drop t fs I.within I.functions) J.tests_begun c

pub statements_same : {before rs fs ns us gs ms : List ℕ} {t u : ℕ} → InStatements before rs fs ns t → InStatements before us gs ms u
    → (rs ≡ us) × (fs ≡ gs) × (ns ≡ ms) × (t ≡ u)
statements_same {rs = rs} {fs} {ns} {us} {gs} {ms} {t} {u} I J =
    let (p, q) = registers_end rs us _ _ I.registers J.registers I.split J.split in
    let (a, b, c) = lines_same word.funs_key (take t fs) (take t ns) (take u gs) (take u ms) _ _ (arities_take t I.arities)
    (names_take t fs I.within I.functions) (arities_take u J.arities) (names_take u gs J.within J.functions)
    (tests_first (drop t fs) (drop t ns) I.body I.functions_begun) (tests_first (drop u gs) (drop u ms) J.body J.functions_begun)
    (sym (declared_then fs ns t I.body) ∙ q ∙ declared_then gs ms u J.body) in
    let (d, e, f) = lines_same word.tests_key (drop t fs) (drop t ns) (drop u gs) (drop u ms) I.body J.body (arities_drop t I.arities)
    (names_drop t fs I.within I.functions) (arities_drop u J.arities) (names_drop u gs J.within J.functions) I.tests_begun
    J.tests_begun c in (
      p,
      joined_same t u fs gs a d,
      joined_same t u ns ms b e,
      sym (length-take-le t fs I.within) ∙ ap length a ∙ length-take-le u gs J.within,
    )

-- the registers of a line that is whole are so many as it has
pub room_same : {before : List ℕ} {k : ℕ} (rs ys : List ℕ) → AllNames rs → before ≡ word.vars_key ∷ (rs ++ word.semicolon_key ∷ ys) → (N : NoRoom before k)
    → N.registers ≡ rs
room_same rs ys n h N = (registers_end N.registers rs N.further ys N.names n N.split h).0

-- ---- one token more

pub statements_more : {before rs fs ns : List ℕ} {t : ℕ} (k : ℕ) → (k ≡ word.funs_key → ⊥) → (k ≡ word.tests_key → ⊥) → InStatements before rs fs ns t
    → InStatements (before ++ k ∷ []) rs fs ns t
statements_more {before} {rs} {fs} {ns} {t} k h g I =
    record {
      registers = I.registers;
      functions = I.functions;
      arities = I.arities;
      within = I.within;
      body = I.body ++ k ∷ [];
      split = ap (λ l. l ++ k ∷ []) I.split
          ∙ ap (λ l. word.vars_key ∷ l) (append_assoc rs (word.semicolon_key ∷ (declaration_tokens fs ns t ++ I.body)) (k ∷ [])
          ∙ ap (λ l. rs ++ word.semicolon_key ∷ l) (append_assoc (declaration_tokens fs ns t) I.body (k ∷ [])));
      functions_begun = still word.funs_key h I.body I.functions_begun;
      tests_begun = still word.tests_key g I.body I.tests_begun;
    }
  where
    still : (j : ℕ) → (k ≡ j → ⊥) → (b : List ℕ) → Other j b → Other j (b ++ k ∷ [])
    still j h [] g e = h e
    still j h (x ∷ b) g e = g e

-- ---- the last tokens

ends_same : (xs us ys vs : List ℕ) → length ys ≡ length vs → xs ++ ys ≡ us ++ vs → ys ≡ vs
ends_same [] [] ys vs n h = h
ends_same [] (u ∷ us) ys vs n h = let l : length ys ≡ suc (length (us ++ vs)) = ap length h in absurd (omega (arith, length-append us vs))
ends_same (x ∷ xs) [] ys vs n h = let l : suc (length (xs ++ ys)) ≡ length vs = ap length h in absurd (omega (arith, length-append xs ys))
ends_same (x ∷ xs) (u ∷ us) ys vs n h = ends_same xs us ys vs n (tail_same h)

pub behind_same : {before : List ℕ} {k j : ℕ} → Behind before k → Behind before j → k ≡ j
behind_same {before} {k} {j} (xs, h) (us, g) = head_same (ends_same xs us (k ∷ []) (j ∷ []) refl (sym h ∙ g))

pub called_same : {before : List ℕ} {f g : ℕ} → Called before f → Called before g → f ≡ g
called_same {before} {f} {g} (xs, b, h) (us, c, e) = head_same (ends_same xs us (f ∷ word.lparen_key ∷ b ∷ []) (g ∷ word.lparen_key ∷ c ∷ []) refl (sym h ∙ e))

-- behind `,` and a name there is no first argument
pub not_called : {before : List ℕ} {f : ℕ} (b : ℕ) (xs : List ℕ) → before ≡ xs ++ word.comma_key ∷ b ∷ [] → Called before f → ⊥
not_called {before} {f} b xs h (us, c, e) =
    let p : word.comma_key ∷ b ∷ [] ≡ word.lparen_key ∷ c ∷ [] =
    ends_same xs (us ++ f ∷ []) (word.comma_key ∷ b ∷ []) (word.lparen_key ∷ c ∷ []) refl
    (sym h ∙ e ∙ sym (append_assoc us (f ∷ []) (word.lparen_key ∷ c ∷ []))) in
    let z : word.comma_key ≡ word.lparen_key = head_same p in omega arith
