-- The lines of registers, of functions and of tests, judged.
use mathlib.Core.Path.{◌≡◌, refl, sym, ap, subst, ◌∙◌}
use mathlib.Core.Logic.{◌⊎◌, inl, inr}
use Prim.Native.Nat.{ℕ, zero, suc, ◌+◌, ◌-◌, ◌≤◌, ◌<◌}
use native.Mathlib.Omega.{arith}
use mathlib.Core.Bool.{Bool, true, false, not, ◌&&◌, ◌||◌}
use mathlib.Core.List.{List, [], ◌∷◌, ◌++◌, append_assoc, append-nil}
use lib.Dec.{eqb, ltb}
use lib.ListN.{length, drop, length-append, length-drop}
use lib.ListN as list
use lib.Seq.{take-length, drop-length, take-append-le, drop-append-le}
use Rattle.letters.specs.Editions.{most_registers, most_functions}
use borrow.Author.Tests.{eqb-true, ltb-true, ltb-false, ne_eqb}
use Rattle.tokens.specs.Tokens.{token_at}
use Rattle.tokens.specs.Words.{is_name}
use Rattle.tokens.specs.Words as word
use Rattle.tokens.proofs.Theory.WordsLaws.{name_real, not_word}
use Rattle.grammar.specs.Grammar.{entry_tokens, line_tokens, declaration_tokens}
use Rattle.grammar.specs.Limits.{hidden_registers}
use Rattle.grammar.specs.Reading.{index_of, expect, listed_t, is_declared, register_names, arity_of, functions_t, tests_t}
use Rattle.grammar.specs.Reading as reading
use Rattle.grammar.proofs.Theory.Sound.{index_at}
use Rattle.grammar.proofs.Theory.Complete.{index_below}
use Rattle.grammar.specs.Spelled.{Arities, Spells}
use Rattle.grammar.proofs.Theory.Declarations.{or_false}
use Rattle.grammar.proofs.Theory.Parts.{arities_length, arities_take, arities_drop}
use Rattle.letters.proofs.Theory.WordLaws.{and_true}
use Rattle.refusals.proofs.Theory.Basics.{clash, or_case, and_false, not-true}
use Rattle.refusals.proofs.Theory.Rests.{Rest, token, digit, names, entries, line, last_line, outside, took, stuck, take, complete}
use Rattle.refusals.specs.Questions.{AllNames, InRegisters, InFunctions, InTests, InStatements, Among, Behind, Redeclared, Misused, NoRoom, occurrences}
use Rattle.refusals.specs.FirstNo.{tokens_before}
use Rattle.refusals.proofs.Theory.Parts.{not_name, registers_same, registers_functions, registers_tests, registers_statements, functions_same}
use Rattle.refusals.proofs.Theory.Parts.{functions_tests, functions_statements, tests_same, tests_statements, room_same, names_take, names_drop}
use Rattle.refusals.proofs.Theory.Judged.{JudgedReading, fine, judged_on, judged_pick, judged_map, stuck_at, key_at, At, before_next, advance, none_here}
use Rattle.refusals.proofs.Theory.Judged.{plain_on, plain, unfit_judged, redeclared_judged, no_room_judged}
use Rattle.refusals.proofs.Theory.Judged.{unnamed_redeclared, unnamed_misused}
use Rattle.refusals.proofs.Theory.Statements.{Stands, outermost, stands}

-- ---- one name or entry more

pub names_more : (ks : List ℕ) (k : ℕ) → AllNames ks → is_name k ≡ true → AllNames (ks ++ k ∷ [])
names_more [] k n t zero l = t
names_more [] k n t (suc i) l = absurd (omega arith)
names_more (x ∷ ks) k n t zero l = n 0 (omega arith)
names_more (x ∷ ks) k n t (suc i) l = names_more ks k (λ i l. n (suc i) (omega arith)) t i (omega arith)

some_more : (ks : List ℕ) (k : ℕ) → true ≡ not (eqb (length (ks ++ k ∷ [])) 0)
some_more ks k = rw (ne_eqb (length (ks ++ k ∷ [])) 0 λ z. omega (arith, length-append ks (k ∷ [])))

arities_more : (fs ns : List ℕ) (k n : ℕ) → Arities fs ns → (n ≡ 1) ⊎ (n ≡ 2) → Arities (fs ++ k ∷ []) (ns ++ n ∷ [])
arities_more fs ns k n Arities.none (inl h) = subst (λ n. Arities (k ∷ []) (n ∷ [])) (sym h) (Arities.one Arities.none)
arities_more fs ns k n Arities.none (inr h) = subst (λ n. Arities (k ∷ []) (n ∷ [])) (sym h) (Arities.two Arities.none)
arities_more fs ns k n (Arities.one {fs = gs} {ns = ms} a) h = Arities.one (arities_more gs ms k n a h)
arities_more fs ns k n (Arities.two {fs = gs} {ns = ms} a) h = Arities.two (arities_more gs ms k n a h)

entries_more : (fs ns : List ℕ) (k n : ℕ) → Arities fs ns → entry_tokens (fs ++ k ∷ []) (ns ++ n ∷ []) ≡ entry_tokens fs ns ++ k ∷ word.slash_key ∷ (48 + n) ∷ []
unfolding entry_tokens
entries_more fs ns k n Arities.none = refl
entries_more fs ns k n (Arities.one {f} {fs = gs} {ns = ms} a) = ap (λ l. f ∷ word.slash_key ∷ 49 ∷ l) (entries_more gs ms k n a)
entries_more fs ns k n (Arities.two {f} {fs = gs} {ns = ms} a) = ap (λ l. f ∷ word.slash_key ∷ 50 ∷ l) (entries_more gs ms k n a)

not_misused : {before : List ℕ} {k next : ℕ} → ((rs fs ns : List ℕ) (t : ℕ) → InStatements before rs fs ns t → ⊥) → Misused before k next → ⊥
not_misused n (Misused.register I t x y z) = n _ _ _ _ I
not_misused n (Misused.function I t x y) = n _ _ _ _ I
not_misused n (Misused.test I t x y) = n _ _ _ _ I
not_misused n (Misused.more_arguments I c t e) = n _ _ _ _ I
not_misused n (Misused.fewer_arguments I c t e) = n _ _ _ _ I

module _ (s : List ℕ) where
  known_among : (k : ℕ) (l : List ℕ) → is_declared k l ≡ true → Among k l
  known_among k l t = let b = ltb-true (index_of k l) (length l) t in (index_of k l, b, sym (index_at k l b))

  unknown_among : (k : ℕ) (l : List ℕ) → is_declared k l ≡ false → Among k l → ⊥
  unknown_among k l t (i, b, e) = let x = index_below k l i b (sym e) in let y = ltb-false (index_of k l) (length l) t in omega arith

  -- one token k that is due
  abbrev pub Next : ℕ → ℕ → Rest → ℕ → Type 0
  Next i k q e = At s (suc i) e q × (tokens_before s (suc i) ≡ tokens_before s i ++ k ∷ [])

  next_on : {i at : ℕ} {r : Rest} → At s i at r → (k : ℕ) (q : Rest) → key_at s at ≡ k → plain k ≡ true → take r k ≡ took q → Next i k q (token_at s at).end
  next_on {i} {at} {r} A k q e p h = (plain_on s A q (ap plain e ∙ p) (ap (λ k. take r k) e ∙ h), before_next s A ∙ ap (λ k. tokens_before s i ++ k ∷ []) e)

  pub expect_judged : {i at : ℕ} (k : ℕ) (r : Rest) → At s i at (token k r) → plain k ≡ true → take (token k r) k ≡ took r
      → JudgedReading s (Unit {0}) (λ _ e. Next i k r e) (expect s k at)
  expect_judged {i} {at} k r A p h =
      judged_pick (eqb (key_at s at) k) _ _ (λ t. fine (next_on A k r (eqb-true (key_at s at) k t) p h))
      λ t. unfit_judged s A (stuck_at (token k r) (key_at s at) refl (rw t))

  -- `;` at the end of a list of n
  listed_judged : {A : Type 0} (a : A) (n : ℕ) {i at : ℕ} (r q : Rest) → At s i at r → complete r ≡ false
      → (not (eqb n 0) ≡ true → take r word.semicolon_key ≡ took q) → (eqb (key_at s at) word.semicolon_key && not (eqb n 0) ≡ false → take r (key_at s at) ≡ stuck)
      → JudgedReading s A (λ b e. (a ≡ b) × (eqb n 0 ≡ false) × Next i word.semicolon_key q e) (listed_t s n a (token_at s at))
  listed_judged a n {i} {at} r q A c f g =
      judged_pick (eqb (key_at s at) word.semicolon_key && not (eqb n 0)) _ _
      (λ t. let (x, y) = and_true (eqb (key_at s at) word.semicolon_key) (not (eqb n 0)) t in
      fine (refl, not-true (eqb n 0) y, next_on A word.semicolon_key q (eqb-true (key_at s at) word.semicolon_key x) refl (f y)))
      λ t. unfit_judged s A (stuck_at r (key_at s at) c (g t))

  -- ---- registers

  abbrev Registered : List ℕ → ℕ → Type 0
  Registered us e = (j : ℕ) × At s j e line × AllNames us × (tokens_before s j ≡ word.vars_key ∷ (us ++ word.semicolon_key ∷ []))

  names_ended : (rs : List ℕ) (i at : ℕ) → At s i at (names (not (eqb (length rs) 0))) → InRegisters (tokens_before s i) rs → is_name (key_at s at) ≡ false
      → JudgedReading s (List ℕ) Registered (listed_t s (length rs) rs (token_at s at))
  names_ended rs i at A I t =
      judged_map (listed_judged rs (length rs) (names (not (eqb (length rs) 0))) line A refl (λ f. rw f) λ g. rw (t, g))
      λ us e (h, n, (B, b)). subst (λ us. Registered us e) h (suc i, B, I.registers, b ∙ ap (λ l. l ++ word.semicolon_key ∷ []) I.split)

  pub fresh_register : {before rs : List ℕ} {k : ℕ} → InRegisters before rs → (Among k rs → ⊥) → length rs < most_registers → Redeclared before k → ⊥
  fresh_register {rs = rs} {k} I a l (Redeclared.register {rs = us} J t (inl x)) = a (subst (Among k) (sym (registers_same I J)) x)
  fresh_register {rs = rs} I a l (Redeclared.register {rs = us} J t (inr x)) = let e : length rs ≡ length us = ap length (registers_same I J) in omega arith
  fresh_register I a l (Redeclared.function J t x) = registers_functions I J
  fresh_register I a l (Redeclared.test J t x) = registers_tests I J

  pub registers_judged : (room : ℕ) (rs : List ℕ) (i at : ℕ) → room + length rs ≡ most_registers → At s i at (names (not (eqb (length rs) 0)))
      → InRegisters (tokens_before s i) rs → JudgedReading s (List ℕ) Registered (register_names s room rs at)
  unfolding register_names
  registers_judged zero rs i at n A I =
      judged_pick (is_name (key_at s at)) _ _ (λ t. redeclared_judged s {q = names true} A (rw t) t (Redeclared.register I t (inr (omega arith))))
      λ t. names_ended rs i at A I t
  registers_judged (suc room) rs i at n A I =
      judged_pick (is_name (key_at s at)) _ _
      (λ t. let h : take (names (not (eqb (length rs) 0))) (key_at s at) ≡ took (names true) = rw t in judged_pick (is_declared (key_at s at) rs) _ _
      (λ u. redeclared_judged s A h t (Redeclared.register I t (inl (known_among (key_at s at) rs u))))
      λ u. let l = name_real (key_at s at) t in
      let B = advance s A (names true) l h
      (none_here s A h l (fresh_register I (unknown_among (key_at s at) rs u) (omega arith)) (not_misused λ _ _ _ _ J. registers_statements I J)
      (λ D. not_name (key_at s at) word.lbrace_key refl t D.brace) λ N. not_name (key_at s at) word.tests_key refl t N.begins) in
      registers_judged room (rs ++ key_at s at ∷ []) (suc i) (token_at s at).end (let z = length-append rs (key_at s at ∷ []) in omega arith)
      (subst (λ e. At s (suc i) (token_at s at).end (names e)) (some_more rs (key_at s at)) B)
      (record { registers = names_more rs (key_at s at) I.registers t; split = before_next s A ∙ ap (λ l. l ++ key_at s at ∷ []) I.split }))
      λ t. names_ended rs i at A I t

  -- ---- functions and tests

  arity_judged : {i at : ℕ} (r : Rest) → At s i at (token word.slash_key (digit r))
      → JudgedReading s ℕ (λ n e. At s (suc (suc i)) e r × ((n ≡ 1) ⊎ (n ≡ 2))
      × (tokens_before s (suc (suc i)) ≡ tokens_before s i ++ word.slash_key ∷ (48 + n) ∷ [])) (arity_of s at)
  unfolding arity_of
  arity_judged {i} {at} r A =
      judged_on (expect s word.slash_key at) _ (expect_judged word.slash_key (digit r) A refl refl) λ _ a _ (B, b).
      judged_pick (eqb (key_at s a) word.one_key) _ _
      (λ t. let (C, c) = next_on B word.one_key r (eqb-true (key_at s a) word.one_key t) refl refl in
      fine (C, inl refl, c ∙ ap (λ l. l ++ word.one_key ∷ []) b ∙ append_assoc (tokens_before s i) (word.slash_key ∷ []) (word.one_key ∷ [])))
      λ t. judged_pick (eqb (key_at s a) word.two_key) _ _
      (λ u. let (C, c) = next_on B word.two_key r (eqb-true (key_at s a) word.two_key u) refl refl in
      fine (C, inr refl, c ∙ ap (λ l. l ++ word.two_key ∷ []) b ∙ append_assoc (tokens_before s i) (word.slash_key ∷ []) (word.two_key ∷ [])))
      λ u. unfit_judged s B (stuck_at (digit r) (key_at s a) refl (rw (t, u)))

  module _ (rs : List ℕ) where
    -- behind the line of registers, the functions gs in a line of their own, if there are some, the word `begins` and entries: fs are all functions so far
    record InLine (gs ms : List ℕ) (begins : ℕ) (before fs ns : List ℕ) : Type 0 where
      functions : AllNames fs
      arities : Arities fs ns
      within : length gs ≤ length fs
      first_functions : list.take (length gs) fs ≡ gs
      first_arities : list.take (length gs) ns ≡ ms
      split : before ≡ word.vars_key ∷ (rs ++ word.semicolon_key ∷ (line_tokens word.funs_key gs ms ++ begins
          ∷ entry_tokens (drop (length gs) fs) (drop (length gs) ns)))

    -- the line is whole
    abbrev LineRead : (gs ms : List ℕ) → ℕ → Rest → List ℕ × List ℕ → ℕ → Type 0
    LineRead gs ms begins q r e = (j : ℕ) × At s j e q × AllNames r.0 × Arities r.0 r.1 × (length gs ≤ length r.0)
        × (list.take (length gs) r.0 ≡ gs) × (list.take (length gs) r.1 ≡ ms) × Behind (tokens_before s j) word.semicolon_key
        × (tokens_before s j ≡ word.vars_key ∷ (rs ++ word.semicolon_key ∷ (line_tokens word.funs_key gs ms
        ++ line_tokens begins (drop (length gs) r.0) (drop (length gs) r.1))))

    line_whole : (k : ℕ) (fs ns : List ℕ) → eqb (length fs) 0 ≡ false → line_tokens k fs ns ≡ k ∷ (entry_tokens fs ns ++ word.semicolon_key ∷ [])
    unfolding line_tokens
    line_whole k [] ns h = absurd (clash refl h)
    line_whole k (f ∷ fs) ns h = refl

    -- whether a line that begins behind n functions has an entry
    abbrev begun : ℕ → List ℕ → Bool
    begun n fs = not (eqb (length fs - n) 0)

    module _ (gs ms : List ℕ) (begins : ℕ) (q : Rest)
        (again : (before fs ns : List ℕ) (k : ℕ) → InLine gs ms begins before fs ns → is_name k ≡ true
        → (Among k rs ⊎ Among k fs) ⊎ (most_functions ≤ length fs) → Redeclared before k)
        (fresh : (before fs ns : List ℕ) (k : ℕ) → InLine gs ms begins before fs ns → (Among k rs → ⊥) → (Among k fs → ⊥) → length fs < most_functions
        → Redeclared before k → ⊥)
        (apart : (before fs ns us hs ls : List ℕ) (t : ℕ) → InLine gs ms begins before fs ns → InStatements before us hs ls t → ⊥) where
      entries_ended : (fs ns : List ℕ) (i at : ℕ) → At s i at (entries (begun (length gs) fs) q) → InLine gs ms begins (tokens_before s i) fs ns
          → is_name (key_at s at) ≡ false
          → JudgedReading s (List ℕ × List ℕ) (LineRead gs ms begins q) (listed_t s (length fs - length gs) (fs, ns) (token_at s at))
      entries_ended fs ns i at A I t =
          let m = length gs in
          let E = entry_tokens (drop m fs) (drop m ns) in
          judged_map (listed_judged (fs, ns) (length fs - m) (entries (begun m fs) q) q A refl (λ f. rw f) λ g. rw (t, g))
          λ r e (h, n, (B, b)). subst (λ r. LineRead gs ms begins q r e) h (
            suc i,
            B,
            I.functions,
            I.arities,
            I.within,
            I.first_functions,
            I.first_arities,
            (tokens_before s i, b),
            b ∙ ap (λ l. l ++ word.semicolon_key ∷ []) I.split
                ∙ ap (λ l. word.vars_key ∷ l) (append_assoc rs (word.semicolon_key ∷ (line_tokens word.funs_key gs ms ++ begins ∷ E)) (word.semicolon_key ∷ [])
                ∙ ap (λ l. rs ++ word.semicolon_key ∷ l) (append_assoc (line_tokens word.funs_key gs ms) (begins ∷ E) (word.semicolon_key ∷ [])
                ∙ ap (λ l. line_tokens word.funs_key gs ms ++ l)
                (sym (line_whole begins (drop m fs) (drop m ns) (ap (λ n. eqb n 0) (length-drop m fs) ∙ n))))),
          )

      entries_judged : (room : ℕ) (fs ns : List ℕ) (i at : ℕ) → room + length fs ≡ most_functions → At s i at (entries (begun (length gs) fs) q)
          → InLine gs ms begins (tokens_before s i) fs ns
          → JudgedReading s (List ℕ × List ℕ) (LineRead gs ms begins q) (reading.entries s rs (length gs) room fs ns at)
      unfolding reading.entries
      entries_judged zero fs ns i at n A I =
          judged_pick (is_name (key_at s at)) _ _
          (λ t. redeclared_judged s {q = token word.slash_key (digit (entries true q))} A (rw t) t (again _ _ _ _ I t (inr (omega arith))))
          λ t. entries_ended fs ns i at A I t
      entries_judged (suc room) fs ns i at n A I =
          judged_pick (is_name (key_at s at)) _ _
          (λ t. let k = key_at s at in
          let h : take (entries (begun (length gs) fs) q) (key_at s at) ≡ took (token word.slash_key (digit (entries true q))) = rw t in
          judged_pick (is_declared (key_at s at) rs || is_declared (key_at s at) fs) _ _
          (λ u. redeclared_judged s A h t (again _ _ _ _ I t (inl (declared (or_case (is_declared (key_at s at) rs) (is_declared (key_at s at) fs) u)))))
          λ u. let (x, y) = or_false (is_declared (key_at s at) rs) (is_declared (key_at s at) fs) u in
          let l = name_real (key_at s at) t in
          let B = advance s A (token word.slash_key (digit (entries true q))) l h
          (none_here s A h l (fresh _ _ _ _ I (unknown_among (key_at s at) rs x) (unknown_among (key_at s at) fs y) (omega arith))
          (not_misused λ _ _ _ _ J. apart _ _ _ _ _ _ _ I J) (λ D. not_name (key_at s at) word.lbrace_key refl t D.brace)
          λ N. not_name (key_at s at) word.tests_key refl t N.begins) in
          judged_on (arity_of s (token_at s at).end) _ (arity_judged (entries true q) B) λ m e _ (C, w, c).
          entries_judged room (fs ++ k ∷ []) (ns ++ m ∷ []) (suc (suc (suc i))) e (let z = length-append fs (key_at s at ∷ []) in omega arith)
          (subst (λ f. At s (suc (suc (suc i))) e (entries f q)) (one_more fs k I.within) C)
          (line_more fs ns k m I t w
          (c ∙ ap (λ l. l ++ word.slash_key ∷ (48 + m) ∷ []) (before_next s A))))
          λ t. entries_ended fs ns i at A I t
        where
          declared : (is_declared (key_at s at) rs ≡ true) ⊎ (is_declared (key_at s at) fs ≡ true) → Among (key_at s at) rs ⊎ Among (key_at s at) fs
          declared (inl u) = inl (known_among (key_at s at) rs u)
          declared (inr u) = inr (known_among (key_at s at) fs u)

          one_more : (fs : List ℕ) (k : ℕ) → length gs ≤ length fs → true ≡ begun (length gs) (fs ++ k ∷ [])
          one_more fs k w = rw (ne_eqb (length (fs ++ k ∷ []) - length gs) 0 λ z. omega (arith, length-append fs (k ∷ [])))

          line_more : {before after : List ℕ} (fs ns : List ℕ) (k m : ℕ) → InLine gs ms begins before fs ns → is_name k ≡ true → (m ≡ 1) ⊎ (m ≡ 2)
              → after ≡ (before ++ k ∷ []) ++ word.slash_key ∷ (48 + m) ∷ [] → InLine gs ms begins after (fs ++ k ∷ []) (ns ++ m ∷ [])
          line_more {before} fs ns k m I t w h =
              let n = length gs in
              let L = line_tokens word.funs_key gs ms in
              let E = entry_tokens (drop n fs) (drop n ns) in
              let X = k ∷ word.slash_key ∷ (48 + m) ∷ [] in
              let c = arities_length I.arities in
              record {
                functions = names_more fs k I.functions t;
                arities = arities_more fs ns k m I.arities w;
                within = let z = length-append fs (k ∷ []) in let y = I.within in omega arith;
                first_functions = take-append-le n fs (k ∷ []) I.within ∙ I.first_functions;
                first_arities = take-append-le n ns (m ∷ []) (let y = I.within in omega arith) ∙ I.first_arities;
                split = h ∙ append_assoc before (k ∷ []) (word.slash_key ∷ (48 + m) ∷ []) ∙ ap (λ l. l ++ X) I.split
                    ∙ ap (λ l. word.vars_key ∷ l) (append_assoc rs (word.semicolon_key ∷ (L ++ begins ∷ E)) X
                    ∙ ap (λ l. rs ++ word.semicolon_key ∷ l) (append_assoc L (begins ∷ E) X
                    ∙ ap (λ l. L ++ begins ∷ l) (sym (entries_more (drop n fs) (drop n ns) k m (arities_drop n I.arities))
                    ∙ sym λ i. entry_tokens (drop-append-le n fs (k ∷ []) I.within i)
                    (drop-append-le n ns (m ∷ []) (let y = I.within in omega arith) i))));
              }

    -- ---- the line of functions

    functions_in : {before fs ns : List ℕ} → AllNames rs → InLine [] [] word.funs_key before fs ns → InFunctions before rs fs ns
    unfolding line_tokens
    functions_in R I = record { registers = R; functions = I.functions; arities = I.arities; split = I.split }

    pub fresh_function : {before fs ns : List ℕ} {k : ℕ} → InFunctions before rs fs ns → (Among k rs → ⊥) → (Among k fs → ⊥) → length fs < most_functions
        → Redeclared before k → ⊥
    fresh_function I a b l (Redeclared.register J t x) = registers_functions J I
    fresh_function {k = k} I a b l (Redeclared.function J t (inl (inl x))) = a (subst (Among k) (sym (functions_same I J).0) x)
    fresh_function {k = k} I a b l (Redeclared.function J t (inl (inr x))) = b (subst (Among k) (sym (functions_same I J).1) x)
    fresh_function {fs = fs} I a b l (Redeclared.function {fs = gs} J t (inr x)) = let e : length fs ≡ length gs = ap length (functions_same I J).1 in
        omega arith
    fresh_function I a b l (Redeclared.test J t x) = functions_tests I J

    -- the line of functions is whole, or there is none
    abbrev pub FunctionsRead : List ℕ × List ℕ → ℕ → Type 0
    FunctionsRead r e = (j : ℕ) × (b : Rest) × At s j e b × (take b (key_at s e) ≡ take last_line (key_at s e)) × (take b word.rbrace_key ≡ stuck)
        × (complete b ≡ true) × AllNames r.0 × Arities r.0 r.1 × Behind (tokens_before s j) word.semicolon_key
        × (tokens_before s j ≡ word.vars_key ∷ (rs ++ word.semicolon_key ∷ line_tokens word.funs_key r.0 r.1))

    pub functions_judged : (i at : ℕ) → At s i at line → AllNames rs → tokens_before s i ≡ word.vars_key ∷ (rs ++ word.semicolon_key ∷ [])
        → JudgedReading s (List ℕ × List ℕ) FunctionsRead (functions_t s rs at (token_at s at))
    unfolding line_tokens entry_tokens
    functions_judged i at A R b =
        judged_pick (eqb (key_at s at) word.funs_key) _ _
        (λ t. let (B, c) = next_on A word.funs_key (entries false last_line) (eqb-true (key_at s at) word.funs_key t) refl refl in
        judged_map
        (entries_judged [] [] word.funs_key last_line (λ _ _ _ _ I t x. Redeclared.function (functions_in R I) t x)
        (λ _ _ _ _ I. fresh_function (functions_in R I)) (λ _ _ _ _ _ _ _ I J. functions_statements (functions_in R I) J) most_functions [] []
        (suc i) (token_at s at).end refl B
        (record {
          functions = λ j l. absurd (omega arith);
          arities = Arities.none;
          within = omega arith;
          first_functions = refl;
          first_arities = refl;
          split = c ∙ ap (λ l. l ++ word.funs_key ∷ []) b
              ∙ ap (λ l. word.vars_key ∷ l) (append_assoc rs (word.semicolon_key ∷ []) (word.funs_key ∷ []));
        }))
        λ r e (j, C, N, Y, w, p, q, D, h). (j, last_line, C, refl, refl, refl, N, Y, D, h))
        λ t. fine (i, line, A, rw t, refl, refl, (λ j l. absurd (omega arith)), Arities.none, (word.vars_key ∷ rs, b), b)

    -- ---- the line of tests

    tests_in : {before gs ms fs ns : List ℕ} → AllNames rs → InLine gs ms word.tests_key before fs ns → InTests before rs fs ns (length gs)
    tests_in {gs = gs} {ms} {fs} {ns} R I =
        let E = entry_tokens (drop (length gs) fs) (drop (length gs) ns) in
        record {
          registers = R;
          functions = I.functions;
          arities = I.arities;
          within = I.within;
          split = I.split ∙ sym λ i. word.vars_key ∷ (rs ++ word.semicolon_key ∷ (line_tokens word.funs_key (I.first_functions i) (I.first_arities i)
              ++ word.tests_key ∷ E));
        }

    pub fresh_test : {before fs ns : List ℕ} {t k : ℕ} → InTests before rs fs ns t → (Among k rs → ⊥) → (Among k fs → ⊥) → length fs < most_functions
        → Redeclared before k → ⊥
    fresh_test I a b l (Redeclared.register J t x) = registers_tests J I
    fresh_test I a b l (Redeclared.function J t x) = functions_tests J I
    fresh_test {k = k} I a b l (Redeclared.test J t (inl (inl x))) = a (subst (Among k) (sym (tests_same I J).0) x)
    fresh_test {k = k} I a b l (Redeclared.test J t (inl (inr x))) = b (subst (Among k) (sym (tests_same I J).1) x)
    fresh_test {fs = fs} I a b l (Redeclared.test {fs = gs} J t (inr x)) = let e : length fs ≡ length gs = ap length (tests_same I J).1 in omega arith

    -- both lines are whole, with the tests from number t on
    abbrev pub WholeLines : ℕ → List ℕ × List ℕ → ℕ → Type 0
    WholeLines t r e = (j : ℕ) × (b : Rest) × At s j e b × Stands outermost b (key_at s e) × AllNames r.0 × Arities r.0 r.1 × (t ≤ length r.0)
        × Behind (tokens_before s j) word.semicolon_key × (tokens_before s j ≡ word.vars_key ∷ (rs ++ word.semicolon_key ∷ declaration_tokens r.0 r.1 t))

    without_tests : (fs ns : List ℕ) → Arities fs ns → line_tokens word.funs_key fs ns ≡ declaration_tokens fs ns (length fs)
    unfolding line_tokens
    without_tests fs ns a =
        let e : list.take (length fs) ns ≡ ns = ap (λ n. list.take n ns) (sym (arities_length a)) ∙ take-length ns in
        rw (take-length fs, drop-length fs, e) (sym (append-nil (line_tokens word.funs_key fs ns)))

    -- there is room for tests
    room : (i : ℕ) {k : ℕ} (ys : List ℕ) → AllNames rs → tokens_before s i ≡ word.vars_key ∷ (rs ++ word.semicolon_key ∷ ys)
        → ltb most_registers (length rs + hidden_registers) ≡ false → NoRoom (tokens_before s i) k → ⊥
    room i ys R b u N =
        let e : length N.registers ≡ length rs = ap length (room_same rs ys R b N) in
        let m = N.many in
        let l = ltb-false most_registers (length rs + hidden_registers) u in
        omega arith

    pub tests_judged : (fs ns : List ℕ) (at : ℕ) → AllNames rs → length fs ≤ most_functions → FunctionsRead (fs, ns) at
        → JudgedReading s (List ℕ × List ℕ) (WholeLines (length fs)) (tests_t s rs fs ns at (token_at s at))
    unfolding entry_tokens
    tests_judged fs ns at R f (i, b, A, h, c, d, N, Y, B, p) =
        judged_pick (eqb (key_at s at) word.tests_key) _ _
        (λ t. let k = eqb-true (key_at s at) word.tests_key t in
        let g : take b (key_at s at) ≡ took (entries false (outside false)) = h ∙ ap (λ k. take last_line k) k in
        judged_pick (ltb most_registers (length rs + hidden_registers)) _ _
        (λ u. no_room_judged s A g (record {
          registers = rs;
          names = R;
          further = line_tokens word.funs_key fs ns;
          split = p;
          begins = k;
          many = ltb-true most_registers (length rs + hidden_registers) u;
        }))
        λ u. let l : 2 ≤ key_at s at = subst (λ k. 2 ≤ k) (sym k) (omega arith) in
        let C = advance s A (entries false (outside false)) l g
        (none_here s A g l (unnamed_redeclared (key_at s at) (ap is_name k))
        (unnamed_misused (key_at s at) (ap is_name k) (ap (λ k. eqb k word.comma_key) k) (ap (λ k. eqb k word.rparen_key) k))
        (λ D. let z : word.tests_key ≡ word.lbrace_key = sym k ∙ D.brace in omega arith) (room i (line_tokens word.funs_key fs ns) R p u)) in
        judged_map
        (entries_judged fs ns word.tests_key (outside false) (λ _ _ _ _ I t x. Redeclared.test (tests_in R I) t x)
        (λ _ _ _ _ I. fresh_test (tests_in R I)) (λ _ _ _ _ _ _ _ I J. tests_statements (tests_in R I) J) (most_functions - length fs) fs ns (suc i)
        (token_at s at).end (omega arith) (subst (λ e. At s (suc i) (token_at s at).end (entries e (outside false))) (none_begun fs) C)
        (record {
          functions = N;
          arities = Y;
          within = omega arith;
          first_functions = take-length fs;
          first_arities = ap (λ n. list.take n ns) (sym (arities_length Y)) ∙ take-length ns;
          split = before_next s A ∙ (λ i. p i ++ k i ∷ []) ∙ regroup fs ns Y;
        }))
        λ r e (j, D, M, X, w, x, y, E, q). (
          j,
          outside false,
          D,
          stands outermost false (key_at s e) (and_false (eqb (key_at s e) word.else_key)),
          M,
          X,
          w,
          E,
          q ∙ sym λ i. word.vars_key ∷ (rs ++ word.semicolon_key ∷ (line_tokens word.funs_key (x i) (y i)
              ++ line_tokens word.tests_key (drop (length fs) r.0) (drop (length fs) r.1))),
        ))
        λ t. fine (
          i,
          b,
          A,
          record { opens = λ _. h ∙ rw t; shuts = c; ends = d },
          N,
          Y,
          omega arith,
          B,
          p ∙ ap (λ l. word.vars_key ∷ (rs ++ word.semicolon_key ∷ l)) (without_tests fs ns Y),
        )
      where
        none_begun : (fs : List ℕ) → false ≡ begun (length fs) fs
        none_begun fs = let e : length fs - length fs ≡ 0 = omega arith in rw e

        regroup : (fs ns : List ℕ) → Arities fs ns
            → word.vars_key ∷ (rs ++ word.semicolon_key ∷ line_tokens word.funs_key fs ns) ++ word.tests_key ∷ []
            ≡ word.vars_key ∷ (rs ++ word.semicolon_key ∷ (line_tokens word.funs_key fs ns ++ word.tests_key
            ∷ entry_tokens (drop (length fs) fs) (drop (length fs) ns)))
        regroup fs ns a =
            ap (λ l. word.vars_key ∷ l) (append_assoc rs (word.semicolon_key ∷ line_tokens word.funs_key fs ns) (word.tests_key ∷ []))
            ∙ ap (λ l. word.vars_key ∷ (rs ++ word.semicolon_key ∷ (line_tokens word.funs_key fs ns ++ word.tests_key ∷ l)))
            (ap (λ l. entry_tokens l (drop (length fs) ns)) (sym (drop-length fs)))

-- ---- no braces in the lines

count_append : (j : ℕ) (xs ys : List ℕ) → occurrences j (xs ++ ys) ≡ occurrences j xs + occurrences j ys
count_append j [] ys = omega arith
count_append j (x ∷ xs) ys = omega (arith, count_append j xs ys)

module _ (j : ℕ) (n : is_name j ≡ false)
    (c : occurrences j (word.vars_key ∷ word.funs_key ∷ word.tests_key ∷ word.semicolon_key ∷ word.slash_key ∷ word.one_key ∷ word.two_key ∷ []) ≡ 0) where
  count_names : (ks : List ℕ) → AllNames ks → occurrences j ks ≡ 0
  count_names [] h = refl
  count_names (k ∷ ks) h = let x = count_names ks (λ i l. h (suc i) (omega arith)) in rw (not_word k j n (h 0 (omega arith))) (omega arith)

  count_entries : (fs ns : List ℕ) → Arities fs ns → AllNames fs → occurrences j (entry_tokens fs ns) ≡ 0
  unfolding entry_tokens
  count_entries fs ns Arities.none h = refl
  count_entries fs ns (Arities.one {f} {fs = gs} {ns = ms} a) h = let x = count_entries gs ms a (λ i l. h (suc i) (omega arith)) in
      rw (not_word f j n (h 0 (omega arith))) (omega arith)
  count_entries fs ns (Arities.two {f} {fs = gs} {ns = ms} a) h = let x = count_entries gs ms a (λ i l. h (suc i) (omega arith)) in
      rw (not_word f j n (h 0 (omega arith))) (omega arith)

  count_line : (k : ℕ) (fs ns : List ℕ) → occurrences j (k ∷ []) ≡ 0 → Arities fs ns → AllNames fs → occurrences j (line_tokens k fs ns) ≡ 0
  unfolding line_tokens
  count_line k [] ns e a h = refl
  count_line k (f ∷ fs) ns e a h =
      let x = count_entries (f ∷ fs) ns a h in
      let y = count_append j (entry_tokens (f ∷ fs) ns) (word.semicolon_key ∷ []) in
      omega arith

  pub count_lines : (rs fs ns : List ℕ) (t : ℕ) → AllNames rs → Arities fs ns → AllNames fs → t ≤ length fs
      → occurrences j (word.vars_key ∷ (rs ++ word.semicolon_key ∷ declaration_tokens fs ns t)) ≡ 0
  count_lines rs fs ns t r a h w =
      let x = count_names rs r in
      let y = count_append j rs (word.semicolon_key ∷ declaration_tokens fs ns t) in
      let z = count_append j (line_tokens word.funs_key (list.take t fs) (list.take t ns)) (line_tokens word.tests_key (drop t fs) (drop t ns)) in
      let u = count_line word.funs_key (list.take t fs) (list.take t ns) (omega arith) (arities_take t a) (names_take t fs w h) in
      let v = count_line word.tests_key (drop t fs) (drop t ns) (omega arith) (arities_drop t a) (names_drop t fs w h) in
      omega arith
