-- The whole text, judged.
use mathlib.Core.Path.{◌≡◌, refl, sym, ap, subst, ◌∙◌}
use Prim.Native.Nat.{ℕ, suc, ◌+◌, ◌*◌, ◌≤◌}
use native.Mathlib.Omega.{arith}
use mathlib.Core.Bool.{Bool, true, false, ◌||◌}
use mathlib.Core.List.{List, [], ◌∷◌, ◌++◌, append-nil}
use lib.Dec.{eqb, ltb}
use lib.ListN.{length}
use borrow.Author.Tests.{eqb-true, eqb-false, ltb-true, ltb-false, le-ltb}
use Rattle.base.proofs.Theory.Choice.{by_test}
use Rattle.grammar.specs.Limits.{deepest_nesting}
use Rattle.letters.specs.Editions.{most_registers}
use Rattle.tokens.specs.Tokens.{token_at}
use Rattle.tokens.specs.Words.{is_name}
use Rattle.tokens.specs.Words as word
use Rattle.grammar.specs.Grammar.{Macro, declaration_tokens}
use Rattle.grammar.specs.Reading.{expect, register_names, functions_t, tests_t, block}
use Rattle.grammar.proofs.Theory.Reading.{read_text}
use Rattle.grammar.proofs.Theory.Whole.{functions_line, tests_line}
use Rattle.refusals.proofs.Theory.Basics.{clash}
use Rattle.refusals.proofs.Theory.Rests.{Rest, names, start, run, take, complete, run_sentence}
use Rattle.refusals.specs.Questions.{AllNames, Unfit, occurrences}
use Rattle.refusals.specs.FirstNo.{tokens_before, NoAt}
use Rattle.refusals.proofs.Theory.FirstNo.{AllYes}
use Rattle.refusals.proofs.Theory.Judged.{JudgedReading, fine, judged_on, judged_pick, lower, key_at, At, here, unfit_judged}
use Rattle.refusals.proofs.Theory.Judged.{unnamed_redeclared, unnamed_misused}
use Rattle.refusals.proofs.Theory.Phrases.{In}
use Rattle.refusals.proofs.Theory.Statements.{outermost, block_judged}
use Rattle.refusals.proofs.Theory.Lines.{expect_judged, registers_judged, functions_judged, WholeLines, tests_judged, count_lines}

module _ (s : List ℕ) where
  begin_at : At s 0 0 start
  unfolding run
  begin_at = record { place = refl; leaves = refl; none_before = λ m j l. absurd (omega arith); reached = λ j l. absurd (omega arith) }

  -- at the end of a sentence there is no no
  module _ {i at : ℕ} {r : Rest} (A : At s i at r) (z : key_at s at ≡ 0) (c : complete r ≡ true) where
    end_fits : Unfit (tokens_before s i) (key_at s at) → ⊥
    end_fits (Unfit.early e n) = n (run_sentence (tokens_before s i) r A.leaves c)
    end_fits (Unfit.misplaced e n) = e z

    none_at_end : AllYes s
    none_at_end m j reached n =
        by_test (ltb j i) (λ t. A.none_before m j (ltb-true j i t) n)
        λ t. by_test (ltb i j) (λ u. reached i (ltb-true i j u) (ap (λ p. (token_at s p).key) A.place ∙ z))
        λ u. lower (suc m) m (omega arith) (λ _ e. omega arith) (λ _. end_fits) (λ _. unnamed_redeclared (key_at s at) (ap is_name z))
        (λ _. unnamed_misused (key_at s at) (ap is_name z) (ap (λ k. eqb k word.comma_key) z) (ap (λ k. eqb k word.rparen_key) z))
        (λ _ D. let e = D.brace in omega arith) (λ _ N. let e = N.begins in omega arith)
        (here s m A (subst (NoAt s m) (same j i t u) n))
      where
        same : (j i : ℕ) → ltb j i ≡ false → ltb i j ≡ false → j ≡ i
        same j i t u = let x = ltb-false j i t in let y = ltb-false i j u in omega arith

  -- behind the lines, the statements
  lines_in : (rs fs ns : List ℕ) (t e : ℕ) → AllNames rs → (L : WholeLines s rs t (fs, ns) e)
      → In s rs fs ns t L.0 deepest_nesting e word.semicolon_key L.1
  lines_in rs fs ns t e R (j, b, A, S, N, Y, w, B, h) =
      record {
        standing = A;
        part = record {
          registers = R;
          functions = N;
          arities = Y;
          within = w;
          body = [];
          split = h ∙ ap (λ l. word.vars_key ∷ (rs ++ word.semicolon_key ∷ l)) (sym (append-nil (declaration_tokens fs ns t)));
          functions_begun = λ z. omega arith;
          tests_begun = λ z. omega arith;
        };
        behind = B;
        depth = let x = ap (λ l. occurrences word.lbrace_key l) h ∙ count_lines word.lbrace_key refl refl rs fs ns t R Y N w in
            let y = ap (λ l. occurrences word.rbrace_key l) h ∙ count_lines word.rbrace_key refl refl rs fs ns t R Y N w in omega arith;
      }

  pub text_judged : length s ≤ 4096 → JudgedReading s Macro (λ m e. AllYes s) (read_text s)
  unfolding read_text
  text_judged l =
      rw (le-ltb 4096 (length s) l)
      (judged_on (expect s word.vars_key 0) _ (expect_judged s word.vars_key (names false) begin_at refl refl) λ _ a _ (A, h).
      judged_on (register_names s most_registers [] a) _
      (registers_judged s most_registers [] 1 a refl A (record { registers = λ j l. absurd (omega arith); split = h })) λ rs b _ (i, B, R, g).
      judged_on (functions_t s rs b (token_at s b)) _ (functions_judged s rs i b B R g) λ f c eq K.
      let (D, P, Y, n, p) = functions_line s rs b f c eq in
      judged_on (tests_t s rs f.0 f.1 c (token_at s c)) _ (tests_judged s rs f.0 f.1 c R n K) λ r d eq L.
      let (ks, ls, u, v, (E, Q, X, o), w, x) = tests_line s rs f.0 f.1 c r d (D, P, Y, n) eq in
      judged_on (block s rs r.0 r.1 (length f.0) (2 * length s + 1) deepest_nesting d) _
      (block_judged s rs r.0 r.1 (length f.0) E X (2 * length s + 1) outermost deepest_nesting d L.0 word.semicolon_key L.1
      (lines_in rs r.0 r.1 (length f.0) d R L) refl L.3) λ body e _ (j, y, q, m, o, w, t, I).
      judged_pick (eqb (key_at s e) 0) _ _ (λ u. fine (none_at_end I.standing (eqb-true (key_at s e) 0 u) w))
      λ u. unfit_judged s I.standing
      (record {
        end = λ z. absurd (eqb-false (key_at s e) 0 u z);
        token =
            λ _. ap (λ k. take q k) (eqb-true (key_at s e) word.rbrace_key (only (eqb (key_at s e) word.rbrace_key) (eqb (key_at s e) 0) u t)) ∙ o;
      }))
    where
      only : (a b : Bool) → b ≡ false → a || b ≡ true → a ≡ true
      only true b h g = refl
      only false b h g = absurd (clash g h)
