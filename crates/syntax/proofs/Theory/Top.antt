-- What follows from the definitions of specs/Top.antt.
use mathlib.Core.Path.{◌≡◌, refl, sym, ap, subst, ◌∙◌}
use Prim.Native.Nat.{ℕ, zero, suc, ◌+◌, ◌*◌, ◌-◌, ◌≤◌, ◌<◌}
use native.Mathlib.Omega.{arith}
use native.Mathlib.Nat.{zero-add}
use mathlib.Core.List.{List, [], ◌∷◌, ◌++◌, map, append-nil}
use lib.Dec.{leb}
use lib.ListN.{length, take, replicate}
use borrow.Author.Tests.{eq-eqb, ne_eqb, le-ltb, lt-ltb, leb-true, leb-false}
use Rattle.base.proofs.Theory.Choice.{by_test}
use Rattle.base.specs.Each.{each}
use Rattle.letters.specs.Editions.{most_registers, most_functions}
use Rattle.letters.specs.MacroRefusalNumbers.{text_too_long, points_too_many}
use Rattle.grammar.specs.Limits.{longest_text, most_points, deepest_nesting}
use Rattle.blocks.specs.Held.{unknown}
use Rattle.letters.specs.declared.Header.{Header}
use Rattle.macros.specs.Points.{points, size_block}
use Rattle.tokens.specs.declared.Token.{Token}
use Rattle.tokens.specs.Tokens.{token_at}
use Rattle.tokens.specs.Words as word
use Rattle.grammar.specs.Tree.{Block}
use Rattle.grammar.specs.Expanded.{expanded_block}
use Rattle.grammar.specs.Grammar.{binary_of, header_of, expanded}
use Rattle.grammar.specs.Reading.{Got, got, exhausted, and_then, expect, register_names, functions_t, tests_t, block}
use Rattle.grammar.proofs.Theory.Reading.{read_text, read_macro}
use Rattle.grammar.proofs.Theory.Declarations.{registers_sound}
use Rattle.grammar.proofs.Theory.Whole.{none_declared}
use Rattle.std.proofs.Common.{Result, Ok, Err}
use Rattle.std.specs.Result.{IsErr, IsErrAnd}
use Rattle.letters.specs.declared.reasons.Refused.{Refused}
use Rattle.phrases.specs.Codes.{refused_as, unfit, read_as, without_value, Few}
use Rattle.phrases.proofs.Theory.Answers.{passed_on, place_on}
use Rattle.blocks.specs.Held.{point_table, points_over, held_point, Progress, progress, outcome, HoldsPoints, redirected, within}
use Rattle.blocks.specs.Outcome.{ReadAs, block_code, BlockRead}
use Rattle.blocks.proofs.Theory.OutcomeLaws.{on, outcome_fine}
use Rattle.blocks.proofs.Theory.TableLaws.{over_range, over_table}
use Rattle.blocks.proofs.Theory.Redirect.{block_length, redirect_block}
use Rattle.blocks.proofs.Theory.CycleLaws.{exit}
use Rattle.blocks.specs.declared.PointEntry.{PointEntry}
use Rattle.blocks.specs.declared.points.Points.{Points}
use Rattle.syntax.specs.Answer.{padded, held_macro, held_answer, held_registers, held_functions, end_from, body_from, tests_from, functions_from}
use Rattle.syntax.specs.Answer.{registers_from}
use Rattle.syntax.proofs.Theory.Answer.{steps}
use Rattle.syntax.specs.Lists.{NamesPadded}
use Rattle.syntax.proofs.Theory.Lists.{kept_list, functions_size, tests_size}
use Rattle.syntax.proofs.Theory.Hidden.{hidden_length}
use Rattle.syntax.specs.declared.CompiledMacro.{CompiledMacro}
use Rattle.syntax.specs.declared.Registers.{Registers}
use Rattle.syntax.specs.declared.Functions.{Functions}
use Rattle.syntax.specs.Top.{RegistersPadded, FunctionsPadded, padded_registers, padded_functions, macro_of, empty_table, BlockEnded, Finishes}
use Rattle.syntax.specs.Top.{hidden_count, RoomForHidden, arity_flag, headed}

-- the lists that the arrays hold
abbrev pub list_of : Registers → List ℕ
list_of rs = take rs.count rs.names

-- where reading the statements begins
abbrev pub start_with : ℕ → Progress
start_with at = on at 0 empty_table

binary_padded : (ns : List ℕ) (k : ℕ) → binary_of (ns ++ replicate k 0) ≡ binary_of ns
binary_padded [] zero = refl
binary_padded [] (suc k) = let e = binary_padded [] k in omega arith
binary_padded (n ∷ ns) k = ap (λ m. arity_flag n + 2 * m) (binary_padded ns k)

-- the macro that was read
abbrev compiled : List ℕ → List ℕ → Header → List PointEntry → ℕ → CompiledMacro
compiled registers functions h ps n = record {
  header = h;
  registers = registers;
  functions = functions;
  points = ps;
  count = n;
}

-- the points of the whole macro, with the end for what follows
turned_whole : (n : ℕ) (b : Block) → size_block (expanded_block n b) ≤ most_points
    → map (redirected (size_block (expanded_block n b))) (block_code n b 0) ≡ map held_point (points (expanded_block n b))
unfolding block_code
turned_whole n b l = redirect_block (size_block (expanded_block n b)) unknown (expanded_block n b) 0 (omega arith)

module _ (s : List ℕ) (rs : Registers) (fs : Functions) (m : ℕ) (body : Progress) (t : Token) (e : t ≡ token_at s body.at) where
  -- the points of a block
  abbrev Size : Block → ℕ
  Size b = size_block (expanded_block rs.count b)

  pub finish_unfit : (t.key ≡ 0 → ⊥) → {u : Refused} → u ≡ unfit t → Finishes s rs fs m body (Err u)
  unfolding Finishes
  finish_unfit h i b E = rw (← e, ne_eqb t.key 0 h) (ap Err i)

  module _ (R : NamesPadded most_registers rs.names rs.count) (z : t.key ≡ 0) where
    -- the points that are counted are those behind the registers that were read
    counted : (b : Block) → size_block (expanded (macro_of s rs fs m b)) ≡ Size b
    counted b = ap (λ n. size_block (expanded_block n b)) R.size

    pub finish_long : most_points < body.count → {u : Refused} → u ≡ refused_as points_too_many 0 → Finishes s rs fs m body (Err u)
    unfolding Finishes
    finish_long h g b E =
        let l : most_points < Size b = by_test (leb (Size b) most_points)
        (λ u.
        let v = leb-true (Size b) most_points u in
        let H = E.low v in
        let c = H.count in
        let m = block_length rs.count b 0 in absurd (omega arith))
        (λ u. leb-false (Size b) most_points u) in
        rw (← e, eq-eqb t.key 0 z, counted b, lt-ltb most_points (Size b) l) (ap Err g)

    pub finish_read : NamesPadded most_functions fs.names fs.count × NamesPadded most_functions fs.arities fs.count
        → body.count ≤ most_points
        → (head : Header) → head ≡ headed rs fs m
        → (ps : List PointEntry) → ((b : Block) → Size b ≤ most_points → HoldsPoints empty_table body (block_code rs.count b 0)
        → ps ≡ point_table (map held_point (points (expanded_block rs.count b))))
        → (registers functions : List ℕ) → registers ≡ padded_registers s rs.count m fs.count → functions ≡ padded_functions s rs.count m fs.count
        → Finishes s rs fs m body (Ok (compiled registers functions head ps body.count))
    unfolding Finishes held_macro
    finish_read (F, A) h head i ps p registers functions x y b E =
        let l : Size b ≤ most_points = by_test (leb (Size b) most_points) (λ u. leb-true (Size b) most_points u)
        (λ u. let c = E.high (leb-false (Size b) most_points u) in absurd (omega arith)) in
        let H = E.low l in
        let n : body.count ≡ size_block (expanded (macro_of s rs fs m b)) = H.count ∙ block_length rs.count b 0 ∙ sym (counted b) in
        let arities = take fs.count fs.arities in
        let binary : binary_of fs.arities ≡ binary_of arities = ap binary_of A.pad ∙ binary_padded arities (most_functions - length arities) in
        let all : rs.count + hidden_count m fs.count ≡ (header_of (macro_of s rs fs m b)).registers =
        (λ j. sym R.size j + hidden_count m (sym F.size j))
        ∙ sym (hidden_length (take rs.count rs.names) m (length (take fs.count fs.names))) in
        rw (← e, eq-eqb t.key 0 z, counted b, le-ltb most_points (Size b) l)
        λ j. Ok (record {
          header = (i ∙ λ j. record { registers = all j; functions = sym F.size j; binary = binary j }) j;
          registers = (x ∙ λ j. padded_registers s (sym R.size j) m (sym F.size j)) j;
          functions = (y ∙ λ j. padded_functions s (sym R.size j) m (sym F.size j)) j;
          points = (p b l H ∙ ap (λ n. point_table (map held_point (points (expanded_block n b)))) (sym R.size)) j;
          count = n j;
        })

-- the points of a macro that was read, once the end is put for what follows
pub points_whole : (at n : ℕ) (ps qs : List PointEntry) → qs ≡ each (within 0 n n) ps → (registers : ℕ) (b : Block)
    → size_block (expanded_block registers b) ≤ most_points → HoldsPoints empty_table (on at n ps) (block_code registers b 0)
    → qs ≡ point_table (map held_point (points (expanded_block registers b)))
points_whole at n ps qs e registers b l H =
    let held = block_code registers b 0 in
    let ts = map (redirected n) held in
    e
    ∙ ap (each (within 0 n n)) (H.points ∙ ap (points_over empty_table) (sym (append-nil held)))
    ∙ over_range empty_table [] held [] 0 n n refl (zero-add (length held) ∙ sym H.count)
    ∙ ap (points_over empty_table) (append-nil ts)
    ∙ over_table ts
    ∙ ap (λ k. point_table (map (redirected k) held)) (H.count ∙ block_length registers b 0)
    ∙ ap point_table (turned_whole registers b l)

-- ---- behind the declarations

module _ (s : List ℕ) (rs : Registers) (fs : Functions) (m : ℕ) (ps : Points) (S : ps.entries ≡ empty_table) (Z : ps.count ≡ 0)
    (R : NamesPadded most_registers rs.names rs.count)
    (q : Points) (x : Result ℕ Refused)
    (B : BlockRead s (list_of rs) (take fs.count fs.names) (take fs.count fs.arities) m deepest_nesting (progress fs.at ps) (outcome x q)) where
  abbrev body : Progress
  body = outcome x q

  abbrev Body : Got Block
  Body = block s (list_of rs) (take fs.count fs.names) (take fs.count fs.arities) m (2 * length s + 1) deepest_nesting fs.at

  abbrev Code : Block → ℕ → List PointEntry
  Code = block_code rs.count

  read_so : ReadAs Code (start_with fs.at) body Body
  read_so = subst (λ n. ReadAs (block_code n) (start_with fs.at) body Body) R.size
      (subst (λ k. ReadAs (block_code (length (list_of rs))) (start_with fs.at) body (called k)) (one_more (2 * length s))
      (begun.outcome (2 * length s) (omega arith)))
    where
      called : ℕ → Got Block
      called k = block s (list_of rs) (take fs.count fs.names) (take fs.count fs.arities) m k deepest_nesting fs.at

      one_more : (n : ℕ) → suc n ≡ n + 1
      one_more n = omega arith

      begun_so : progress fs.at ps ≡ start_with fs.at
      begun_so = λ i. on fs.at (Z i) (S i)

      begun : BlockRead s (list_of rs) (take fs.count fs.names) (take fs.count fs.arities) m deepest_nesting (start_with fs.at) body
      begun = subst (λ st. BlockRead s (list_of rs) (take fs.count fs.names) (take fs.count fs.arities) m deepest_nesting st body)
          begun_so B

  pub body_refused : {e : Refused} → x ≡ Err e → {w : Result CompiledMacro Refused} → IsErr w × IsErrAnd w (λ d. d ≡ e)
      → w ≡ held_answer (body_from s (list_of rs) (take fs.count fs.names) (take fs.count fs.arities) m fs.at)
  unfolding body_from
  body_refused {e} h {w} o = exit h o ∙ go Body (subst (λ x. ReadAs Code (start_with fs.at) (outcome x q) Body) h read_so)
    where
      go : (g : Got Block) → ReadAs Code (start_with fs.at) (outcome (Err e) q) g
          → Err e ≡ held_answer (and_then g λ b e. end_from s (macro_of s rs fs m b) e)
      go (got b a) o = let k = o.ok in let z : ◌≡◌ {A = ℕ} 0 1 = cc in absurd (omega arith)
      go (Got.refused n p) o = let k = o.refusal in let z : e ≡ refused_as n p = cc in ap Err z
      go exhausted o = absurd o

  pub body_read : {a : ℕ} → x ≡ Ok a → {r : Result CompiledMacro Refused} → Finishes s rs fs m (progress a q) r
      → r ≡ held_answer (body_from s (list_of rs) (take fs.count fs.names) (take fs.count fs.arities) m fs.at)
  unfolding body_from Finishes
  body_read {a} h g =
      let (b, e, w, F) = outcome_fine Code (start_with fs.at) (progress a q) Body
      (subst (λ x. ReadAs Code (start_with fs.at) (outcome x q) Body) h read_so) refl in
      let n = block_length rs.count b 0 in
      let begun : HoldsPoints empty_table (start_with fs.at) [] = record { size = refl; count = refl; points = refl } in
      let E : BlockEnded rs.count (progress a q) b = record { low = λ l. F.laid empty_table [] begun (omega arith); high = λ l. F.high (omega arith) } in
      g b E ∙ ap (λ e. held_answer (end_from s (macro_of s rs fs m b) e)) F.at
      ∙ ap (λ x. held_answer (and_then x λ b e. end_from s (macro_of s rs fs m b) e)) (sym w)

pub few : (rs : Registers) (fs : Functions) (m : ℕ) → RegistersPadded rs → FunctionsPadded fs → m ≤ fs.count
    → Few (list_of rs) (take fs.count fs.names) (take fs.count fs.arities) m
few rs fs m R (F, A) l = record {
  registers = let a = R.size in let b = R.few in omega arith;
  functions = let a = F.size in let b = F.few in
      omega arith;
  arities = A.size ∙ sym F.size;
  below = let a = F.size in omega arith;
}

-- ---- a line of functions or tests that was read

-- What a struct holds that holds a line.
record LineHeld (fs : Functions) (r : List ℕ × List ℕ) (c : ℕ) : Type 0 where
  at : fs.at ≡ c
  names : take fs.count fs.names ≡ r.0
  arities : take fs.count fs.arities ≡ r.1
  padded_so : FunctionsPadded fs
  size : fs.count ≡ length r.0

line_held : (fs : Functions) (r : List ℕ × List ℕ) (c : ℕ) → length r.0 ≤ most_functions → length r.1 ≡ length r.0 → fs ≡ held_functions r c
    → LineHeld fs r c
line_held fs r c l n e =
    let (a₁, k₁) = kept_list most_functions r.0 l in
    let (a₂, k₂) = kept_list most_functions r.1 (omega arith) in
    let ec : fs.count ≡ length r.0 = ap (λ f. f.count) e in
    let en : fs.names ≡ padded most_functions r.0 = ap (λ f. f.names) e in
    let ea : fs.arities ≡ padded most_functions r.1 = ap (λ f. f.arities) e in
    let ed : fs.count ≡ length r.1 = ec ∙ sym n in
    record {
      at = ap (λ f. f.at) e;
      names = (λ i. take (ec i) (en i)) ∙ a₁;
      arities = (λ i. take (ed i) (ea i)) ∙ a₂;
      padded_so = (
        (subst (λ c. NamesPadded most_functions fs.names c) (sym ec) (subst (λ l. NamesPadded most_functions l (length r.0)) (sym en) k₁)),
        (subst (λ c. NamesPadded most_functions fs.arities c) (sym ed) (subst (λ l. NamesPadded most_functions l (length r.1)) (sym ea) k₂)),
      );
      size = ec;
    }

-- a line that is held was read
line_got : {fs : Functions} {f : Result Functions Refused} (x : Got (List ℕ × List ℕ)) → f ≡ read_as held_functions x → f ≡ Ok fs
    → (r : List ℕ × List ℕ) × (c : ℕ) × (x ≡ got r c) × (fs ≡ held_functions r c)
line_got (got r c) e k = (r, c, refl, (cc))
line_got (Got.refused n p) e k = absurd (cc)
line_got exhausted e k = absurd (cc)

-- ---- behind the functions

module _ (s : List ℕ) (rs : Registers) (fs : Functions) (R : RegistersPadded rs) (F : FunctionsPadded fs) {f : Result Functions Refused}
    (h : f ≡ read_as held_functions (tests_t s (list_of rs) (take fs.count fs.names) (take fs.count fs.arities) fs.at (token_at s fs.at))) where
  abbrev Tests : Got (List ℕ × List ℕ)
  Tests = tests_t s (list_of rs) (take fs.count fs.names) (take fs.count fs.arities) fs.at (token_at s fs.at)

  tests_held : {all : Functions} → f ≡ Ok all
      → (r : List ℕ × List ℕ) × (c : ℕ) × (Tests ≡ got r c) × LineHeld all r c × (fs.count ≤ all.count) × RoomForHidden rs all fs.count
  tests_held {all} k =
      let (r, c, w, v) = line_got Tests h k in
      let a = F.0.size in
      let b = F.1.size in
      let few = F.0.few in
      let z = tests_size s (list_of rs) (take fs.count fs.names) (take fs.count fs.arities) fs.at r c (omega arith) (omega arith) w in
      let H = line_held all r c z.fits z.both v in
      let n = H.size in
      let more = z.more in
      (r, c, w, H, omega arith, λ l. let y = z.room (omega arith) in let x = R.size in omega arith)

  pub tests_kept : {all : Functions} → f ≡ Ok all → FunctionsPadded all × (fs.count ≤ all.count) × RoomForHidden rs all fs.count
  tests_kept k = let (r, c, w, H, l, room) = tests_held k in (H.padded_so, l, room)

  pub tests_read : {all : Functions} → f ≡ Ok all → {q : Result CompiledMacro Refused}
      → q ≡ held_answer (body_from s (list_of rs) (take all.count all.names) (take all.count all.arities) fs.count all.at)
      → q ≡ held_answer (tests_from s (list_of rs) (take fs.count fs.names) (take fs.count fs.arities) fs.at)
  unfolding tests_from
  tests_read k g =
      let (r, c, w, H, l, room) = tests_held k in
      g ∙ (λ i. held_answer (body_from s (list_of rs) (H.names i) (H.arities i) (sym F.0.size i) (H.at i)))
      ∙ ap (λ x. held_answer (and_then x λ r d. body_from s (list_of rs) r.0 r.1 (length (take fs.count fs.names)) d)) (sym w)

  pub tests_refused : {e : Refused} → f ≡ Err e → {w : Result CompiledMacro Refused} → IsErr w × IsErrAnd w (λ d. d ≡ e)
      → w ≡ held_answer (tests_from s (list_of rs) (take fs.count fs.names) (take fs.count fs.arities) fs.at)
  unfolding tests_from
  tests_refused k o = passed_on held_functions (λ m _. held_macro m) Tests _ h k o

-- ---- behind the registers

module _ (s : List ℕ) (rs : Registers) {f : Result Functions Refused} (h : f ≡ read_as held_functions (functions_t s (list_of rs) rs.at (token_at s
    rs.at))) where
  abbrev Line : Got (List ℕ × List ℕ)
  Line = functions_t s (list_of rs) rs.at (token_at s rs.at)

  functions_held : {fs : Functions} → f ≡ Ok fs → (r : List ℕ × List ℕ) × (c : ℕ) × (Line ≡ got r c) × LineHeld fs r c
  functions_held {fs} k =
      let (r, c, w, v) = line_got Line h k in
      let (fits, both) = functions_size s (list_of rs) rs.at r c w in
      (r, c, w, line_held fs r c fits both v)

  pub line_kept : {fs : Functions} → f ≡ Ok fs → FunctionsPadded fs
  line_kept k = let (r, c, w, H) = functions_held k in H.padded_so

  pub rest_read : {fs : Functions} → f ≡ Ok fs → {r : Result CompiledMacro Refused}
      → r ≡ held_answer (tests_from s (list_of rs) (take fs.count fs.names) (take fs.count fs.arities) fs.at)
      → r ≡ held_answer (functions_from s (list_of rs) rs.at)
  unfolding functions_from
  rest_read k g =
      let (l, c, w, H) = functions_held k in
      g ∙ (λ i. held_answer (tests_from s (list_of rs) (H.names i) (H.arities i) (H.at i)))
      ∙ ap (λ x. held_answer (and_then x λ r c. tests_from s (list_of rs) r.0 r.1 c)) (sym w)

  pub rest_refused : {e : Refused} → f ≡ Err e → {w : Result CompiledMacro Refused} → IsErr w × IsErrAnd w (λ d. d ≡ e)
      → w ≡ held_answer (functions_from s (list_of rs) rs.at)
  unfolding functions_from
  rest_refused k o = passed_on held_functions (λ m _. held_macro m) Line _ h k o

-- ---- the whole text

pub read_long : (s : List ℕ) → longest_text < length s → {u : Refused} → u ≡ refused_as text_too_long 0 → Err u ≡ held_answer (read_macro s)
unfolding read_macro read_text
read_long s h g = rw (lt-ltb longest_text (length s) h) (ap Err g)

module _ (s : List ℕ) (l : length s ≤ longest_text) {g : Result ℕ Refused} (i : g ≡ without_value (expect s word.vars_key 0)) where
  pub read_vars : {e : Refused} → g ≡ Err e → {w : Result CompiledMacro Refused} → IsErr w × IsErrAnd w (λ d. d ≡ e) → w ≡ held_answer (read_macro s)
  read_vars h o = passed_on (λ _ e. e) (λ m _. held_macro m) (expect s word.vars_key 0) _ i h o ∙ ap held_answer (sym (steps s l))

  pub macro_begun : {a : ℕ} → g ≡ Ok a → read_macro s ≡ registers_from s a
  macro_begun h = steps s l ∙ ap (λ x. and_then x λ _ a. registers_from s a) (place_on (expect s word.vars_key 0) i h)

module _ (s : List ℕ) (a : ℕ) {f : Result Registers Refused} (e : f ≡ read_as held_registers (register_names s most_registers [] a)) where
  names_ok : {rs : Registers} → f ≡ Ok rs
      → (l : List ℕ) × (b : ℕ) × (register_names s most_registers [] a ≡ got l b) × (rs.at ≡ b) × (list_of rs ≡ l) × RegistersPadded rs
  names_ok {rs} k = go (register_names s most_registers [] a) refl e
    where
      go : (x : Got (List ℕ)) → register_names s most_registers [] a ≡ x → f ≡ read_as held_registers x
          → (l : List ℕ) × (b : ℕ) × (register_names s most_registers [] a ≡ got l b) × (rs.at ≡ b) × (list_of rs ≡ l) × RegistersPadded rs
      go (got l b) w e =
          let (ks, q, D, m, z, p) = registers_sound s most_registers [] a l b none_declared w in
          let (a₁, k₁) = kept_list most_registers l (subst (λ l. length l ≤ most_registers) (sym q) z) in
          let v : rs ≡ held_registers l b = cc in
          let ec : rs.count ≡ length l = ap (λ f. f.count) v in
          let en : rs.names ≡ padded most_registers l = ap (λ f. f.names) v in (
            l,
            b,
            w,
            ap (λ f. f.at) v,
            (λ i. take (ec i) (en i)) ∙ a₁,
            subst (λ c. NamesPadded most_registers rs.names c) (sym ec) (subst (λ x. NamesPadded most_registers x (length l)) (sym en) k₁),
          )
      go (Got.refused n p) w e = absurd (cc)
      go exhausted w e = absurd (cc)

  pub names_kept : {rs : Registers} → f ≡ Ok rs → RegistersPadded rs
  names_kept k = let (l, b, w, x, y, K) = names_ok k in K

  pub read_rest : read_macro s ≡ registers_from s a → {rs : Registers} → f ≡ Ok rs → {r : Result CompiledMacro Refused}
      → r ≡ held_answer (functions_from s (list_of rs) rs.at) → r ≡ held_answer (read_macro s)
  unfolding registers_from
  read_rest h k g =
      let (l, b, w, x, y, K) = names_ok k in
      g ∙ (λ i. held_answer (functions_from s (y i) (x i))) ∙ ap (λ x. held_answer (and_then x λ rs b. functions_from s rs b)) (sym w)
      ∙ ap held_answer (sym h)

  pub read_refused : read_macro s ≡ registers_from s a → {d : Refused} → f ≡ Err d → {w : Result CompiledMacro Refused}
      → IsErr w × IsErrAnd w (λ c. c ≡ d) → w ≡ held_answer (read_macro s)
  unfolding registers_from
  read_refused h k o =
      passed_on held_registers (λ m _. held_macro m) (register_names s most_registers [] a) _ e k o ∙ ap held_answer (sym h)
