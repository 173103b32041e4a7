-- The walk through the points of a macro is the walk through the macro written out: a point fixes what is left to perform.
use mathlib.Core.Path.{◌≡◌, refl, sym, ap, ◌∙◌, subst}
use mathlib.Core.Logic.{inl, inr, ◌↔◌, ◌≢◌}
use mathlib.Core.List.{List, [], ◌∷◌, ◌++◌}
use mathlib.Core.Option.{Option, none, some}
use Prim.Native.Nat.{ℕ, zero, suc, ◌+◌, ◌<◌, ◌≤◌}
use native.Mathlib.Numerals.{add-one}
use native.Mathlib.Omega.{arith}
use lib.ListN.{length, length-append, get_elem?}
use Rattle.letters.specs.declared.Letter.{Letter}
use Rattle.semantics.specs.Terms.{Trace}
use Rattle.semantics.specs.Judgement.{size as letters}
use Rattle.macros.proofs.Theory.Numbers.{less_or}
use Rattle.macros.specs.Tree.{Condition, equal, unequal, test, opposite, Statement, Else, Block}
use Rattle.macros.specs.Tree as tree
use Rattle.macros.specs.Plain.{perform, assert, if, while, empty, ◌then◌}
use Rattle.macros.specs.Plain as plain
use Rattle.macros.specs.WrittenOut.{statement_before, written_else, block_before, written_out}
use Rattle.macros.specs.Executions.{Partial, Complete, Failing}
use Rattle.macros.specs.Order.{Branch, first, second, Path, steps}
use Rattle.macros.specs.Walk.{Place, at, failure, Move, no_move, move, Stand, nowhere, stand, take_move, walk}
use Rattle.macros.proofs.Theory.Walk.{walk_keeps, walk_begins, walk_steps, walk_once, on_place, on_move, on_stand, on_stand_back, same_walk}
use Rattle.macros.proofs.Theory.Branches.{◌before◌, else_block, due, branches, perform_along, complete_walk, failing_walk, partial_walk}
use Rattle.macros.proofs.Theory.WrittenOut.{block-before, else_before, else-before}
use Rattle.macros.specs.Points.{Point, step, check, fork, size_statement, size_else, size_block, entry, compile, compile_else, compile_block, points, entrance}
use Rattle.macros.specs.Points.{moves, moved, moves_at, run}
use Rattle.macros.proofs.Theory.Points.{entry_then, compile_length, compile_block_length, every_moves, LeadsWithin, entry_within, points_lead}

-- ── a part of a list, from number b on ──
pub within_list : {A : Type 0} (l : List A) (n : ℕ) → n < length l → (x : A) × (get_elem? l n ≡ some x)
within_list [] n h = absurd (omega arith)
within_list (x ∷ l) zero h = (x, refl)
within_list (x ∷ l) (suc n) h = within_list l n (omega arith)

module _ {A : Type 0} where
  abbrev Segment : List A → ℕ → List A → Type 0
  Segment ps b [] = Unit {0}
  Segment ps b (x ∷ l) = (get_elem? ps b ≡ some x) × Segment ps (b + 1) l

  later : (x : A) (ps : List A) (b : ℕ) → get_elem? (x ∷ ps) (b + 1) ≡ get_elem? ps b
  later x ps b = ap (get_elem? (x ∷ ps)) (add-one b)

  segment_cons : (x : A) (ps : List A) (b : ℕ) (l : List A) → Segment ps b l → Segment (x ∷ ps) (b + 1) l
  segment_cons x ps b [] h = tt
  segment_cons x ps b (y ∷ l) h = (later x ps b ∙ h.0, segment_cons x ps (b + 1) l h.1)

  segment_whole : (ps : List A) → Segment ps 0 ps
  segment_whole [] = tt
  segment_whole (x ∷ ps) = (refl, segment_cons x ps 0 ps (segment_whole ps))

  segment_left : (ps : List A) (b : ℕ) (l m : List A) → Segment ps b (l ++ m) → Segment ps b l
  segment_left ps b [] m h = tt
  segment_left ps b (x ∷ l) m h = (h.0, segment_left ps (b + 1) l m h.1)

  segment_right : (ps : List A) (b : ℕ) (l m : List A) (n : ℕ) → length l ≡ n → Segment ps b (l ++ m) → Segment ps (b + n) m
  segment_right ps b [] m n e h = subst (λ k. Segment ps k m) (omega arith) h
  segment_right ps b (x ∷ l) m n e h = subst (λ k. Segment ps k m) (omega arith) (segment_right ps (b + 1) l m (length l) refl h.1)

  past : (l : List A) (k : ℕ) → length l ≤ k → get_elem? l k ≡ none
  past [] k h = refl
  past (x ∷ l) zero h = absurd (omega arith)
  past (x ∷ l) (suc k) h = past l k (omega arith)

-- ── what is left to perform at each point, where k follows the part ──
-- a while, from its test on: without a letter before the test, and with the letter a
abbrev loop_left : Condition → Block → plain.Block → plain.Block
loop_left c b k = while c (block_before b empty) then k

abbrev loop_after_left : Letter → Condition → Block → plain.Block → plain.Block
loop_after_left a c b k = while c (block_before b (perform a then empty)) then k

abbrev mutual
  remains : Statement → plain.Block → List plain.Block
  remains tree.skip k = []
  remains (tree.perform a) k = (perform a then k) ∷ []
  remains (tree.assert c) k = (assert c then k) ∷ []
  remains (tree.if c b e) k = (if c (block_before b empty) (written_else e) then k) ∷ (remains_block b k ++ remains_else e k)
  remains (tree.while c b) k = loop_left c b k ∷ remains_block b (loop_left c b k)
  remains (tree.while_after a c b) k = (perform a then loop_after_left a c b k) ∷ loop_after_left a c b k ∷ remains_block b (perform a then loop_after_left a c b k)

  remains_else : Else → plain.Block → List plain.Block
  remains_else tree.absent k = []
  remains_else (tree.present b) k = remains_block b k

  remains_block : Block → plain.Block → List plain.Block
  remains_block tree.empty k = []
  remains_block (tree.◌then◌ s b) k = remains s (block_before b k) ++ remains_block b k

mutual
  unfolding size_statement

  remains_length : (s : Statement) (k : plain.Block) → length (remains s k) ≡ size_statement s
  remains_length tree.skip k = refl
  remains_length (tree.perform a) k = refl
  remains_length (tree.assert c) k = refl
  remains_length (tree.if c b e) k =
      let i = remains_block_length b k in
      let j = remains_else_length e k in
      simp (length-append) (omega arith)
  remains_length (tree.while c b) k = let i = remains_block_length b (loop_left c b k) in omega arith
  remains_length (tree.while_after a c b) k = let i = remains_block_length b (perform a then loop_after_left a c b k) in omega arith

  remains_else_length : (e : Else) (k : plain.Block) → length (remains_else e k) ≡ size_else e
  remains_else_length tree.absent k = refl
  remains_else_length (tree.present b) k = remains_block_length b k

  remains_block_length : (b : Block) (k : plain.Block) → length (remains_block b k) ≡ size_block b
  remains_block_length tree.empty k = refl
  remains_block_length (tree.◌then◌ s b) k =
      let i = remains_length s (block_before b k) in
      let j = remains_block_length b k in
      simp (length-append) (omega arith)

abbrev remaining : Option plain.Block → plain.Block
remaining none = empty
remaining (some b) = b

-- What is left to perform at point n: nothing at the end.
abbrev pub rest : Block → ℕ → plain.Block
rest m n = remaining (get_elem? (remains_block m empty) n)

module _ (m : Block) where
  abbrev Rests : ℕ → List plain.Block → Type 0
  Rests b l = Segment (remains_block m empty) b l

  abbrev Stands : ℕ → List Point → Type 0
  Stands b l = Segment (points m) b l

  rest_is : (n : ℕ) (k : plain.Block) → get_elem? (remains_block m empty) n ≡ some k → rest m n ≡ k
  rest_is n k e = ap remaining e

  rests_then : (s : Statement) (t : Block) (k : plain.Block) (b : ℕ) → Rests b (remains_block (tree.◌then◌ s t) k)
      → Rests b (remains s (block_before t k)) × Rests (b + size_statement s) (remains_block t k)
  rests_then s t k b g = (
    segment_left (remains_block m empty) b (remains s (block_before t k)) (remains_block t k) g,
    segment_right (remains_block m empty) b (remains s (block_before t k)) (remains_block t k) (size_statement s) (remains_length s (block_before t k)) g,
  )

  -- at the entry of a part, the part is left to perform
  mutual
    unfolding size_statement entry statement_before

    enters : (s : Statement) (b n : ℕ) (k : plain.Block) → Rests b (remains s k) → rest m n ≡ due k
        → rest m (entry (size_statement s) b n) ≡ due (statement_before s k)
    enters tree.skip b n k g e = e
    enters (tree.perform a) b n k g e = rest_is b (perform a then k) g.0
    enters (tree.assert c) b n k g e = rest_is b (assert c then k) g.0
    enters (tree.if c t f) b n k g e = rest_is b (if c (block_before t empty) (written_else f) then k) g.0
    enters (tree.while c t) b n k g e = rest_is b (loop_left c t k) g.0
    enters (tree.while_after a c t) b n k g e = rest_is b (perform a then loop_after_left a c t k) g.0

    enters_else : (f : Else) (b n : ℕ) (k : plain.Block) → Rests b (remains_else f k) → rest m n ≡ due k → rest m (entry (size_else f) b n) ≡ due (else_before f k)
    enters_else tree.absent b n k g e = e
    enters_else (tree.present t) b n k g e = enters_block t b n k g e

    enters_block : (t : Block) (b n : ℕ) (k : plain.Block) → Rests b (remains_block t k) → rest m n ≡ due k
        → rest m (entry (size_block t) b n) ≡ due (block_before t k)
    enters_block tree.empty b n k g e = e
    enters_block (tree.◌then◌ s t) b n k g e =
        let (u, v) = rests_then s t k b g in
        ap (rest m) (entry_then (size_statement s) (size_block t) b n)
        ∙ enters s b (entry (size_block t) (b + size_statement s) n) (block_before t k) u (enters_block t (b + size_statement s) n k v e)

  -- and where the part is written out before j and k comes after that
  enters_before : (t : Block) (b n : ℕ) (j k : plain.Block) → Rests b (remains_block t (j before k)) → rest m n ≡ due (j before k)
      → rest m (entry (size_block t) b n) ≡ due (block_before t j before k)
  enters_before t b n j k g e = enters_block t b n (j before k) g e ∙ ap due (sym (block-before t j k))

  -- point n has the branches of what is left there
  abbrev Alike : ℕ → Branch → Type 0
  Alike n d = branches (rest m n) d ≡ on_move (rest m) (moves_at (points m) n d)

  -- the branches d of a point x where k is left
  alike_at : (n : ℕ) (x : Point) (k : plain.Block) (d : Branch) → get_elem? (points m) n ≡ some x → get_elem? (remains_block m empty) n ≡ some k
      → branches k d ≡ on_move (rest m) (moves x d) → Alike n d
  alike_at n x k d p r e = ap (λ z. branches z d) (rest_is n k r) ∙ e ∙ ap (λ z. on_move (rest m) (moved z d)) (sym p)

  alike_step : (a : Letter) (n : ℕ) (k : plain.Block) → rest m n ≡ due k → (d : Branch) → branches (perform a then k) d ≡ on_move (rest m) (moves (step a n) d)
  alike_step a n k e first = ap (λ z. move a (at z)) (sym e)
  alike_step a n k e second = refl

  alike_check : (c : Condition) (n : ℕ) (k : plain.Block) → rest m n ≡ due k → (d : Branch)
      → branches (assert c then k) d ≡ on_move (rest m) (moves (check c n) d)
  alike_check c n k e first = refl
  alike_check c n k e second = ap (λ z. move (test c) (at z)) (sym e)

  alike_if : (c : Condition) (t : plain.Block) (f : plain.Else) (i j : ℕ) (k : plain.Block) → rest m i ≡ due (t before k)
      → rest m j ≡ due (else_block f before k) → (d : Branch) → branches (if c t f then k) d ≡ on_move (rest m) (moves (fork c i j) d)
  alike_if c t f i j k u v first = ap (λ z. move (test c) (at z)) (sym u)
  alike_if c t f i j k u v second = ap (λ z. move (opposite c) (at z)) (sym v)

  alike_while : (c : Condition) (t : plain.Block) (i j : ℕ) (k : plain.Block) → rest m i ≡ due (t before (while c t then k)) → rest m j ≡ due k
      → (d : Branch) → branches (while c t then k) d ≡ on_move (rest m) (moves (fork c i j) d)
  alike_while c t i j k u v first = ap (λ z. move (test c) (at z)) (sym u)
  alike_while c t i j k u v second = ap (λ z. move (opposite c) (at z)) (sym v)

  -- at the first point of a part, or at a later one
  first_or_later : (b n : ℕ) (d : Branch) → b ≤ n → Alike b d → (b + 1 ≤ n → Alike n d) → Alike n d
  first_or_later b n d i x y = elim (less_or b n) [ inl l ↦ y (omega arith) | inr l ↦ subst (λ z. Alike z d) (omega arith) x ]

  mutual
    unfolding size_statement compile

    alike : (s : Statement) (b n : ℕ) (k : plain.Block) → Stands b (compile s b n) → Rests b (remains s k) → rest m n ≡ due k
        → (i : ℕ) → b ≤ i → i < b + size_statement s → (d : Branch) → Alike i d
    alike tree.skip b n k p r e i l h d = absurd (omega arith)
    alike (tree.perform a) b n k p r e i l h d =
        first_or_later b i d l (alike_at b (step a n) (perform a then k) d p.0 r.0 (alike_step a n k e d)) (λ u. absurd (omega arith))
    alike (tree.assert c) b n k p r e i l h d =
        first_or_later b i d l (alike_at b (check c n) (assert c then k) d p.0 r.0 (alike_check c n k e d)) (λ u. absurd (omega arith))
    alike (tree.if c t f) b n k p r e i l h d =
        let rt : Rests (b + 1) (remains_block t k) = segment_left (remains_block m empty) (b + 1) (remains_block t k) (remains_else f k) r.1 in
        let rf : Rests (b + 1 + size_block t) (remains_else f k) =
        segment_right (remains_block m empty) (b + 1) (remains_block t k) (remains_else f k) (size_block t) (remains_block_length t k) r.1 in
        let pt : Stands (b + 1) (compile_block t (b + 1) n) =
        segment_left (points m) (b + 1) (compile_block t (b + 1) n) (compile_else f (b + 1 + size_block t) n) p.1 in
        let pf : Stands (b + 1 + size_block t) (compile_else f (b + 1 + size_block t) n) =
        segment_right (points m) (b + 1) (compile_block t (b + 1) n) (compile_else f (b + 1 + size_block t) n) (size_block t) (compile_block_length t (b + 1) n)
        p.1 in
        first_or_later b i d l
        (alike_at b (fork c (entry (size_block t) (b + 1) n) (entry (size_else f) (b + 1 + size_block t) n))
        (if c (block_before t empty) (written_else f) then k) d p.0 r.0
        (alike_if c (block_before t empty) (written_else f) (entry (size_block t) (b + 1) n) (entry (size_else f) (b + 1 + size_block t) n) k
        (enters_before t (b + 1) n empty k rt e) (enters_else f (b + 1 + size_block t) n k rf e ∙ ap due (sym (else-before f k))) d))
        (λ u. elim (less_or i (b + 1 + size_block t)) [
          | inl v ↦ alike_block t (b + 1) n k pt rt e i u v d
          | inr v ↦ alike_else f (b + 1 + size_block t) n k pf rf e i v (omega arith) d
        ])
    alike (tree.while c t) b n k p r e i l h d =
        let w : rest m b ≡ loop_left c t k = rest_is b (loop_left c t k) r.0 in
        first_or_later b i d l
        (alike_at b (fork c (entry (size_block t) (b + 1) b) n) (loop_left c t k) d p.0 r.0
        (alike_while c (block_before t empty) (entry (size_block t) (b + 1) b) n k (enters_before t (b + 1) b empty (loop_left c t k) r.1 w) e d))
        (λ u. alike_block t (b + 1) b (loop_left c t k) p.1 r.1 w i u (omega arith) d)
    alike (tree.while_after a c t) b n k p r e i l h d =
        let body_leads : ℕ = b in
        let w : rest m body_leads ≡ perform a then loop_after_left a c t k = rest_is body_leads (perform a then loop_after_left a c t k) r.0 in
        let two : b + 1 + 1 ≡ b + 2 = omega arith in
        let pt : Stands (b + 2) (compile_block t (b + 2) body_leads) = subst (λ z. Stands z (compile_block t (b + 2) body_leads)) two p.1.1 in
        let rt : Rests (b + 2) (remains_block t (perform a then loop_after_left a c t k)) =
        subst (λ z. Rests z (remains_block t (perform a then loop_after_left a c t k))) two r.1.1 in
        first_or_later b i d l
        (alike_at b (step a (b + 1)) (perform a then loop_after_left a c t k) d p.0 r.0
        (alike_step a (b + 1) (loop_after_left a c t k) (rest_is (b + 1) (loop_after_left a c t k) r.1.0) d))
        (λ u. first_or_later (b + 1) i d u
        (alike_at (b + 1) (fork c (entry (size_block t) (b + 2) body_leads) n) (loop_after_left a c t k) d p.1.0 r.1.0
        (alike_while c (block_before t (perform a then empty)) (entry (size_block t) (b + 2) body_leads) n k
        (enters_before t (b + 2) body_leads (perform a then empty) (loop_after_left a c t k) rt w) e d))
        (λ v. alike_block t (b + 2) body_leads (perform a then loop_after_left a c t k) pt rt w i (omega arith) (omega arith) d))

    alike_else : (f : Else) (b n : ℕ) (k : plain.Block) → Stands b (compile_else f b n) → Rests b (remains_else f k) → rest m n ≡ due k
        → (i : ℕ) → b ≤ i → i < b + size_else f → (d : Branch) → Alike i d
    alike_else tree.absent b n k p r e i l h d = absurd (omega arith)
    alike_else (tree.present t) b n k p r e i l h d = alike_block t b n k p r e i l h d

    alike_block : (t : Block) (b n : ℕ) (k : plain.Block) → Stands b (compile_block t b n) → Rests b (remains_block t k) → rest m n ≡ due k
        → (i : ℕ) → b ≤ i → i < b + size_block t → (d : Branch) → Alike i d
    alike_block tree.empty b n k p r e i l h d = absurd (omega arith)
    alike_block (tree.◌then◌ s t) b n k p r e i l h d =
        let (rs, rt) = rests_then s t k b r in
        let ps : Stands b (compile s b (entry (size_block t) (b + size_statement s) n)) =
        segment_left (points m) b (compile s b (entry (size_block t) (b + size_statement s) n)) (compile_block t (b + size_statement s) n) p in
        let pt : Stands (b + size_statement s) (compile_block t (b + size_statement s) n) =
        segment_right (points m) b (compile s b (entry (size_block t) (b + size_statement s) n)) (compile_block t (b + size_statement s) n) (size_statement s)
        (compile_length s b (entry (size_block t) (b + size_statement s) n)) p in
        elim (less_or i (b + size_statement s)) [
          | inl v ↦ alike s b (entry (size_block t) (b + size_statement s) n) (block_before t k) ps rs (enters_block t (b + size_statement s) n k rt e) i l v d
          | inr v ↦ alike_block t (b + size_statement s) n k pt rt e i v (omega arith) d
        ]

  -- nothing is left at the end
  pub rest_end : (n : ℕ) → size_block m ≤ n → rest m n ≡ empty
  rest_end n l = ap remaining (past (remains_block m empty) n (omega (arith, remains_block_length m empty)))

  -- and there are no branches
  pub past_points : (n : ℕ) (d : Branch) → size_block m ≤ n → moves_at (points m) n d ≡ no_move
  past_points n d l = ap (λ z. moved z d) (past (points m) n (omega (arith, compile_block_length m 0 (size_block m))))

  -- at the entrance all is left
  pub rest_entrance : rest m (entrance m) ≡ due (written_out m)
  rest_entrance = enters_block m 0 (size_block m) empty (segment_whole (remains_block m empty)) (rest_end (size_block m) (omega arith))

  -- each point has the branches of what is left there
  pub point_branches : (n : ℕ) (d : Branch) → branches (rest m n) d ≡ on_move (rest m) (moves_at (points m) n d)
  point_branches n d = elim (less_or n (size_block m)) [
    | inl l ↦ alike_block m 0 (size_block m) empty (segment_whole (points m)) (segment_whole (remains_block m empty)) (rest_end (size_block m) (omega arith)) n
        (omega arith) (omega arith) d
    | inr l ↦ ap (λ k. branches k d) (rest_end n l) ∙ sym (ap (on_move (rest m)) (past_points n d l))
  ]

  -- The walk through the points, each taken for what is left there, is the walk through the macro written out.
  pub run_is : (start : Trace) (p : Path) → perform_along start (written_out m) p ≡ on_stand (rest m) (run start m p)
  run_is start p =
      ap (λ k. walk branches k start p) (sym rest_entrance) ∙ same_walk (rest m) (moves_at (points m)) branches point_branches (entrance m) start p

  -- only at the end nothing is left
  first_move : (x : Point) → moves x first ≢ no_move
  first_move (step a n) e = let z : ◌≡◌ {A = ℕ} 0 1 = cc in omega arith
  first_move (check c n) e = let z : ◌≡◌ {A = ℕ} 0 1 = cc in omega arith
  first_move (fork c i j) e = let z : ◌≡◌ {A = ℕ} 0 1 = cc in omega arith

  no_move_back : (x : Move ℕ) → no_move ≡ on_move (rest m) x → x ≡ no_move
  no_move_back no_move e = refl
  no_move_back (move a l) e = absurd (let z : ◌≡◌ {A = ℕ} 0 1 = cc in omega arith)

  pub rest_empty : (n : ℕ) → rest m n ≡ empty → size_block m ≤ n
  rest_empty n e = elim (less_or n (size_block m)) [ inl l ↦ absurd (go l) | inr l ↦ l ]
    where
      go : n < size_block m → ⊥
      go l =
          let (x, f) = within_list (points m) n (omega (arith, compile_block_length m 0 (size_block m))) in
          let g : moves_at (points m) n first ≡ no_move =
          no_move_back (moves_at (points m) n first) (ap (λ k. branches k first) (sym e) ∙ point_branches n first) in
          first_move x (ap (λ z. moved z first) (sym f) ∙ g)

-- ── Definition 2's executions are the walks through the points ──
module _ (start : Trace) (m : Block) (ρ : Trace) where
  run_back : (p : Path) (l : Place plain.Block) → perform_along start (written_out m) p ≡ stand l ρ
      → (k : Place ℕ) × (run start m p ≡ stand k ρ) × (on_place (rest m) k ≡ l)
  run_back p l e = on_stand_back (rest m) (run start m p) l ρ (sym (run_is m start p) ∙ e)

  run_there : (p : Path) (k : Place ℕ) → run start m p ≡ stand k ρ → perform_along start (written_out m) p ≡ stand (on_place (rest m) k) ρ
  run_there p k e = run_is m start p ∙ ap (on_stand (rest m)) e

  -- those that run through the whole macro come to the end
  pub complete_is : Complete start m ρ ↔ ((p : Path) × (n : ℕ) × (size_block m ≤ n) × (run start m p ≡ stand (at n) ρ))
  complete_is = (
    λ x. let (p, e) = (complete_walk start m ρ).0 x in
        ends p (run_back p (at empty) e),
    λ (p, n, l, e). (complete_walk start m ρ).1 (p, run_there p (at n) e ∙ ap (λ k. stand (at k) ρ) (rest_end m n l)),
  )
    where
      ends : (p : Path) → (k : Place ℕ) × (run start m p ≡ stand k ρ) × (on_place (rest m) k ≡ at empty)
          → (p : Path) × (n : ℕ) × (size_block m ≤ n) × (run start m p ≡ stand (at n) ρ)
      ends p (at n, e, f) = (p, n, rest_empty m n (cc), e)
      ends p (failure, e, f) = absurd (let z : ◌≡◌ {A = ℕ} 0 1 = cc in omega arith)

  -- those that end at a failure come to it
  pub failing_is : Failing start m ρ ↔ ((p : Path) × (run start m p ≡ stand failure ρ))
  failing_is = (λ x. let (p, e) = (failing_walk start m ρ).0 x in fails p (run_back p failure e), λ (p, e). (failing_walk start m ρ).1 (p, run_there p failure e))
    where
      fails : (p : Path) → (k : Place ℕ) × (run start m p ≡ stand k ρ) × (on_place (rest m) k ≡ failure) → (p : Path) × (run start m p ≡ stand failure ρ)
      fails p (at n, e, f) = absurd (let z : ◌≡◌ {A = ℕ} 0 1 = cc in omega arith)
      fails p (failure, e, f) = (p, e)

  -- and the partial ones come anywhere
  pub partial_is : Partial start m ρ ↔ ((p : Path) × (l : Place ℕ) × (run start m p ≡ stand l ρ))
  partial_is = (
    λ x. let (p, l, e) = (partial_walk start m ρ).0 x in let (k, f, g) = run_back p l e in
        (p, k, f),
    λ (p, l, e). (partial_walk start m ρ).1 (p, on_place (rest m) l, run_there p l e),
  )

-- ── the letters tell the branches, and their number is that of the branches ──
opposed : (c : Condition) → test c ≢ opposite c
opposed (equal x y) e = let z : ◌≡◌ {A = ℕ} 0 1 = cc in omega arith
opposed (unequal x y) e = let z : ◌≡◌ {A = ℕ} 0 1 = cc in omega arith

one_branch : (x : Point) (a : Letter) (b c : Branch) (k l : Place ℕ) → moves x b ≡ move a k → moves x c ≡ move a l → b ≡ c
one_branch x a first first k l u v = refl
one_branch x a second second k l u v = refl
one_branch (step d n) a first second k l u v = cc
one_branch (check d n) a first second k l u v = absurd (opposed d (cc))
one_branch (fork d i j) a first second k l u v = absurd (opposed d (cc))
one_branch (step d n) a second first k l u v = cc
one_branch (check d n) a second first k l u v = absurd (opposed d (cc))
one_branch (fork d i j) a second first k l u v = absurd (opposed d (cc))

told : (ps : List Point) (n : ℕ) (a : Letter) (b c : Branch) (k l : Place ℕ) → moves_at ps n b ≡ move a k → moves_at ps n c ≡ move a l → b ≡ c
told ps n a b c k l u v = go (get_elem? ps n) u v
  where
    go : (o : Option Point) → moved o b ≡ move a k → moved o c ≡ move a l → b ≡ c
    go none u v = absurd (let z : ◌≡◌ {A = ℕ} 0 1 = cc in omega arith)
    go (some x) u v = one_branch x a b c k l u v

pub run_once : (start : Trace) (m : Block) (ρ : Trace) (p q : Path) (k l : Place ℕ) → run start m p ≡ stand k ρ → run start m q ≡ stand l ρ → p ≡ q
run_once start m ρ p q k l u v =
    walk_once (moves_at (points m)) (entrance m) start (told (points m)) (walk_begins (moves_at (points m)) (entrance m) start p k ρ u) p q k l u v

pub run_steps : (start : Trace) (m : Block) (ρ : Trace) (p : Path) (l : Place ℕ) → run start m p ≡ stand l ρ → letters ρ ≡ letters start + steps p
run_steps start m ρ p l e = walk_steps (moves_at (points m)) (entrance m) start (walk_begins (moves_at (points m)) (entrance m) start p l ρ e) p l e

-- ── a run comes to a point or to the end ──
module _ (n : ℕ) where
  abbrev MoveWithin : Move ℕ → Type 0
  MoveWithin no_move = Unit {0}
  MoveWithin (move a failure) = Unit {0}
  MoveWithin (move a (at i)) = i ≤ n

  abbrev StandsWithin : Stand ℕ → Type 0
  StandsWithin nowhere = Unit {0}
  StandsWithin (stand failure ρ) = Unit {0}
  StandsWithin (stand (at i) ρ) = i ≤ n

  leads_moves : (x : Point) (d : Branch) → LeadsWithin n x → MoveWithin (moves x d)
  leads_moves (step a i) first u = u
  leads_moves (step a i) second u = tt
  leads_moves (check c i) first u = tt
  leads_moves (check c i) second u = u
  leads_moves (fork c i j) first u = u.0
  leads_moves (fork c i j) second u = u.1

  take_within : (ρ : Trace) (x : Move ℕ) → MoveWithin x → StandsWithin (take_move ρ x)
  take_within ρ no_move u = tt
  take_within ρ (move a failure) u = tt
  take_within ρ (move a (at i)) u = u

pub run_bound : (start : Trace) (m : Block) (p : Path) (n : ℕ) (ρ : Trace) → run start m p ≡ stand (at n) ρ → n ≤ size_block m
run_bound start m p n ρ e =
    subst (StandsWithin (size_block m)) e
    (walk_keeps (moves_at (points m)) (StandsWithin (size_block m)) tt
    (λ k ρ b x. take_within (size_block m) ρ (moves_at (points m) k b)
    (every_moves (LeadsWithin (size_block m)) (MoveWithin (size_block m)) tt (leads_moves (size_block m)) (points m) k b (points_lead m)))
    (entrance m) start (entry_within (size_block m) 0 (size_block m) (size_block m) (omega arith) (omega arith)) p)

-- Those that run through the whole macro come to the number after its last point.
pub complete_end : (start : Trace) (m : Block) (ρ : Trace) → Complete start m ρ ↔ ((p : Path) × (run start m p ≡ stand (at (size_block m)) ρ))
complete_end start m ρ = (
  λ x. let (p, n, l, e) = (complete_is start m ρ).0 x in
      let b = run_bound start m p n ρ e in
      let same : n ≡ size_block m = omega arith in
      (p, e ∙ ap (λ k. stand (at k) ρ) same),
  λ (p, e). (complete_is start m ρ).1 (p, size_block m, omega arith, e),
)
