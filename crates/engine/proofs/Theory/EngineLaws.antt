-- Letter by letter: the engine's arrays hold the state after the letter.
use mathlib.Core.Path.{◌≡◌, refl, sym, ◌∙◌, ap, subst}
use mathlib.Core.Logic.{◌⊎◌, inl, inr, ◌≢◌}
use mathlib.Core.Bool.{Bool, true, false, cond}
use mathlib.Core.List.{List}
use Prim.Native.Nat.{ℕ, suc, ◌+◌, ◌≤◌, ◌<◌}
use native.Mathlib.Omega.{arith}
use native.Mathlib.Numerals.{add-one}
use lib.Dec.{eqb}
use lib.ListN.{length, get_or, set, length-set}
use lib.Seq.{get_or-set_same, get_or-set_other}
use borrow.Author.Tests.{eqb-true, eqb-false}
use Rattle.base.proofs.Theory.Choice.{by_test}
use Rattle.letters.specs.declared.Letter.{Letter}
use Rattle.letters.specs.declared.Letter.TheVariants.{Copy, Apply, Equal, Unequal}
use Rattle.letters.specs.Letters.{Fits}
use Rattle.letters.specs.Editions.{most_letters, most_registers, most_functions}
use Rattle.closure.proofs.Theory.Clashing.{below_widen}
use Rattle.closure.specs.Limits.{most_terms}
use Rattle.semantics.specs.Terms.{State, after}
use Rattle.closure.proofs.Theory.Represents.{represents_copy, represents_unequal, sides_unequal, sides_apply}
use Rattle.closure.specs.Numbering.{Closed}
use Rattle.closure.specs.Index.{signature_of, Entered}
use Rattle.closure.specs.Arrays.{entry_at, Below, Formed, IndexedTerms, signature_at, Merged, LookedAt, known_at, fresh_at, Parts}
use Rattle.closure.proofs.Theory.Entering.{looked_known, looked_fresh}
use Rattle.closure.proofs.Theory.Propagation.{merged_same}
use Rattle.closure.proofs.Theory.Steps.{letter_equal, letter_apply}
use Rattle.engine.specs.Engine.{Counts}
use Rattle.engine.specs.Engine.{Engine, Ready, LetterPerformed, Applied, Appliable, Computable, Computing, Equatable, TermsEquated, Notable, Noted}
use Rattle.engine.specs.Engine.{name_of}

-- the entries of an array with one stored
module _ (l : List ℕ) (i v : ℕ) where
  pub put : i < length l → get_or (set l i v) i 0 ≡ v
  put h = get_or-set_same l i v 0 h

  pub kept : (k : ℕ) → k ≢ i → get_or (set l i v) k 0 ≡ get_or l k 0
  kept k d = get_or-set_other l i k v 0 d

  pub kept_below : (k : ℕ) → k < i → get_or (set l i v) k 0 ≡ get_or l k 0
  kept_below k h = let d : k ≢ i = λ e. omega arith in get_or-set_other l i k v 0 d

  pub below_set : (b n : ℕ) → i < length l → v < b → i ≡ n → Below b n l → Below b (suc n) (set l i v)
  unfolding Below
  below_set b n h p e g k q = by_test (eqb k i)
      (λ t. let s = eqb-true k i t in subst (λ w. w < b) (sym (ap (λ k. get_or (set l i v) k 0) s ∙ put h)) p)
      (λ t. let d : k ≢ i = eqb-false k i t in subst (λ w. w < b) (sym (kept k d)) (g k (omega arith)))

before_set : (l : List ℕ) (n v : ℕ) → n < length l → v ≤ n → ((k : ℕ) → k < n → get_or l k 0 ≤ k) → (k : ℕ) → k < suc n → get_or (set l n v) k 0 ≤ k
before_set l n v h p g k q = by_test (eqb k n)
    (λ t. let e = eqb-true k n t in subst (λ w. w ≤ k) (sym (ap (λ k. get_or (set l n v) k 0) e ∙ put l n v h)) (omega arith))
    (λ t. let d : k ≢ n = eqb-false k n t in subst (λ w. w ≤ k) (sym (kept l n v k d)) (g k (omega arith)))

-- the class that was looked up is that of a term, or the new one
module _ (representative function first second : List ℕ) (registers n f a b name : ℕ) (fm : Formed representative function first second registers n) where
  pub looked_below : LookedAt representative function first second registers n f a b name → name < suc n
  unfolding Below
  looked_below (known_at m p h u v t e) = let c = fm.classes m h in omega arith
  looked_below (fresh_at e none) = omega arith

  looked_own : LookedAt representative function first second registers n f a b name → (name ≡ n) ⊎ ((name < n) × (get_or representative name 0 ≡ name))
  unfolding Below
  looked_own (known_at m p h u v t e) = inr (subst (λ v. v < n) (sym e) (fm.classes m h), ap (λ v. get_or representative v 0) e ∙ fm.own m h ∙ sym e)
  looked_own (fresh_at e none) = inl e

  module _ (lf : n < length function) (lo : n < length first) (lt : n < length second) (lr : n < most_terms) (bf : f < most_functions) (ba : a < n) (bb : b < n)
      (look : LookedAt representative function first second registers n f a b name) where
    applied_formed : Formed (set representative n name) (set function n f) (set first n a) (set second n b) registers (suc n)
    unfolding Below
    applied_formed = record {
      some = fm.some;
      more = let m = fm.more in omega arith;
      within = omega arith;
      long = simp length-set fm.long;
      classes = below_set representative n name (suc n) n rep_long (looked_below look) refl
          (below_widen n (suc n) n representative (omega arith) fm.classes);
      lowest = λ k h. by_test (eqb k n)
          (λ t. let e = eqb-true k n t in let l = looked_below look in
          subst (λ v. v ≤ k) (sym (ap (λ k. get_or (set representative n name) k 0) e ∙ put representative n name rep_long)) (omega arith))
          (λ t. let d : k ≢ n = eqb-false k n t in subst (λ v. v ≤ k) (sym (kept representative n name k d)) (fm.lowest k (omega arith)));
      own = λ k h. by_test (eqb k n)
          (λ t. let e = ap (λ k. get_or (set representative n name) k 0) (eqb-true k n t) ∙ put representative n name rep_long in
          ap (λ v. get_or (set representative n name) v 0) e ∙ name_own (looked_own look) ∙ sym e)
          (λ t. let d : k ≢ n = eqb-false k n t in let e = kept representative n name k d in
          ap (λ v. get_or (set representative n name) v 0) e ∙ kept_below representative n name (get_or representative k 0) (fm.classes k (omega arith))
          ∙ fm.own k (omega arith) ∙ sym e);
      functions = below_set function n f most_functions n lf bf refl fm.functions;
      firsts = below_set first n a (suc n) n lo (omega arith) refl (below_widen n (suc n) n first (omega arith) fm.firsts);
      seconds = below_set second n b (suc n) n lt (omega arith) refl (below_widen n (suc n) n second (omega arith) fm.seconds);
      first_before = before_set first n a lo (omega arith) fm.first_before;
      second_before = before_set second n b lt (omega arith) fm.second_before;
    }
      where
        rep_long : n < length representative
        rep_long = let l = fm.long in omega arith

        name_own : (name ≡ n) ⊎ ((name < n) × (get_or representative name 0 ≡ name)) → get_or (set representative n name) name 0 ≡ name
        name_own (inl e) = ap (λ v. get_or (set representative n name) v 0) e ∙ put representative n name rep_long
        name_own (inr (h, o)) = kept_below representative n name name h ∙ o

-- what `apply` leaves
module _ (function first second representative head link : List ℕ) (registers n f a b : ℕ)
    (u : Appliable function first second representative head link registers n f a b) (c r : ℕ) (head' link' : List ℕ)
    (e : c ≡ signature_of f (get_or representative a 0) (get_or representative b 0))
    (w : Entered (signature_at representative function first second) registers n c head link r head' link') where
  entered_looked : LookedAt representative function first second registers n f a b (name_of representative r n)
  unfolding name_of
  entered_looked = by_test (eqb r n)
      (λ t. rw t (looked_fresh representative function first second registers n u.formed f a b c u.known u.first_term
      u.second_term e head link r head' link' w u.indexed.complete (eqb-true r n t)))
      (λ t. let d : r ≢ n = eqb-false r n t in let m = w.most in
      rw t (looked_known representative function first second registers n u.formed f a b c u.known u.first_term
      u.second_term e head link r head' link' w (get_or representative r 0) (omega arith) refl))

  module _ (name : ℕ) where
    same : (k : ℕ) → k < n → signature_at (set representative n name) (set function n f) (set first n a)
        (set second n b) k ≡ signature_at representative function first second k
    unfolding signature_at Below
    same k h = rw (
      kept_below function n f k h,
      kept_below first n a k h,
      kept_below second n b k h,
      kept_below representative n name (get_or first k 0)
          (u.formed.firsts k h),
      kept_below representative n name (get_or second k 0) (u.formed.seconds k h),
    )

    last : signature_at (set representative n name) (set function n f) (set first n a) (set second n b) n ≡ c
    unfolding signature_at
    last = rw (
      put function n f (let l = u.function_long in let h = u.room in omega arith),
      put first n a (let l = u.first_long in let h = u.room in omega arith),
      put second n b (let l = u.second_long in let h = u.room in omega arith),
      kept_below representative n name a u.first_term,
      kept_below representative n name b u.second_term,
    ) (sym e)

    applied_indexed : IndexedTerms (set representative n name) (set function n f) (set first n a) (set second n b) registers (suc n) head' link'
    applied_indexed = record {
      chains = w.chains;
      complete =
          w.completes (signature_at (set representative n name) (set function n f) (set first n a) (set second n b)) same last u.indexed.complete;
    }

  pub applied : (name : ℕ) → name ≡ name_of representative r n
      → Applied function first second representative head link registers n f a b (set function n f) (set first n a) (set second n b)
      (set representative n name) head' link'
  applied name q = record {
    name = name;
    looked = rw q entered_looked;
    in_function = refl;
    in_first = refl;
    in_second = refl;
    in_representative = refl;
    indexed = applied_indexed name;
  }

-- the unequal tests with sides in different classes, after a new term and after a new test
parts_set : (representative left right : List ℕ) (n v p : ℕ) → ((q : ℕ) → q < p → get_or left q 0 < n) → ((q : ℕ) → q < p → get_or right q 0 < n)
    → Parts representative left right p → Parts (set representative n v) left right p
unfolding Parts
parts_set representative left right n v p l r w q h e =
    w q h (sym (kept_below representative n v (get_or left q 0) (l q h)) ∙ e ∙ kept_below representative n v (get_or right q 0) (r q h))

parts_list : (representative left right : List ℕ) (m a b p : ℕ) → p ≤ m → Parts representative left right p
    → Parts representative (set left m a) (set right m b) p
unfolding Parts
parts_list representative left right m a b p l w q h e =
    w q h (ap (λ v. get_or representative v 0) (sym (kept_below left m a q (omega arith))) ∙ e
    ∙ ap (λ v. get_or representative v 0) (kept_below right m b q (omega arith)))

module _ (σ : State) (function first second representative head link value left right : List ℕ) (registers n m p k : ℕ)
    (w : Engine σ function first second representative head link value left right registers n m p k) where
  -- a register of the header has a place, and its term a number
  register_below : (x : ℕ) → x < σ.header.registers → (x < registers) × (x < most_registers)
  register_below x h = let e = w.represents.header_registers in let l = w.registers_few in (omega arith, omega arith)

  pub engine_copy : (x y : ℕ) → Fits σ.header (Copy x y)
      → Engine (after σ (Copy x y)) function first second representative head link (set value x (get_or value y 0)) left right registers n m p (suc k)
  engine_copy x y (hx, hy) = record {
    formed = w.formed;
    represents = represents_copy σ (entry_at function) (entry_at first) (entry_at second) (entry_at representative) registers n
        (entry_at value) w.represents x y
        (entry_at (set value x (get_or value y 0))) lx.0 (register_below y hy).0 same;
    indexed = w.indexed;
    sides = record { left_below = w.sides.left_below; right_below = w.sides.right_below; listed = w.sides.listed; all = w.sides.all };
    registers_few = w.registers_few;
    functions_few = w.functions_few;
    function_long = w.function_long;
    first_long = w.first_long;
    second_long = w.second_long;
    value_long = simp length-set w.value_long;
    left_long = w.left_long;
    right_long = w.right_long;
    terms_few = let l = w.terms_few in omega arith;
    tests_few = let l = w.tests_few in omega arith;
    parts = w.parts;
    parts_few = w.parts_few;
  }
    where
      lx : (x < registers) × (x < most_registers)
      lx = register_below x hx

      same : (r : ℕ) → get_or (set value x (get_or value y 0)) r 0 ≡ get_or value (cond (eqb r x) y r) 0
      same r = go (eqb r x) refl
        where
          go : (b : Bool) → eqb r x ≡ b → get_or (set value x (get_or value y 0)) r 0 ≡ get_or value (cond b y r) 0
          go true e = ap (λ r. get_or (set value x (get_or value y 0)) r 0) (eqb-true r x e)
              ∙ put value x (get_or value y 0) (let l = w.value_long in let h = lx.1 in omega arith)
          go false e = kept value x (get_or value y 0) r (eqb-false r x e)

  pub engine_apply : (x f y z : ℕ) (name : ℕ) (head' link' : List ℕ) → k < most_letters → Fits σ.header (Apply x f y z)
      → LookedAt representative function first second registers n f (get_or value y 0) (get_or value z 0) name
      → IndexedTerms (set representative n name) (set function n f) (set first n (get_or value y 0)) (set second n (get_or value z 0)) registers
      (suc n) head' link'
      → Engine (after σ (Apply x f y z)) (set function n f) (set first n (get_or value y 0)) (set second n (get_or value z 0))
      (set representative n name) head' link' (set value x n) left right registers (suc n) m p (suc k)
  engine_apply x f y z name head' link' few fits look index = record {
    formed = applied_formed representative function first second registers n f (get_or value y 0) (get_or value z 0) name
        w.formed in_function in_first in_second in_all
        (let h = w.functions_few in let g = fits.1 in omega arith) (w.represents.value_below y ly) (w.represents.value_below z lz) look;
    represents = letter_apply σ function first second representative value registers n w.represents x f y z name fits look in_function in_first in_second
        (let l = w.formed.long in let h = in_all in omega arith) (let l = w.value_long in let h = (register_below x fits.0).1 in omega arith);
    indexed = index;
    sides = sides_apply σ (entry_at function) (entry_at first) (entry_at second) (entry_at representative) registers n (entry_at value) w.represents
        (entry_at left) (entry_at right) (entry_at left) (entry_at right) m w.sides x f y z;
    registers_few = w.registers_few;
    functions_few = w.functions_few;
    function_long = simp length-set w.function_long;
    first_long = simp length-set w.first_long;
    second_long = simp length-set w.second_long;
    value_long = simp length-set w.value_long;
    left_long = w.left_long;
    right_long = w.right_long;
    terms_few = let l = w.terms_few in omega arith;
    tests_few = let l = w.tests_few in omega arith;
    parts = parts_set representative left right n name p (λ q h. w.sides.left_below q (let l = w.parts_few in omega arith))
        (λ q h. w.sides.right_below q (let l = w.parts_few in omega arith)) w.parts;
    parts_few = w.parts_few;
  }
    where
      ly : y < registers
      ly = (register_below y fits.2).0

      lz : z < registers
      lz = (register_below z fits.3).0

      in_all : n < most_terms
      in_all = let l = w.terms_few in omega arith

      in_function : n < length function
      in_function = let l = w.function_long in let h = in_all in omega arith

      in_first : n < length first
      in_first = let l = w.first_long in let h = in_all in omega arith

      in_second : n < length second
      in_second = let l = w.second_long in let h = in_all in omega arith

  pub engine_equal : (x y : ℕ) (r head' link' : List ℕ) (p' : ℕ) → Fits σ.header (Equal x y)
      → Merged representative function first second registers n (get_or value x 0) (get_or value y 0) r head' link'
      → Parts r left right p' → p' ≤ p
      → Engine (after σ (Equal x y)) function first second r head' link' value left right registers n m p' (suc k)
  engine_equal x y r head' link' p' (hx, hy) g a b = record {
    formed = g.formed;
    represents = letter_equal σ function first second representative value registers n w.represents x y r head' link' (register_below x hx).0
        (register_below y hy).0 g;
    indexed = g.indexed;
    sides = record { left_below = w.sides.left_below; right_below = w.sides.right_below; listed = w.sides.listed; all = w.sides.all };
    registers_few = w.registers_few;
    functions_few = w.functions_few;
    function_long = w.function_long;
    first_long = w.first_long;
    second_long = w.second_long;
    value_long = w.value_long;
    left_long = w.left_long;
    right_long = w.right_long;
    terms_few = let l = w.terms_few in omega arith;
    tests_few = let l = w.tests_few in omega arith;
    parts = a;
    parts_few = let l = w.parts_few in omega arith;
  }

  pub engine_unequal : (x y : ℕ) → k < most_letters → Fits σ.header (Unequal x y)
      → Engine (after σ (Unequal x y)) function first second representative head link value (set left m (get_or value x 0))
      (set right m (get_or value y 0)) registers n (suc m) p (suc k)
  engine_unequal x y few (hx, hy) = record {
    formed = w.formed;
    represents = represents_unequal σ (entry_at function) (entry_at first) (entry_at second) (entry_at representative) registers n (entry_at value)
        w.represents x y lx ly;
    indexed = w.indexed;
    sides = sides_unequal σ (entry_at function) (entry_at first) (entry_at second) (entry_at representative) registers n (entry_at value) w.represents
        (entry_at left) (entry_at right) (entry_at (set left m (get_or value x 0))) (entry_at (set right m (get_or value y 0))) m w.sides
        x y lx ly (kept_below left m (get_or value x 0)) (kept_below right m (get_or value y 0))
        (put left m (get_or value x 0) (let l = w.left_long in let h = w.tests_few in omega arith))
        (put right m (get_or value y 0) (let l = w.right_long in let h = w.tests_few in omega arith));
    registers_few = w.registers_few;
    functions_few = w.functions_few;
    function_long = w.function_long;
    first_long = w.first_long;
    second_long = w.second_long;
    value_long = w.value_long;
    left_long = simp length-set w.left_long;
    right_long = simp length-set w.right_long;
    terms_few = let l = w.terms_few in omega arith;
    tests_few = let l = w.tests_few in omega arith;
    parts = parts_list representative left right m (get_or value x 0) (get_or value y 0) p w.parts_few w.parts;
    parts_few = let l = w.parts_few in omega arith;
  }
    where
      lx : x < registers
      lx = (register_below x hx).0

      ly : y < registers
      ly = (register_below y hy).0

-- ---- as `step` uses them, letter by letter
module _ (letter : Letter) (function first second representative head link value left right : List ℕ) (registers : ℕ) (counts : Counts)
    (r : Ready letter function first second representative head link value left right registers counts) where
  fits_as : {l : Letter} → letter ≡ l → Fits r.state.header l
  fits_as e = subst (Fits r.state.header) e r.fits

  in_registers : (x : ℕ) → x < r.state.header.registers → x < most_registers
  in_registers x h = (register_below r.state function first second representative head link value left right registers counts.terms counts.tests
      counts.parted r.letters r.engine x h).1

  value_in : (x : ℕ) → x < r.state.header.registers → get_or value x 0 < counts.terms
  value_in x h = r.engine.represents.value_below x
      (register_below r.state function first second representative head link value left right registers counts.terms counts.tests counts.parted
      r.letters r.engine x h).0

  pub computable : {x f y z : ℕ} → letter ≡ Apply x f y z → Computable function first second representative head link value registers counts x f y z
  computable {x} {f} {y} {z} e = let g = fits_as e in record {
    appliable = record {
      formed = r.engine.formed;
      indexed = r.engine.indexed;
      function_long = r.engine.function_long;
      first_long = r.engine.first_long;
      second_long = r.engine.second_long;
      room = let a = r.engine.terms_few in let h = r.few in omega arith;
      known = let h = r.engine.functions_few in let k = g.1 in omega arith;
      first_term = value_in y g.2;
      second_term = value_in z g.3;
    };
    target_in = in_registers x g.0;
    first_in = in_registers y g.2;
    second_in = in_registers z g.3;
  }

  pub equatable : {x y : ℕ} → letter ≡ Equal x y → Equatable function first second representative head link value registers counts x y
  equatable {x} {y} e = let g = fits_as e in record {
    formed = r.engine.formed;
    closed = r.engine.represents.closed;
    indexed = r.engine.indexed;
    first_in = in_registers x g.0;
    second_in = in_registers y g.1;
    first_term = value_in x g.0;
    second_term = value_in y g.1;
  }

  pub notable : (n : ℕ) → Notable letter (record { terms = n; tests = counts.tests; parted = counts.parted })
  unfolding Notable
  notable n = go letter refl
    where
      go : (l : Letter) → letter ≡ l → Notable l (record { terms = n; tests = counts.tests; parted = counts.parted })
      go (Copy x y) e = let g = fits_as e in (in_registers x g.0, in_registers y g.1)
      go (Unequal x y) e = let g = fits_as e in let b = r.engine.tests_few in let h = r.few in (in_registers x g.0, in_registers y g.1, omega arith)
      go (Apply x f y z) e = tt
      go (Equal x y) e = tt

module _ (letter : Letter) (function first second representative head link value left right : List ℕ) (registers : ℕ) (counts : Counts) where
  pub performed_apply : {x f y z : ℕ} (function' first' second' representative' head' link' value' : List ℕ) (counts' : Counts) → letter ≡ Apply x f y z
      → Computing function first second representative head link value registers counts x f y z function' first' second' representative' head' link' value'
      counts'
      → LetterPerformed letter function first second representative head link value left right registers counts function' first' second' representative' head'
      link' value' left right counts'
  unfolding LetterPerformed
  performed_apply {x} {f} {y} {z} function' first' second' representative' head' link' value' counts' e c σ k few fits w = let d = c.applied in
      rw (e, c.in_value, c.counted, d.in_function, d.in_first, d.in_second, d.in_representative, add-one counts.terms)
      (engine_apply σ function first second representative head link value left right registers counts.terms counts.tests counts.parted k w x f y z
      d.name head' link' few (subst (Fits σ.header) e fits) d.looked
      (rw (← d.in_function, ← d.in_first, ← d.in_second, ← d.in_representative) d.indexed))

  pub performed_equal : {x y : ℕ} (representative' head' link' : List ℕ) (counts' : Counts) → letter ≡ Equal x y
      → TermsEquated function first second representative value registers counts x y representative' head' link' counts'
      → LetterPerformed letter function first second representative head link value left right registers counts function first second representative' head'
      link' value left right counts'
  unfolding LetterPerformed
  performed_equal {x} {y} representative' head' link' counts' e c σ k few fits w =
      rw (e, c.terms, c.tests) (engine_equal σ function first second representative head link value left right registers counts.terms counts.tests
      counts.parted k w x y representative' head' link' counts'.parted
      (subst (Fits σ.header) e fits) c.merged (c.parts left right w.parts) c.parted)

  pub performed_copy : {x y : ℕ} (value' left' right' : List ℕ) (counts' : Counts) → letter ≡ Copy x y
      → Noted letter value left right counts value' left' right' counts'
      → LetterPerformed letter function first second representative head link value left right registers counts function first second representative head link
      value' left' right' counts'
  unfolding LetterPerformed Noted
  performed_copy {x} {y} value' left' right' counts' e d σ k few fits w =
      let (p, q, r, t) = subst (λ l. Noted l value left right counts value' left' right' counts') e d in
      rw (e, p, q, r, t) (engine_copy σ function first second representative head link value left right registers counts.terms counts.tests
      counts.parted k w x y (subst (Fits σ.header) e fits))

  pub performed_unequal : {x y : ℕ} (value' left' right' : List ℕ) (counts' : Counts) → letter ≡ Unequal x y
      → Noted letter value left right counts value' left' right' counts'
      → LetterPerformed letter function first second representative head link value left right registers counts function first second representative head link
      value' left' right' counts'
  unfolding LetterPerformed Noted
  performed_unequal {x} {y} value' left' right' counts' e d σ k few fits w =
      let (p, q, r, t) = subst (λ l. Noted l value left right counts value' left' right' counts') e d in
      rw (e, p, q, r, t, add-one counts.tests)
      (engine_unequal σ function first second representative head link value left right registers counts.terms counts.tests
      counts.parted k w x y few (subst (Fits σ.header) e fits))

-- ---- as `note` uses them
module _ (letter : Letter) (counts : Counts) (r : Notable letter counts) where
  pub copy_below : {x y : ℕ} → letter ≡ Copy x y → (x < most_registers) × (y < most_registers)
  unfolding Notable
  copy_below {x} {y} e = subst (λ l. Notable l counts) e r

  pub unequal_below : {x y : ℕ} → letter ≡ Unequal x y → (x < most_registers) × (y < most_registers) × (counts.tests < most_letters)
  unfolding Notable
  unequal_below {x} {y} e = subst (λ l. Notable l counts) e r

module _ (letter : Letter) (value left right : List ℕ) (counts : Counts) where
  pub noted_copy : {x y : ℕ} → letter ≡ Copy x y → Noted letter value left right counts (set value x (get_or value y 0)) left right counts
  unfolding Noted
  noted_copy {x} {y} e = rw e (refl, refl, refl, refl)

  pub noted_unequal : {x y : ℕ} → letter ≡ Unequal x y
      → Noted letter value left right counts value (set left counts.tests (get_or value x 0)) (set right counts.tests (get_or value y 0))
      (record { terms = counts.terms; tests = counts.tests + 1; parted = counts.parted })
  unfolding Noted
  noted_unequal {x} {y} e = rw e (refl, refl, refl, refl)

  pub noted_apply : {x f y z : ℕ} → letter ≡ Apply x f y z → Noted letter value left right counts value left right counts
  unfolding Noted
  noted_apply {x} {f} {y} {z} e = rw e (refl, refl, refl, refl)

  pub noted_equal : {x y : ℕ} → letter ≡ Equal x y → Noted letter value left right counts value left right counts
  unfolding Noted
  noted_equal {x} {y} e = rw e (refl, refl, refl, refl)

-- ---- as `equate` uses them
module _ (function first second representative head link value : List ℕ) (registers : ℕ) (counts : Counts) (x y : ℕ)
    (r : Equatable function first second representative head link value registers counts x y) (a b : ℕ) (ea : a ≡ get_or value x 0)
    (eb : b ≡ get_or value y 0) where
  pub equate_ready : Formed representative function first second registers counts.terms × (a < counts.terms) × (b < counts.terms)
      × Closed (entry_at function) (entry_at first) (entry_at second) registers counts.terms (entry_at representative)
      × IndexedTerms representative function first second registers counts.terms head link
  equate_ready = (
    r.formed,
    subst (λ v. v < counts.terms) (sym ea) r.first_term,
    subst (λ v. v < counts.terms) (sym eb)
        r.second_term,
    r.closed,
    r.indexed,
  )

  pub equated_same : get_or representative a 0 ≡ get_or representative b 0
      → TermsEquated function first second representative value registers counts x y representative head link counts
  equated_same e = record {
    merged = merged_same function first second registers counts.terms representative head link (get_or value x 0) (get_or value y 0) r.formed r.closed
        r.indexed
        (ap (λ v. get_or representative v 0) (sym ea) ∙ e ∙ ap (λ v. get_or representative v 0) eb);
    terms = refl;
    tests = refl;
    parted = omega arith;
    parts = λ left right p. p;
  }

  pub equated_merged : (representative' head' link' : List ℕ)
      → Merged representative function first second registers counts.terms a b representative' head' link'
      → TermsEquated function first second representative value registers counts x y representative' head' link'
      (record { terms = counts.terms; tests = counts.tests; parted = 0 })
  unfolding Parts
  equated_merged representative' head' link' m = record {
    merged = subst (λ a. Merged representative function first second registers counts.terms a (get_or value y 0) representative' head' link') ea
        (subst (λ b. Merged representative function first second registers counts.terms a b representative' head' link') eb m);
    terms = refl;
    tests = refl;
    parted = omega arith;
    parts = λ left right p q h. absurd (omega arith);
  }
