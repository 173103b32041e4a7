-- The number of classes of a table of classes, counted anew: what it is after a register has gone to another class or to one of its own, and after two
-- classes became one.
use mathlib.Core.Path.{◌≡◌, sym, ◌∙◌, subst}
use mathlib.Core.Logic.Iff
use mathlib.Core.Logic.{◌⊎◌, inl, inr, ◌↔◌, ◌≢◌, ⊎_elim}
use mathlib.Core.List.{List}
use Prim.Native.Nat.{ℕ, suc, ◌^◌, ◌≤◌, ◌<◌}
use native.Mathlib.Omega.{arith}
use lib.Dec.{T}
use lib.ListN.{get_or}
use Rattle.base.specs.Masks.{has}
use Rattle.base.specs.LeastAndSize.{least_in, size_of}
use Rattle.base.proofs.Theory.MaskLaws.{least-in, least_below}
use Rattle.window.specs.Bits.{minus}
use Rattle.window.specs.Naming.{naming_registers}
use Rattle.window.specs.Counting.{counted_classes}
use Rattle.window.proofs.Theory.Bits.{truth, no_truth, less_or, eq_or, minus_is, single_is}
use Rattle.window.proofs.Theory.Naming.{names_is}
use Rattle.window.proofs.Theory.Size.{alone, other}
use Rattle.window.proofs.Theory.Sizes.{size_same, size_one_more}

-- registers r and s are in one class
abbrev pub Together : List ℕ → ℕ → ℕ → Type 0
Together l r s = T (has (get_or l r 0) s)

module _ (ρ : ℕ) where
  -- the table's classes are classes of n registers
  pub record Partition (n : ℕ) (l : List ℕ) : Type 0 where
    pub fits : n ≤ ρ
    pub within : (r s : ℕ) → r < ρ → s < ρ → Together l r s → (r < n) × (s < n)
    pub self : (r : ℕ) → r < n → Together l r r
    pub turned : (r s : ℕ) → r < n → s < n → Together l r s → Together l s r
    pub joined : (r s q : ℕ) → r < n → s < n → q < n → Together l r s → Together l s q → Together l r q

  module _ {n : ℕ} {l : List ℕ} (p : Partition n l) where
    abbrev names : ℕ
    names = naming_registers ρ l

    up : (r : ℕ) → r < n → r < ρ
    up r b = omega (arith, p.fits)

    -- the name of a class is in it, below the register, and no lower register is in it
    pub name_of : (r : ℕ) → r < n
        → (least_in ρ (get_or l r 0) ≤ r) × Together l r (least_in ρ (get_or l r 0)) × ((s : ℕ) → s < least_in ρ (get_or l r 0) → ¬ Together l r s)
    name_of r b =
        let none : (s : ℕ) → s < least_in ρ (get_or l r 0) → ¬ Together l r s = (λ s h. no_truth (has (get_or l r 0) s) (least_below ρ (get_or l r 0) s h)) in
        let low : least_in ρ (get_or l r 0) ≤ r = ⊎_elim (λ h. absurd (none r h (p.self r b))) (λ h. h) (less_or r (least_in ρ (get_or l r 0))) in
        let u = up r b in
        (low, truth (has (get_or l r 0) (least_in ρ (get_or l r 0))) (least-in ρ (get_or l r 0) (omega arith)), none)

    -- the registers that no lower one is in a class with
    pub named_is : (a : ℕ) → T (has names a) ↔ ((a < n) × ((s : ℕ) → s < a → ¬ Together l a s))
    named_is a = (
      (λ t. let (b, e) = (names_is ρ l a).0 t in
          let own = truth (has (get_or l a 0) (least_in ρ (get_or l a 0))) (least-in ρ (get_or l a 0) (omega arith)) in
          let (d, _) = p.within a a b b (subst (λ k. Together l a k) e own) in
          (d, λ s h. (name_of a d).2 s (omega arith))),
      (λ (b, f). let (low, t, _) = name_of a b in let u = up a b in
          (names_is ρ l a).1 (u, ⊎_elim (λ h. absurd (f (least_in ρ (get_or l a 0)) h t)) (λ h. omega arith) (less_or (least_in ρ (get_or l a 0)) a))),
    )

  -- tables that say the same have as many classes
  pub counted_same : {n : ℕ} {l m : List ℕ} → Partition n l → Partition n m → ((r s : ℕ) → r < n → s < n → Together l r s ↔ Together m r s)
      → counted_classes ρ l ≡ counted_classes ρ m
  unfolding counted_classes
  counted_same {n} {l} {m} p q f = size_same ρ (naming_registers ρ l) (naming_registers ρ m) (λ j _. Iff.trans (named_is p j) (Iff.trans (
    (λ (b, g). (b, λ s h k. g s h ((f j s b (omega arith)).1 k))),
    (λ (b, g). (b, λ s h k. g s h ((f j s b (omega arith)).0 k))),
  ) (Iff.symm (named_is q j))))

  -- ---- a register that is alone joins a class

  module _ {n : ℕ} {l m : List ℕ} (p : Partition n l) (q : Partition n m) (x c : ℕ) (xb : x < n) (cb : c < n) (cx : c ≢ x)
      (lone : (s : ℕ) → s < n → Together l x s → s ≡ x) (others : (r s : ℕ) → r < n → s < n → r ≢ x → s ≢ x → Together l r s ↔ Together m r s)
      (into : Together m x c) (lowest : (s : ℕ) → s < c → s ≢ x → ¬ Together m x s) where
    -- in l nothing else is with x
    lone' : (r : ℕ) → r < n → r ≢ x → ¬ Together l r x
    lone' r b d t = d (lone r b (p.turned r x b xb t))

    -- what names a class in m names one in l
    back : (r : ℕ) → r < n → r ≢ x → ((s : ℕ) → s < r → ¬ Together m r s) → (s : ℕ) → s < r → ¬ Together l r s
    back r b d f s h t = ⊎_elim (λ e. lone' r b d (subst (λ k. Together l r k) e t)) (λ e. f s h ((others r s b (omega arith) d e).0 t)) (eq_or s x)

    -- and what names one in l, names one in m, unless it is with x and x or c is lower
    forth : (r : ℕ) → r < n → r ≢ x → r ≢ c → ((s : ℕ) → s < r → ¬ Together l r s) → (s : ℕ) → s < r → ¬ Together m r s
    forth r b d e f s h t = ⊎_elim
        (λ g. let rx = subst (λ k. Together m r k) g t in
        let rc = q.joined r x c b xb cb rx into in
        ⊎_elim (λ k. f c k ((others r c b cb d cx).1 rc))
        (λ k. lowest r (omega arith) d (q.turned r x b xb rx)) (less_or c r))
        (λ g. f s h ((others r s b (omega arith) d g).1 t))
        (eq_or s x)

    -- c is the lowest of its class in l
    first : (s : ℕ) → s < c → ¬ Together l c s
    first s h t = ⊎_elim (λ e. lone' c cb cx (subst (λ k. Together l c k) e t))
        (λ e. lowest s h e (q.joined x c s xb cb (omega arith) into ((others c s cb (omega arith) cx e).0 t)))
        (eq_or s x)

    pub counted_joins : counted_classes ρ l ≡ suc (counted_classes ρ m)
    unfolding counted_classes
    counted_joins = ⊎_elim
        -- x is no name in m
        (λ h. size_one_more ρ M L x
        (λ j _ d. (
          (λ t. let (b, f) = (named_is q j).0 t in (named_is p j).1 (b, back j b d f)),
          (λ t. let (b, f) = (named_is p j).0 t in (named_is q j).1 (
            b,
            ⊎_elim
                (λ e s k u. ⊎_elim (λ g. absurd (omega arith))
                (λ g. f s k ((others j s b (omega arith) d g).1 u)) (eq_or s x))
                (λ e. forth j b d e f) (eq_or j c),
          )),
        ))
        (omega (arith, p.fits)) (λ t. let (_, f) = (named_is q x).0 t in f c h into)
        ((named_is p x).1 (xb, λ s k t. let e = lone s (omega arith) t in omega arith)))
        -- c is no name in m
        (λ h. size_one_more ρ M L c
        (λ j _ d. (
          (λ t. let (b, f) = (named_is q j).0 t in (named_is p j).1
              (b, ⊎_elim (λ e s k u. let g = lone s (omega arith) (subst (λ z. Together l z s) e u) in omega arith) (λ e. back j b e f) (eq_or j x))),
          (λ t. let (b, f) = (named_is p j).0 t in (named_is q j).1
              (b, ⊎_elim (λ e s k u. lowest s (omega arith) (λ g. omega arith) (subst (λ z. Together m z s) e u)) (λ e. forth j b e d f) (eq_or j x))),
        ))
        (omega (arith, p.fits)) (λ t. let (_, f) = (named_is q c).0 t in f x (omega arith) (q.turned x c xb cb into))
        ((named_is p c).1 (cb, first)))
        (less_or c x)
      where
        L : ℕ
        L = naming_registers ρ l

        M : ℕ
        M = naming_registers ρ m

  module _ {n : ℕ} {l m : List ℕ} (p : Partition n l) (q : Partition n m) (x : ℕ) (xb : x < n)
      (others : (r s : ℕ) → r < n → s < n → r ≢ x → s ≢ x → Together l r s ↔ Together m r s) where
    -- x is alone in l, and not in m
    pub counted_left : size_of ρ (get_or l x 0) ≡ 1 → size_of ρ (get_or m x 0) ≢ 1 → counted_classes ρ l ≡ suc (counted_classes ρ m)
    counted_left one many =
        let u : x < ρ = omega (arith, p.fits) in
        let rest = minus (get_or m x 0) (2 ^ x) in
        let (j, jb, d, t) = other ρ (get_or m x 0) x u (q.self x xb) many in
        let in_rest = (minus_is (get_or m x 0) (2 ^ x) j).1 (t, λ k. d ((single_is x j).0 k)) in
        let some : least_in ρ rest < ρ = ⊎_elim (λ h. h)
        (λ h. absurd (no_truth (has rest j) (least_below ρ rest j (omega arith)) in_rest)) (less_or (least_in ρ rest) ρ) in
        let (inm, notx) = (minus_is (get_or m x 0) (2 ^ x) (least_in ρ rest)).0 (truth (has rest (least_in ρ rest)) (least-in ρ rest some)) in
        counted_joins p q x (least_in ρ rest) xb (q.within x (least_in ρ rest) u some inm).1
        (λ e. notx ((single_is x (least_in ρ rest)).1 e))
        (λ s sb t'. alone ρ (get_or l x 0) x u (p.self x xb) one s (omega (arith, p.fits)) t') others inm
        (λ s h e t'. no_truth (has rest s) (least_below ρ rest s h) ((minus_is (get_or m x 0) (2 ^ x) s).1 (t', λ k. e ((single_is x s).0 k))))

    -- x is alone in both
    pub counted_stays : size_of ρ (get_or l x 0) ≡ 1 → size_of ρ (get_or m x 0) ≡ 1 → counted_classes ρ l ≡ counted_classes ρ m
    counted_stays one one' = counted_same p q same
      where
        u : x < ρ
        u = omega (arith, p.fits)

        -- with x there is x alone, in both
        with_x : (r s : ℕ) → r < n → s < n → (r ≡ x) ⊎ (s ≡ x) → (Together l r s ↔ (r ≡ s)) × (Together m r s ↔ (r ≡ s))
        with_x r s rb sb (inl e) = (
          (
            (λ t. e ∙ sym (alone ρ (get_or l x 0) x u (p.self x xb) one s (omega (arith, p.fits)) (subst (λ z. Together l z s) e t))),
            (λ h. subst (λ z. Together l r z) h (p.self r rb)),
          ),
          (
            (λ t. e ∙ sym (alone ρ (get_or m x 0) x u (q.self x xb) one' s (omega (arith, p.fits)) (subst (λ z. Together m z s) e t))),
            (λ h. subst (λ z. Together m r z) h (q.self r rb)),
          ),
        )
        with_x r s rb sb (inr e) = (
          (
            (λ t. alone ρ (get_or l x 0) x u (p.self x xb) one r (omega (arith, p.fits)) (p.turned r x rb xb (subst (λ z. Together l r z) e t)) ∙ sym e),
            (λ h. subst (λ z. Together l r z) h (p.self r rb)),
          ),
          (
            (λ t. alone ρ (get_or m x 0) x u (q.self x xb) one' r (omega (arith, p.fits)) (q.turned r x rb xb (subst (λ z. Together m r z) e t)) ∙ sym e),
            (λ h. subst (λ z. Together m r z) h (q.self r rb)),
          ),
        )

        same : (r s : ℕ) → r < n → s < n → Together l r s ↔ Together m r s
        same r s rb sb = ⊎_elim
            (λ e. let (a, b) = with_x r s rb sb (inl e) in Iff.trans a (Iff.symm b))
            (λ d. ⊎_elim (λ e. let (a, b) = with_x r s rb sb (inr e) in Iff.trans a (Iff.symm b)) (λ e. others r s rb sb d e) (eq_or s x))
            (eq_or r x)

  -- ---- two classes become one

  module _ {n : ℕ} {l m : List ℕ} (p : Partition n l) (q : Partition n m) where
    -- the class of b has the greater name
    named_later : (a b : ℕ) → a < n → b < n
        → ((r s : ℕ) → r < n → s < n → Together m r s ↔ (Together l r s ⊎ ((Together l a r ⊎ Together l b r) × (Together l a s ⊎ Together l b s))))
        → least_in ρ (get_or l a 0) < least_in ρ (get_or l b 0) → counted_classes ρ l ≡ suc (counted_classes ρ m)
    unfolding counted_classes
    named_later a b ab bb merged h =
        let (cl, ct, cn) = name_of p a ab in
        let (dl, dt, dn) = name_of p b bb in
        let cb : least_in ρ (get_or l a 0) < n = omega arith in
        let db : least_in ρ (get_or l b 0) < n = omega arith in
        size_one_more ρ (naming_registers ρ m) (naming_registers ρ l) (least_in ρ (get_or l b 0))
        (λ j _ k. (
          (λ t. let (jb, f) = (named_is q j).0 t in (named_is p j).1 (jb, λ s g u. f s g ((merged j s jb (omega arith)).1 (inl u)))),
          (λ t. let (jb, f) = (named_is p j).0 t in (named_is q j).1 (
            jb,
            λ s g u. let sb : s < n = omega arith in ⊎_elim (f s g)
                (λ (i, i'). ⊎_elim
                (λ aj. let e : least_in ρ (get_or l a 0) ≡ j = lowest_is a j ab jb f aj in
                ⊎_elim (cn s (omega arith)) (dn s (omega arith)) i')
                (λ bj. k (sym (lowest_is b j bb jb f bj))) i)
                ((merged j s jb sb).0 u),
          )),
        ))
        (omega (arith, p.fits))
        (λ t. let (_, f) = (named_is q (least_in ρ (get_or l b 0))).0 t in
        f (least_in ρ (get_or l a 0)) h ((merged (least_in ρ (get_or l b 0)) (least_in ρ (get_or l a 0)) db cb).1 (inr (inr dt, inl ct))))
        ((named_is p (least_in ρ (get_or l b 0))).1
        (db, λ s g t. dn s g (p.joined b (least_in ρ (get_or l b 0)) s bb db (omega arith) dt t)))
      where
        -- a name in the class of a is its name
        lowest_is : (a j : ℕ) → a < n → j < n → ((s : ℕ) → s < j → ¬ Together l j s) → Together l a j → least_in ρ (get_or l a 0) ≡ j
        lowest_is a j ab jb f t =
            let (cl, ct, cn) = name_of p a ab in
            ⊎_elim
            (λ g. absurd (f (least_in ρ (get_or l a 0)) g (p.joined j a (least_in ρ (get_or l a 0)) jb ab (omega arith) (p.turned a j ab jb t) ct)))
            (λ g. ⊎_elim (λ k. absurd (cn j k t)) (λ k. omega arith) (less_or j (least_in ρ (get_or l a 0))))
            (less_or (least_in ρ (get_or l a 0)) j)

    pub counted_merged : (a b : ℕ) → a < n → b < n → ¬ Together l a b
        → ((r s : ℕ) → r < n → s < n → Together m r s ↔ (Together l r s ⊎ ((Together l a r ⊎ Together l b r) × (Together l a s ⊎ Together l b s))))
        → counted_classes ρ l ≡ suc (counted_classes ρ m)
    counted_merged a b ab bb d merged = ⊎_elim (named_later a b ab bb merged)
        (λ g. ⊎_elim (named_later b a bb ab (λ r s rb sb. Iff.trans (merged r s rb sb) (swap r s)))
        (λ h. absurd (one_class (omega arith))) (less_or (least_in ρ (get_or l b 0)) (least_in ρ (get_or l a 0))))
        (less_or (least_in ρ (get_or l a 0)) (least_in ρ (get_or l b 0)))
      where
        turn : {A B : Type 0} → A ⊎ B → B ⊎ A
        turn (inl t) = inr t
        turn (inr t) = inl t

        swap : (r s : ℕ) → (Together l r s ⊎ ((Together l a r ⊎ Together l b r) × (Together l a s ⊎ Together l b s)))
            ↔ (Together l r s ⊎ ((Together l b r ⊎ Together l a r) × (Together l b s ⊎ Together l a s)))
        swap r s = (
          (λ k. ⊎_elim inl (λ (i, j). inr (turn i, turn j)) k),
          (λ k. ⊎_elim inl (λ (i, j). inr (turn i, turn j)) k),
        )

        -- classes with one name are one
        one_class : least_in ρ (get_or l a 0) ≡ least_in ρ (get_or l b 0) → ⊥
        one_class e =
            let (cl, ct, _) = name_of p a ab in
            let (dl, dt, _) = name_of p b bb in
            let db : least_in ρ (get_or l b 0) < n = omega arith in
            d (p.joined a (least_in ρ (get_or l b 0)) b ab db bb (subst (λ k. Together l a k) e ct) (p.turned b (least_in ρ (get_or l b 0)) bb db dt))
