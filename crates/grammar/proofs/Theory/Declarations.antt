-- Declarations: what is read is what the text spells, and the other way round.
use mathlib.Core.Logic.{◌⊎◌, inl, inr}
use mathlib.Core.Path.{◌≡◌, refl, sym, ap, subst, ◌∙◌}
use Prim.Native.Nat.{ℕ, zero, suc, ◌+◌, ◌-◌, ◌≤◌, ◌<◌}
use native.Mathlib.Omega.{arith}
use mathlib.Core.Bool.{Bool, true, false, not, ◌&&◌, ◌||◌}
use mathlib.Core.List.{List, [], ◌∷◌, ◌++◌, append_assoc, append-nil}
use lib.Dec.{eqb, ltb}
use lib.ListN.{length, get_or, length-append, get_or-append}
use lib.Seq.{get_or-append_seam}
use borrow.Author.Tests.{eqb-true, ltb-true, ltb-false, le-ltb, eq-eqb, ne_eqb}
use Rattle.base.proofs.Theory.Choice.{by_test}
use Rattle.tokens.specs.Tokens.{token_at}
use Rattle.tokens.specs.Words.{is_name}
use Rattle.tokens.specs.Words as word
use Rattle.tokens.proofs.Theory.WordsLaws.{name_real}
use Rattle.grammar.specs.Grammar.{entry_tokens}
use Rattle.grammar.specs.Reading.{got, expect, index_of, listed_t, is_declared, register_names, arity_of, entries}
use Rattle.grammar.specs.Spelled.{Spells, Declared, Disjoint, Arities}
use Rattle.grammar.specs.Spelled as spelled
use Rattle.grammar.proofs.Theory.Sound.{index_at, onward_got, expect_sound, spells_one, spells_then, pick_case, not_refused, got_value, got_place}
use Rattle.grammar.proofs.Theory.Complete.{index_below, spells_key, spells_rest, spells_end, spells_split, expect_complete}

-- one name more
declared_more : (rs : List ℕ) (k : ℕ) → Declared rs → is_name k ≡ true → is_declared k rs ≡ false → Declared (rs ++ k ∷ [])
declared_more rs k D n f = record { names = names; once = once }
  where
    size : length (rs ++ k ∷ []) ≡ length rs + 1
    size = length-append rs (k ∷ [])

    old : (i : ℕ) → i < length rs → get_or (rs ++ k ∷ []) i 0 ≡ get_or rs i 0
    old i h = get_or-append rs (k ∷ []) 0 i h

    new : (i : ℕ) → i ≡ length rs → get_or (rs ++ k ∷ []) i 0 ≡ k
    new i h = ap (λ i. get_or (rs ++ k ∷ []) i 0) h ∙ get_or-append_seam rs k [] 0

    fresh : (i : ℕ) → i < length rs → get_or rs i 0 ≡ k → ⊥
    fresh i h e = let l = index_below k rs i h (sym e) in let g = ltb-false (index_of k rs) (length rs) f in omega arith

    names : (i : ℕ) → i < length (rs ++ k ∷ []) → is_name (get_or (rs ++ k ∷ []) i 0) ≡ true
    names i h = by_test (ltb i (length rs)) (λ t. ap is_name (old i (ltb-true _ _ t)) ∙ D.names i (ltb-true _ _ t))
        λ t. ap is_name (new i (let g = ltb-false i (length rs) t in omega (arith, size))) ∙ n

    once : (i j : ℕ) → i < length (rs ++ k ∷ []) → j < length (rs ++ k ∷ []) → get_or (rs ++ k ∷ []) i 0 ≡ get_or (rs ++ k ∷ []) j 0 → i ≡ j
    once i j h g e =
        by_test (ltb i (length rs))
        (λ t. let a = ltb-true i (length rs) t in by_test (ltb j (length rs))
        (λ u. let b = ltb-true j (length rs) u in D.once i j a b (sym (old i a) ∙ e ∙ old j b))
        λ u. let b : j ≡ length rs = (let c = ltb-false j (length rs) u in omega (arith, size)) in absurd (fresh i a (sym (old i a) ∙ e ∙ new j b)))
        λ t. let a : i ≡ length rs = (let c = ltb-false i (length rs) t in omega (arith, size)) in by_test (ltb j (length rs))
        (λ u. let b = ltb-true j (length rs) u in absurd (fresh j b (sym (old j b) ∙ sym e ∙ new i a)))
        λ u. let b = ltb-false j (length rs) u in omega (arith, size)

-- a name declared later is not known yet
unknown : (rs ks : List ℕ) (k : ℕ) → Declared (rs ++ k ∷ ks) → length rs ≤ index_of k rs
unknown rs ks k D =
    by_test (is_declared k rs)
    (λ t.
    let l = ltb-true (index_of k rs) (length rs) t in
    let size = length-append rs (k ∷ ks) in
    let e = D.once (index_of k rs) (length rs) (omega arith) (omega arith)
    (get_or-append rs (k ∷ ks) 0 (index_of k rs) l ∙ sym (index_at k rs l) ∙ sym (get_or-append_seam rs k ks 0)) in absurd (omega arith))
    λ t. ltb-false (index_of k rs) (length rs) t

module _ (s : List ℕ) where
  -- the end of a list
  listed_sound : {A : Type 0} (n at : ℕ) (a b : A) (e : ℕ) → listed_t s n a (token_at s at) ≡ got b e → (a ≡ b) × (1 ≤ n) × Spells s at (word.semicolon_key ∷ []) e
  listed_sound n at a b e h =
      pick_case (eqb (token_at s at).key word.semicolon_key && not (eqb n 0)) _ _ _ h
      (λ t g. let (x, y) = both (eqb (token_at s at).key word.semicolon_key) (eqb n 0) t in (
        got_value g,
        some n y,
        Spells.more (eqb-true (token_at s at).key word.semicolon_key x) (omega arith)
            (subst (λ m. Spells s (token_at s at).end [] m) (got_place g) spelled.Spells.none),
      ))
      λ t g. absurd (not_refused g)
    where
      both : (x y : Bool) → x && not y ≡ true → (x ≡ true) × (y ≡ false)
      both true true h = let z : ◌≡◌ {A = ℕ} 0 1 = cc in absurd (omega arith)
      both true false h = (refl, refl)
      both false y h = let z : ◌≡◌ {A = ℕ} 0 1 = cc in absurd (omega arith)

      some : (n : ℕ) → eqb n 0 ≡ false → 1 ≤ n
      some zero h = let z : ◌≡◌ {A = ℕ} 0 1 = cc in absurd (omega arith)
      some (suc n) h = omega arith

  pub registers_sound : (room : ℕ) (rs : List ℕ) (at : ℕ) (r : List ℕ) (e : ℕ) → Declared rs → register_names s room rs at ≡ got r e
      → (ks : List ℕ) × (r ≡ rs ++ ks) × Declared r × (1 ≤ length r) × (length ks ≤ room) × Spells s at (ks ++ word.semicolon_key ∷ []) e
  unfolding register_names
  registers_sound zero rs at r e D h =
      pick_case (is_name (token_at s at).key) _ _ _ h (λ t g. absurd (not_refused g))
      λ t g. let (q, n, p) = listed_sound (length rs) at rs r e g in
      ([], sym q ∙ sym (append-nil rs), subst Declared q D, subst (λ r. 1 ≤ length r) q n, omega arith, p)
  registers_sound (suc room) rs at r e D h =
      pick_case (is_name (token_at s at).key) _ _ _ h
      (λ t g. pick_case (is_declared (token_at s at).key rs) _ _ _ g (λ u f. absurd (not_refused f))
      λ u f.
      let k = (token_at s at).key in
      let (ks, q, D', n, l, p) = registers_sound room (rs ++ k ∷ []) (token_at s at).end r e (declared_more rs k D t u) f in
      (k ∷ ks, q ∙ append_assoc rs (k ∷ []) ks, D', n, omega arith, Spells.more refl (name_real k t) p))
      λ t g. let (q, n, p) = listed_sound (length rs) at rs r e g in
      ([], sym q ∙ sym (append-nil rs), subst Declared q D, subst (λ r. 1 ≤ length r) q n, omega arith, p)

  listed_complete : {A : Type 0} (n at : ℕ) (a : A) {e : ℕ} → 1 ≤ n → Spells s at (word.semicolon_key ∷ []) e → listed_t s n a (token_at s at) ≡ got a e
  listed_complete n at a h p = rw (eq-eqb (token_at s at).key word.semicolon_key (spells_key s p), ne_eqb n 0 λ z. omega arith) (ap (got a) (spells_end s p))

  -- names that are spelled are read
  pub registers_complete : (ks rs : List ℕ) (room at e : ℕ) → Declared (rs ++ ks) → 1 ≤ length (rs ++ ks) → length ks ≤ room
      → Spells s at (ks ++ word.semicolon_key ∷ []) e → register_names s room rs at ≡ got (rs ++ ks) e
  unfolding register_names
  registers_complete [] rs zero at e D n l p = rw (ap is_name (spells_key s p), append-nil rs) (listed_complete (length rs) at rs (rw append-nil at n) p)
  registers_complete [] rs (suc room) at e D n l p = rw (ap is_name (spells_key s p), append-nil rs) (listed_complete (length rs) at rs (rw append-nil at n) p)
  registers_complete (k ∷ ks) rs zero at e D n l p = absurd (omega arith)
  registers_complete (k ∷ ks) rs (suc room) at e D n l p =
      let j = spells_key s p in
      let size : length rs < length (rs ++ k ∷ ks) = omega (arith, length-append rs (k ∷ ks)) in
      let last : get_or (rs ++ k ∷ ks) (length rs) 0 ≡ k = get_or-append_seam rs k ks 0 in
      let real : is_name (token_at s at).key ≡ true = ap is_name (j ∙ sym last) ∙ D.names (length rs) size in
      let fresh : is_declared (token_at s at).key rs ≡ false = le-ltb _ _ (subst (λ x. length rs ≤ index_of x rs) (sym j) (unknown rs ks k D)) in
      let q = append_assoc rs (k ∷ []) ks in
      rw (real, fresh, j) (registers_complete ks (rs ++ k ∷ []) room (token_at s at).end e (subst Declared (sym q) D) (subst (λ r. 1 ≤ length r) (sym q) n)
      (omega arith) (spells_rest s p) ∙ ap (λ r. got r e) q)

-- ---- functions and tests

pub or_false : (a b : Bool) → a || b ≡ false → (a ≡ false) × (b ≡ false)
or_false true b h = let z : ◌≡◌ {A = ℕ} 0 1 = cc in absurd (omega arith)
or_false false b h = (refl, h)

apart_more : (rs fs : List ℕ) (k : ℕ) → Disjoint rs fs → is_declared k rs ≡ false → Disjoint rs (fs ++ k ∷ [])
unfolding Disjoint
apart_more rs fs k P f i j h g e =
    by_test (ltb j (length fs)) (λ t. let l = ltb-true j (length fs) t in P i j h l (e ∙ get_or-append fs (k ∷ []) 0 j l))
    λ t.
    let q : j ≡ length fs = (let c = ltb-false j (length fs) t in let size = length-append fs (k ∷ []) in omega arith) in
    let v : get_or (fs ++ k ∷ []) j 0 ≡ k = ap (λ i. get_or (fs ++ k ∷ []) i 0) q ∙ get_or-append_seam fs k [] 0 in
    let l = index_below k rs i h (sym (e ∙ v)) in let c = ltb-false (index_of k rs) (length rs) f in omega arith

module _ (s rs : List ℕ) where
  arity_sound : (at n e : ℕ) → arity_of s at ≡ got n e → ((n ≡ 1) ⊎ (n ≡ 2)) × Spells s at (word.slash_key ∷ (48 + n) ∷ []) e
  unfolding arity_of
  arity_sound at n e h =
      let (v, a, g₁, h₁) = onward_got (expect s word.slash_key at) _ n e h in
      let p₁ = expect_sound s word.slash_key at a v (omega arith) g₁ in
      pick_case (eqb (token_at s a).key word.one_key) _ _ _ h₁
      (λ t g. (
        inl (sym (got_value g)),
        spells_then s p₁
            (subst (λ n. Spells s a ((48 + n) ∷ []) e) (got_value g) (spells_one s a 49 e (eqb-true (token_at s a).key 49 t) (omega arith) (got_place g))),
      ))
      λ t g. pick_case (eqb (token_at s a).key word.two_key) _ _ _ g
      (λ u f. (
        inr (sym (got_value f)),
        spells_then s p₁
            (subst (λ n. Spells s a ((48 + n) ∷ []) e) (got_value f) (spells_one s a 50 e (eqb-true (token_at s a).key 50 u) (omega arith) (got_place f))),
      ))
      λ u f. absurd (not_refused f)

  -- what reading the entries of a line has to show, behind the functions up to number `first`
  abbrev Found : ℕ → ℕ → List ℕ → List ℕ → ℕ → List ℕ → List ℕ → ℕ → Type 0
  Found first room fs ns at gs ms e = (ks : List ℕ) × (ls : List ℕ) × (gs ≡ fs ++ ks) × (ms ≡ ns ++ ls) × Declared gs × Disjoint rs gs × Arities ks ls
      × (first < length gs) × (length ks ≤ room) × Spells s at (entry_tokens ks ls ++ word.semicolon_key ∷ []) e

  ended_list : (first room : ℕ) (fs ns : List ℕ) (at : ℕ) (r : List ℕ × List ℕ) (e : ℕ) → Declared fs → Disjoint rs fs
      → listed_t s (length fs - first) (fs, ns) (token_at s at) ≡ got r e → Found first room fs ns at r.0 r.1 e
  unfolding entry_tokens
  ended_list first room fs ns at r e D P g =
      let (q, n, p) = listed_sound s (length fs - first) at (fs, ns) r e g in
      subst (λ r. Found first room fs ns at r.0 r.1 e) q
      ([], [], sym (append-nil fs), sym (append-nil ns), D, P, Arities.none, omega arith, omega arith, p)

  pub entries_sound : (first room : ℕ) (fs ns : List ℕ) (at : ℕ) (r : List ℕ × List ℕ) (e : ℕ) → Declared fs → Disjoint rs fs
      → entries s rs first room fs ns at ≡ got r e → Found first room fs ns at r.0 r.1 e
  unfolding entries entry_tokens
  entries_sound first zero fs ns at r e D P h =
      pick_case (is_name (token_at s at).key) _ _ _ h (λ t g. absurd (not_refused g)) λ t g. ended_list first zero fs ns at r e D P g
  entries_sound first (suc room) fs ns at r e D P h =
      pick_case (is_name (token_at s at).key) _ _ _ h
      (λ t g. pick_case (is_declared (token_at s at).key rs || is_declared (token_at s at).key fs) _ _ _ g (λ u f. absurd (not_refused f))
      λ u f.
      let k = (token_at s at).key in
      let (x, y) = or_false (is_declared k rs) (is_declared k fs) u in
      let (n, b, g₂, h₂) = onward_got (arity_of s (token_at s at).end) _ r e f in
      let (w, p₂) = arity_sound (token_at s at).end n b g₂ in
      let (ks, ls, q, q', D', P', A, m, l, p) =
      entries_sound first room (fs ++ k ∷ []) (ns ++ n ∷ []) b r e (declared_more fs k D t y) (apart_more rs fs k P x) h₂ in (
        k ∷ ks,
        n ∷ ls,
        q ∙ append_assoc fs (k ∷ []) ks,
        q'
            ∙ append_assoc ns (n ∷ []) ls,
        D',
        P',
        arity k n ks ls w A,
        m,
        omega arith,
        Spells.more refl (name_real k t) (spells_then s p₂ p),
      ))
      λ t g. ended_list first (suc room) fs ns at r e D P g
    where
      arity : (k n : ℕ) (ks ls : List ℕ) → (n ≡ 1) ⊎ (n ≡ 2) → Arities ks ls → Arities (k ∷ ks) (n ∷ ls)
      arity k n ks ls (inl q) A = subst (λ n. Arities (k ∷ ks) (n ∷ ls)) (sym q) (Arities.one A)
      arity k n ks ls (inr q) A = subst (λ n. Arities (k ∷ ks) (n ∷ ls)) (sym q) (Arities.two A)

  -- entries that are spelled are read
  foreign : (fs ks : List ℕ) (k : ℕ) → Disjoint rs (fs ++ k ∷ ks) → is_declared k rs ≡ false
  unfolding Disjoint
  foreign fs ks k P = by_test (is_declared k rs)
      (λ t. let l = ltb-true (index_of k rs) (length rs) t in let size = length-append fs (k ∷ ks) in
      absurd (P (index_of k rs) (length fs) l (omega arith) (sym (index_at k rs l) ∙ sym (get_or-append_seam fs k ks 0))))
      λ t. t

  arity_one : {at e : ℕ} → Spells s at (word.slash_key ∷ word.one_key ∷ []) e → arity_of s at ≡ got 1 e
  unfolding arity_of
  arity_one {at} p = let (m, p₁, q) = spells_split s (word.slash_key ∷ []) p in
      rw (expect_complete s p₁, eq-eqb (token_at s m).key 49 (spells_key s q)) (ap (got 1) (spells_end s q))

  arity_two : {at e : ℕ} → Spells s at (word.slash_key ∷ word.two_key ∷ []) e → arity_of s at ≡ got 2 e
  unfolding arity_of
  arity_two {at} p =
      let (m, p₁, q) = spells_split s (word.slash_key ∷ []) p in
      rw (expect_complete s p₁, ap (λ k. eqb k 49) (spells_key s q), eq-eqb (token_at s m).key 50 (spells_key s q)) (ap (got 2) (spells_end s q))

  list_end : (first room : ℕ) (fs ns : List ℕ) (at e : ℕ) → first < length (fs ++ []) → Spells s at (word.semicolon_key ∷ []) e
      → entries s rs first room fs ns at ≡ got (fs ++ [], ns ++ []) e
  unfolding entries
  list_end first zero fs ns at e m p = let n : first < length fs = rw append-nil at m in
      rw (ap is_name (spells_key s p), append-nil fs, append-nil ns) (listed_complete s (length fs - first) at (fs, ns) (omega arith) p)
  list_end first (suc room) fs ns at e m p = let n : first < length fs = rw append-nil at m in
      rw (ap is_name (spells_key s p), append-nil fs, append-nil ns) (listed_complete s (length fs - first) at (fs, ns) (omega arith) p)

  -- one entry, and the others
  entry_complete : (first k n : ℕ) (ks ls fs ns : List ℕ) (room at b e : ℕ) → Declared (fs ++ k ∷ ks) → Disjoint rs (fs ++ k ∷ ks) → (token_at s at).key ≡ k
      → arity_of s (token_at s at).end ≡ got n b
      → entries s rs first room (fs ++ k ∷ []) (ns ++ n ∷ []) b ≡ got ((fs ++ k ∷ []) ++ ks, (ns ++ n ∷ []) ++ ls) e
      → entries s rs first (suc room) fs ns at ≡ got (fs ++ k ∷ ks, ns ++ n ∷ ls) e
  unfolding entries
  entry_complete first k n ks ls fs ns room at b e D P j g h =
      let size : length fs < length (fs ++ k ∷ ks) = omega (arith, length-append fs (k ∷ ks)) in
      let real : is_name (token_at s at).key ≡ true = ap is_name (j ∙ sym (get_or-append_seam fs k ks 0)) ∙ D.names (length fs) size in
      let far : is_declared (token_at s at).key rs ≡ false = ap (λ k. is_declared k rs) j ∙ foreign fs ks k P in
      let fresh : is_declared (token_at s at).key fs ≡ false = le-ltb _ _ (subst (λ x. length fs ≤ index_of x fs) (sym j) (unknown fs ks k D)) in
      rw (real, far, fresh, g, j) (h ∙ λ i. got (append_assoc fs (k ∷ []) ks i, append_assoc ns (n ∷ []) ls i) e)

  pub entries_complete : (first : ℕ) (ks ls : List ℕ) → Arities ks ls → (fs ns : List ℕ) (room at e : ℕ) → Declared (fs ++ ks) → Disjoint rs (fs ++ ks)
      → first < length (fs ++ ks) → length ks ≤ room → Spells s at (entry_tokens ks ls ++ word.semicolon_key ∷ []) e
      → entries s rs first room fs ns at ≡ got (fs ++ ks, ns ++ ls) e
  unfolding entry_tokens
  entries_complete first ks ls Arities.none fs ns room at e D P m l p = list_end first room fs ns at e m p
  entries_complete first ks ls (Arities.one {f} {fs = gs} {ns = ms} A) fs ns zero at e D P m l p = absurd (omega arith)
  entries_complete first ks ls (Arities.one {f} {fs = gs} {ns = ms} A) fs ns (suc room) at e D P m l p =
      let (b, p₂, p₃) = spells_split s (word.slash_key ∷ word.one_key ∷ []) (spells_rest s p) in
      let y = append_assoc fs (f ∷ []) gs in
      entry_complete first f 1 gs ms fs ns room at b e D P (spells_key s p) (arity_one p₂)
      (entries_complete first gs ms A (fs ++ f ∷ []) (ns ++ 1 ∷ []) room b e (subst Declared (sym y) D) (subst (Disjoint rs) (sym y) P)
      (subst (λ x. first < length x) (sym y) m) (omega arith) p₃)
  entries_complete first ks ls (Arities.two {f} {fs = gs} {ns = ms} A) fs ns zero at e D P m l p = absurd (omega arith)
  entries_complete first ks ls (Arities.two {f} {fs = gs} {ns = ms} A) fs ns (suc room) at e D P m l p =
      let (b, p₂, p₃) = spells_split s (word.slash_key ∷ word.two_key ∷ []) (spells_rest s p) in
      let y = append_assoc fs (f ∷ []) gs in
      entry_complete first f 2 gs ms fs ns room at b e D P (spells_key s p) (arity_two p₂)
      (entries_complete first gs ms A (fs ++ f ∷ []) (ns ++ 2 ∷ []) room b e (subst Declared (sym y) D) (subst (Disjoint rs) (sym y) P)
      (subst (λ x. first < length x) (sym y) m) (omega arith) p₃)
