-- Functions and the tests behind them: what is declared, in its two parts.
use mathlib.Core.Path.{◌≡◌, refl, sym, ap, subst, ◌∙◌}
use Prim.Native.Nat.{ℕ, zero, suc, ◌<◌}
use native.Mathlib.Omega.{arith}
use mathlib.Core.Bool.{true}
use mathlib.Core.List.{List, ◌++◌}
use lib.ListN.{length, get_or, take, drop, length-append, get_or-append}
use lib.Seq.{take-append_seam, drop-append_seam}
use Rattle.tokens.specs.Words.{is_name}
use Rattle.tokens.specs.Words as word
use Rattle.grammar.specs.Grammar.{line_tokens, declaration_tokens}
use Rattle.grammar.specs.Spelled.{Declared, Disjoint, Arities}

pub arities_length : {fs ns : List ℕ} → Arities fs ns → length ns ≡ length fs
arities_length Arities.none = refl
arities_length (Arities.one A) = ap suc (arities_length A)
arities_length (Arities.two A) = ap suc (arities_length A)

-- one part behind the other
pub arities_then : {fs ns ks ls : List ℕ} → Arities fs ns → Arities ks ls → Arities (fs ++ ks) (ns ++ ls)
arities_then Arities.none B = B
arities_then (Arities.one A) B = Arities.one (arities_then A B)
arities_then (Arities.two A) B = Arities.two (arities_then A B)

-- the first t, and those behind them
pub arities_take : (t : ℕ) {fs ns : List ℕ} → Arities fs ns → Arities (take t fs) (take t ns)
arities_take zero A = Arities.none
arities_take (suc t) Arities.none = Arities.none
arities_take (suc t) (Arities.one A) = Arities.one (arities_take t A)
arities_take (suc t) (Arities.two A) = Arities.two (arities_take t A)

pub arities_drop : (t : ℕ) {fs ns : List ℕ} → Arities fs ns → Arities (drop t fs) (drop t ns)
arities_drop zero A = A
arities_drop (suc t) Arities.none = Arities.none
arities_drop (suc t) (Arities.one A) = arities_drop t A
arities_drop (suc t) (Arities.two A) = arities_drop t A

pub declared_front : (xs ys : List ℕ) → Declared (xs ++ ys) → Declared xs
declared_front xs ys D =
    let size = length-append xs ys in record {
      names = λ i h. subst (λ k. is_name k ≡ true) (same i h) (D.names i (omega arith));
      once = λ i j h g e. D.once i j (omega arith) (omega arith) (same i h ∙ e ∙ sym (same j g));
    }
  where
    same : (i : ℕ) → i < length xs → get_or (xs ++ ys) i 0 ≡ get_or xs i 0
    same i h = get_or-append xs ys 0 i h

pub apart_front : (rs xs ys : List ℕ) → Disjoint rs (xs ++ ys) → Disjoint rs xs
unfolding Disjoint
apart_front rs xs ys P i j h g e = let size = length-append xs ys in P i j h (omega arith) (e ∙ sym (get_or-append xs ys 0 j g))

-- the tokens that declare functions, and tests behind them
pub declared_lines : (fs ns ks ls : List ℕ) → length ns ≡ length fs
    → declaration_tokens (fs ++ ks) (ns ++ ls) (length fs) ≡ line_tokens word.funs_key fs ns ++ line_tokens word.tests_key ks ls
declared_lines fs ns ks ls q =
    let a : take (length fs) (ns ++ ls) ≡ ns = subst (λ n. take n (ns ++ ls) ≡ ns) q (take-append_seam ns ls) in
    let b : drop (length fs) (ns ++ ls) ≡ ls = subst (λ n. drop n (ns ++ ls) ≡ ls) q (drop-append_seam ns ls) in
    rw (take-append_seam fs ks, drop-append_seam fs ks, a, b)
