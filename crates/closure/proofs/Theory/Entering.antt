-- Look-ups and entries in the index, by function and arguments.
use mathlib.Core.Path.{◌≡◌, refl, sym, ◌∙◌, ap}
use mathlib.Core.List.{List}
use Prim.Native.Nat.{ℕ, ◌≤◌, ◌<◌}
use native.Mathlib.Omega.{arith}
use lib.ListN.{length, get_or}
use Rattle.letters.specs.Editions.{most_functions}
use Rattle.closure.specs.Limits.{most_terms, signature_chains}
use Rattle.closure.specs.Index.{signature_of, ChainHas, here, there, Chains, CompleteIndex, Entered}
use Rattle.closure.proofs.Theory.Index.{signature_same}
use Rattle.closure.specs.Arrays.{Below, Formed, Argument, Readable, signature_at, LookedAt, known_at, fresh_at}

-- an index without entries
pub chains_none : (head link : List ℕ) (registers : ℕ) → length head ≡ signature_chains → length link ≡ most_terms → ((b : ℕ) → get_or head b 0 ≡ 0)
    → ((i : ℕ) → get_or link i 0 ≡ 0) → 1 ≤ registers → Chains registers head link
chains_none head link registers h l zh zl s = record {
  head_long = h;
  link_long = l;
  heads = λ b. let e = zh b in omega arith;
  links = record { lower = λ i p. let e = zl i in omega arith };
}

pub complete_none : (signature : ℕ → ℕ) (registers : ℕ) (head link : List ℕ) → ((b : ℕ) → get_or head b 0 ≡ 0) → 1 ≤ registers
    → CompleteIndex signature registers registers head link
complete_none signature registers head link z s = record {
  has = λ k p h. absurd (omega arith);
  only = λ b o k. absurd (empty (get_or head b 0) o (z b) k);
}
  where
    empty : (i o : ℕ) → i ≡ 0 → ChainHas registers link i o → ⊥
    empty i o e (here l) = omega arith
    empty i o e (there l k) = omega arith

pub argument : {representative function first second : List ℕ} {registers n : ℕ} (i : ℕ) → Formed representative function first second registers n → i < n
    → Argument representative i
unfolding Below
argument i f h = let w = f.within in let c = f.classes i h in record { below = omega arith; class = omega arith }

-- a class that was read
pub class_use : (representative : List ℕ) (a i v : ℕ) → Argument representative a → i ≡ a → v ≡ get_or representative i 0 → v < most_terms
class_use representative a i v h e g = let k : v ≡ get_or representative a 0 = g ∙ ap (λ i. get_or representative i 0) e in let l = h.class in omega arith

pub readable : {representative function first second : List ℕ} {registers n : ℕ} (i : ℕ) → Formed representative function first second registers n
    → registers ≤ i → i ≤ n → Readable representative function first second registers i
unfolding Below
readable i f p h = record {
  some = f.some;
  more = p;
  within = let w = f.within in omega arith;
  functions = λ k l. f.functions k (omega arith);
  firsts = λ k l. argument _ f (f.firsts k (omega arith));
  seconds = λ k l. argument _ f (f.seconds k (omega arith));
}

-- application i can be looked at
pub readable_at : {representative function first second : List ℕ} {registers n : ℕ} (i : ℕ) → Readable representative function first second registers n → i < n
    → (i < most_terms) × (get_or function i 0 < most_functions) × Argument representative (get_or first i 0) × Argument representative (get_or second i 0)
unfolding Below
readable_at i r h = let w = r.within in (omega arith, r.functions i h, r.firsts i h, r.seconds i h)

-- what was entered for f of a and b was looked up
module _ (representative function first second : List ℕ) (registers n : ℕ) (fm : Formed representative function first second registers n) (f a b c : ℕ)
    (hf : f < most_functions) (ha : a < n) (hb : b < n)
    (e : c ≡ signature_of f (get_or representative a 0) (get_or representative b 0)) where
  same_as : (m : ℕ) → m < n → signature_at representative function first second m ≡ c
      → (get_or function m 0 ≡ f) × (get_or representative (get_or first m 0) 0 ≡ get_or representative a 0)
      × (get_or representative (get_or second m 0) 0 ≡ get_or representative b 0)
  unfolding signature_at Below
  same_as m h q = signature_same (fm.functions m h) hf (let w = fm.within in let u = fm.classes (get_or second m 0) (fm.seconds m h) in omega arith)
      (let w = fm.within in let u = fm.classes b hb in omega arith) (q ∙ e)

  as_same : (m : ℕ) → get_or function m 0 ≡ f → get_or representative (get_or first m 0) 0 ≡ get_or representative a 0
      → get_or representative (get_or second m 0) 0 ≡ get_or representative b 0 → signature_at representative function first second m ≡ c
  unfolding signature_at
  as_same m u v w = rw (u, v, w) (sym e)

  module _ (head link : List ℕ) (r : ℕ) (head' link' : List ℕ)
      (w : Entered (signature_at representative function first second) registers n c head link r head' link') where
    pub looked_known : (name : ℕ) → r < n → name ≡ get_or representative r 0 → LookedAt representative function first second registers n f a b name
    looked_known name h q = let (u, v, z) = same_as r h (w.hit h) in known_at r w.least h u v z q

    pub looked_fresh : CompleteIndex (signature_at representative function first second) registers n head link → r ≡ n
        → LookedAt representative function first second registers n f a b n
    looked_fresh all q = fresh_at refl (λ m p h u v z. w.fresh q all m p h (as_same m u v z))
