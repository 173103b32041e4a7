-- What the functions on arrays ensure. `representative` gives each term's class the lowest number of a term in it as its name;
-- `function`, `first` and `second` are the function and the arguments of each application; there are n terms, the registers' constants before the applications.
use Rattle.std.specs.Prelude.{◌≡◌, ◌⊎◌, ◌≢◌, List, ℕ, zero, suc, ◌+◌, ◌≤◌, ◌<◌, min, max, Bool, true, false, eqb, length, get_or}
use Rattle.letters.specs.Editions.{most_functions}
use Rattle.base.specs.Choice.{pick}
use Rattle.base.specs.Each.{each_up_to}
use Rattle.closure.specs.Limits.{most_terms}
use Rattle.closure.specs.Numbering.{Closed}
use Rattle.closure.specs.Merging.{Propagating, Entailed, relabel_of}
use Rattle.closure.specs.Index.{signature_of, ChainHas, Chains, CompleteIndex}

abbrev pub entry_at : List ℕ → ℕ → ℕ
entry_at l i = get_or l i 0

-- the first n entries lie below b
unfoldable pub Below : ℕ → ℕ → List ℕ → Type 0
Below b n l = (i : ℕ) → i < n → get_or l i 0 < b

-- How much is taken off the name v, where the name `from` falls by so much.
unfoldable pub fall_of : (v from by : ℕ) → ℕ
fall_of v from by = pick (eqb v from) (λ _. by) λ _. 0

-- No term's class is named by a later term.
pub record Named (representative : List ℕ) (n : ℕ) : Type 0 where
  pub lowest : (i : ℕ) → i < n → get_or representative i 0 ≤ i

-- The arrays' numbers are in range, and a representative is the lowest number of its class.
pub record Formed (representative function first second : List ℕ) (registers n : ℕ) : Type 0 where
  pub some : 1 ≤ registers
  pub more : registers ≤ n
  pub within : n ≤ most_terms
  pub long : length representative ≡ most_terms
  pub classes : Below n n representative
  pub lowest : (i : ℕ) → i < n → get_or representative i 0 ≤ i
  pub own : (i : ℕ) → i < n → get_or representative (get_or representative i 0) 0 ≡ get_or representative i 0
  pub functions : Below most_functions n function
  pub firsts : Below n n first
  pub seconds : Below n n second
  pub first_before : (i : ℕ) → i < n → get_or first i 0 ≤ i
  pub second_before : (i : ℕ) → i < n → get_or second i 0 ≤ i

-- The signature of application i.
unfoldable pub signature_at : (representative function first second : List ℕ) → ℕ → ℕ
signature_at representative function first second i =
    signature_of (get_or function i 0) (get_or representative (get_or first i 0) 0) (get_or representative (get_or second i 0) 0)

-- The index has the signatures of the n terms.
pub record IndexedTerms (representative function first second : List ℕ) (registers n : ℕ) (head link : List ℕ) : Type 0 where
  pub chains : Chains n head link
  pub complete : CompleteIndex (signature_at representative function first second) registers n head link

-- A term that has a class.
pub record Argument (representative : List ℕ) (i : ℕ) : Type 0 where
  pub below : i < most_terms
  pub class : get_or representative i 0 < most_terms

-- What a look-up asks of the first n terms.
pub record Readable (representative function first second : List ℕ) (registers n : ℕ) : Type 0 where
  pub some : 1 ≤ registers
  pub more : registers ≤ n
  pub within : n ≤ most_terms
  pub functions : Below most_functions n function
  pub firsts : (i : ℕ) → i < n → Argument representative (get_or first i 0)
  pub seconds : (i : ℕ) → i < n → Argument representative (get_or second i 0)

-- The entries below k, added up.
unfoldable pub sum_below : ℕ → List ℕ → ℕ
sum_below zero l = 0
sum_below (suc k) l = get_or l k 0 + sum_below k l

-- The representative `to` in place of `from`, in the first n entries.
unfoldable pub relabelled : (from to n : ℕ) → List ℕ → List ℕ
relabelled from to n l = each_up_to (λ _ v. relabel_of from to v) n l

-- The classes of i and j made one: the lower representative in place of the higher.
unfoldable pub classes_united : (n i j : ℕ) → List ℕ → List ℕ
classes_united n i j l = relabelled (max (get_or l i 0) (get_or l j 0)) (min (get_or l i 0) (get_or l j 0)) n l

-- Arguments are not after their terms, and a class has its lowest term as its name.
pub record Lowest (representative first second : List ℕ) (n : ℕ) : Type 0 where
  pub within : n ≤ most_terms
  pub firsts : (i : ℕ) → i < n → (get_or first i 0 ≤ i) × (get_or representative (get_or first i 0) 0 ≤ get_or first i 0)
  pub seconds : (i : ℕ) → i < n → (get_or second i 0 ≤ i) × (get_or representative (get_or second i 0) 0 ≤ get_or second i 0)

-- Whether one of the first n terms has an argument of the class d.
pub data UsedAsArgument (representative first second : List ℕ) (n d : ℕ) : Bool → Type 0 where
  used : (k : ℕ) → k < n → (get_or representative (get_or first k 0) 0 ≡ d) ⊎ (get_or representative (get_or second k 0) 0 ≡ d)
      → UsedAsArgument representative first second n d true
  unused : ((k : ℕ) → k < n → (get_or representative (get_or first k 0) 0 ≢ d) × (get_or representative (get_or second k 0) 0 ≢ d))
      → UsedAsArgument representative first second n d false

-- Some unions of congruent applications, from `representative` to r.
pub record CongruentUnions (representative function first second : List ℕ) (registers n : ℕ) (r : List ℕ) : Type 0 where
  pub formed : Formed r function first second registers n
  pub keeps : (i j : ℕ) → i < n → j < n → get_or representative i 0 ≡ get_or representative j 0 → get_or r i 0 ≡ get_or r j 0
  pub beyond : (k : ℕ) → n ≤ k → get_or r k 0 ≡ get_or representative k 0
  pub propagates : (old : ℕ → ℕ) (x y : ℕ) → Propagating (entry_at function) (entry_at first) (entry_at second) registers n old x y (entry_at representative)
      → Propagating (entry_at function) (entry_at first) (entry_at second) registers n old x y (entry_at r)
  pub shrinks : sum_below n r ≤ sum_below n representative

-- While congruences are propagated: of the applications below i, the classes are closed and the index has the signatures.
pub record Underway (representative function first second : List ℕ) (registers n : ℕ) (r head link : List ℕ) (i : ℕ) : Type 0 where
  pub least : registers ≤ i
  pub most : i ≤ n
  pub joined : CongruentUnions representative function first second registers n r
  pub chains : Chains i head link
  pub closed : Closed (entry_at function) (entry_at first) (entry_at second) registers i (entry_at r)
  pub complete : CompleteIndex (signature_at r function first second) registers i head link

-- The classes are closed.
pub record Propagated (representative function first second : List ℕ) (registers n : ℕ) (r head link : List ℕ) : Type 0 where
  pub joined : CongruentUnions representative function first second registers n r
  pub closed : Closed (entry_at function) (entry_at first) (entry_at second) registers n (entry_at r)
  pub indexed : IndexedTerms r function first second registers n head link

-- Before a union in which the name d goes: r is the first application, not above i, whose signature may change, and the index is cut to those before it.
pub record Resumed (registers i d : ℕ) (head link : List ℕ) (r : ℕ) (head' : List ℕ) : Type 0 where
  pub least : registers ≤ r
  pub most : r ≤ i
  pub before : (k : ℕ) → registers ≤ k → k < r → k < d
  pub chains : Chains r head' link
  pub keeps : (b o : ℕ) → ChainHas registers link (get_or head b 0) o → o < r → ChainHas registers link (get_or head' b 0) o
  pub back : (b o : ℕ) → ChainHas registers link (get_or head' b 0) o → ChainHas registers link (get_or head b 0) o

-- The classes of x and y are one, with all that follows by congruence and nothing else; entries past the n terms stay.
pub record Merged (representative function first second : List ℕ) (registers n x y : ℕ) (r head link : List ℕ) : Type 0 where
  pub formed : Formed r function first second registers n
  pub sound : (i j : ℕ) → i < n → j < n → get_or r i 0 ≡ get_or r j 0
      → Entailed (entry_at function) (entry_at first) (entry_at second) registers n (entry_at representative) x y i j
  pub keeps : (i j : ℕ) → i < n → j < n → get_or representative i 0 ≡ get_or representative j 0 → get_or r i 0 ≡ get_or r j 0
  pub joins : get_or r x 0 ≡ get_or r y 0
  pub closed : Closed (entry_at function) (entry_at first) (entry_at second) registers n (entry_at r)
  pub beyond : (k : ℕ) → n ≤ k → get_or r k 0 ≡ get_or representative k 0
  pub indexed : IndexedTerms r function first second registers n head link

-- r is the class of f of the terms a and b: that of an application with this signature (all of them are in one class), or n where there is none.
pub data LookedAt (representative function first second : List ℕ) (registers n f a b r : ℕ) : Type 0 where
  known_at : (m : ℕ) → registers ≤ m → m < n → get_or function m 0 ≡ f → get_or representative (get_or first m 0) 0 ≡ get_or representative a 0
      → get_or representative (get_or second m 0) 0 ≡ get_or representative b 0
      → r ≡ get_or representative m 0 → LookedAt representative function first second registers n f a b r
  fresh_at : r ≡ n → ((m : ℕ) → registers ≤ m → m < n → get_or function m 0 ≡ f → get_or representative (get_or first m 0) 0 ≡ get_or representative a 0
      → get_or representative (get_or second m 0) 0 ≡ get_or representative b 0 → ⊥)
      → LookedAt representative function first second registers n f a b r

-- The sides of the first i unequal tests are in different classes.
unfoldable pub Parts : (representative left right : List ℕ) (i : ℕ) → Type 0
Parts representative left right i = (q : ℕ) → q < i → get_or representative (get_or left q 0) 0 ≢ get_or representative (get_or right q 0) 0

pub data Clashes (representative left right : List ℕ) (m : ℕ) : Bool → Type 0 where
  clashes : (q : ℕ) → q < m → get_or representative (get_or left q 0) 0 ≡ get_or representative (get_or right q 0) 0 → Clashes representative left right m true
  parts : ((q : ℕ) → q < m → get_or representative (get_or left q 0) 0 ≢ get_or representative (get_or right q 0) 0) → Clashes representative left right m false
