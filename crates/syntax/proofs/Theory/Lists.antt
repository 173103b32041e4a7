-- What follows from the definitions of specs/Lists.antt.
use mathlib.Core.Path.{◌≡◌, refl, sym, ap, ◌∙◌, subst}
use Prim.Native.Nat.{ℕ, zero, suc, ◌+◌, ◌-◌, ◌≤◌, ◌<◌}
use native.Mathlib.Omega.{arith}
use mathlib.Core.Bool.{Bool, true, false, not, ◌&&◌, ◌||◌}
use mathlib.Core.List.{List, [], ◌∷◌, ◌++◌, append_assoc}
use lib.Dec.{eqb, ltb}
use lib.ListN.{length, take, set, replicate, length-append}
use lib.Seq.{set-append_seam}
use borrow.Author.Tests.{eq-eqb, ne_eqb, eqb-true, eqb-false, ltb-true, ltb-false, lt-ltb, le-ltb}
use Rattle.base.proofs.Theory.Choice.{by_test}
use Rattle.letters.specs.Editions.{most_functions, most_registers}
use Rattle.letters.specs.MacroRefusalNumbers.{declaration_wrong, no_room_for_tests}
use Rattle.grammar.specs.Limits.{hidden_registers}
use Rattle.tokens.specs.Tokens.{token_at}
use Rattle.tokens.specs.declared.Token.{Token}
use Rattle.tokens.specs.Words.{is_name}
use Rattle.tokens.specs.Words as word
use Rattle.grammar.specs.Reading.{Got, got, and_then, is_declared, listed_t, expect, arity_t, arity_of}
use Rattle.grammar.specs.Reading.{register_names, entries, line_from, functions_t, tests_t}
use Rattle.grammar.proofs.Theory.Sound.{onward_got, pick_case, not_refused, got_value}
use Rattle.std.proofs.Common.{Result, Ok, Err}
use Rattle.std.specs.Result.{IsErr, IsErrAnd}
use Rattle.letters.specs.declared.reasons.Refused.{Refused}
use Rattle.phrases.specs.Codes.{plain, without_value, read_as, refused_as}
use Rattle.phrases.proofs.Theory.Answers.{passed_on, plain_on, place_on}
use Rattle.syntax.specs.Answer.{padded, held_registers, held_functions}
use Rattle.syntax.specs.declared.Registers.{Registers}
use Rattle.syntax.specs.declared.Functions.{Functions}
use Rattle.syntax.specs.Lists.{NamesPadded}

-- the array is long enough
pub kept_within : (n : ℕ) (names : List ℕ) (count : ℕ) → NamesPadded n names count → count ≤ length names
kept_within n names count K =
    let a = K.size in let b = ap length K.pad in let c = length-append (take count names) (replicate (n - length (take count names)) 0) in omega arith

-- ---- one entry more

take_none : (l : List ℕ) → take 0 l ≡ []
take_none [] = refl
take_none (x ∷ l) = refl

take_all : (l m : List ℕ) → take (length l) (l ++ m) ≡ l
take_all [] m = take_none m
take_all (x ∷ l) m = ap (λ l. x ∷ l) (take_all l m)

-- an array that holds a list
pub kept_list : (n : ℕ) (l : List ℕ) → length l ≤ n → (take (length l) (padded n l) ≡ l) × NamesPadded n (padded n l) (length l)
kept_list n l h =
    let e = take_all l (replicate (n - length l) 0) in
    (e, record { few = h; pad = ap (padded n) (sym e); size = ap length e })

module _ (n : ℕ) (names : List ℕ) (count k : ℕ) (K : NamesPadded n names count) (h : count < n) where
  abbrev so : List ℕ
  so = take count names

  room : n - length so ≡ suc (n - length (so ++ k ∷ []))
  room = let a = K.size in let b = length-append so (k ∷ []) in omega arith

  stored : set names count k ≡ padded n (so ++ k ∷ [])
  stored =
      (λ i. set (K.pad i) (sym K.size i) k)
      ∙ ap (λ m. set (so ++ replicate m 0) (length so) k) room
      ∙ set-append_seam so 0 (replicate (n - length (so ++ k ∷ [])) 0) k
      ∙ sym (append_assoc so (k ∷ []) (replicate (n - length (so ++ k ∷ [])) 0))

  more : length (so ++ k ∷ []) ≡ count + 1
  more = length-append so (k ∷ []) ∙ ap (λ m. m + 1) K.size

  pub kept_take : take (count + 1) (set names count k) ≡ so ++ k ∷ []
  kept_take = (λ i. take (sym more i) (stored i)) ∙ take_all (so ++ k ∷ []) (replicate (n - length (so ++ k ∷ [])) 0)

-- ---- registers

or_left : (a b : Bool) → a ≡ true → (a || b) ≡ true
or_left a b h = rw h

pub not_full : (count n k : ℕ) (l : List ℕ) (b : Bool) → b ≡ (eqb count n || is_declared k l) → b ≡ false → count ≤ n → count < n
not_full count n k l b e f h = by_test (eqb count n)
    (λ t. let z : true ≡ false = sym (or_left (eqb count n) (is_declared k l) t) ∙ sym e ∙ f in let y : ◌≡◌ {A = ℕ} 0 1 = cc in absurd (omega arith))
    λ t. let g = eqb-false count n t in by_test (ltb count n) (λ u. ltb-true count n u) λ u. absurd (g (let v = ltb-false count n u in omega arith))

-- what is left of the list of registers
abbrev pub RegistersLeft : List ℕ → ℕ → List ℕ → ℕ → ℕ → Type 0
RegistersLeft s from names count at = register_names s most_registers [] from ≡ register_names s (most_registers - count) (take count names) at

-- the registers that are read so far
pub record RegistersSoFar (s : List ℕ) (from : ℕ) (names : List ℕ) (count at : ℕ) : Type 0 where
  pub left : RegistersLeft s from names count at

-- behind them stands a name; whether it is taken
pub record NameOfRegister (s : List ℕ) (from : ℕ) (names : List ℕ) (count : ℕ) (t : Token) (taken : Bool) : Type 0 where
  pub at : ℕ
  pub names_padded : NamesPadded most_registers names count
  pub so_far : RegistersSoFar s from names count at
  pub token : t ≡ token_at s at
  pub name : is_name t.key ≡ true
  pub tells : taken ≡ (eqb count most_registers || is_declared t.key (take count names))

module _ {s : List ℕ} {from : ℕ} {names : List ℕ} {count at : ℕ} (S : RegistersSoFar s from names count at) {t : Token} (e : t ≡ token_at s at) where
  pub registers_last : {b : Bool} → b ≡ is_name t.key → b ≡ false → {r : Result Registers Refused}
      → r ≡ read_as held_registers (listed_t s (length (take count names)) (take count names) t) → r ≡ read_as held_registers (register_names s
      most_registers [] from)
  unfolding register_names
  registers_last i h g = g ∙ ap (read_as held_registers) (sym (S.left ∙ go (most_registers - count)))
    where
      go : (room : ℕ) → register_names s room (take count names) at ≡ listed_t s (length (take count names)) (take count names) t
      go zero = rw (← e, ← i, h)
      go (suc room) = rw (← e, ← i, h)

pub register_named : {s : List ℕ} {from : ℕ} {names : List ℕ} {count at : ℕ} {t : Token} {b taken : Bool}
    → NamesPadded most_registers names count → RegistersSoFar s from names count at → t ≡ token_at s at
    → b ≡ is_name t.key → b ≡ true → taken ≡ (eqb count most_registers || is_declared t.key (take count names))
    → NameOfRegister s from names count t taken
register_named {at = at} K S e i h w = record { at = at; names_padded = K; so_far = S; token = e; name = sym i ∙ h; tells = w }

module _ {s : List ℕ} {from : ℕ} {names : List ℕ} {count : ℕ} {t : Token} {taken : Bool} (N : NameOfRegister s from names count t taken) where
  abbrev K : NamesPadded most_registers names count
  K = N.names_padded

  taken_register : taken ≡ true → register_names s most_registers [] from ≡ Got.refused declaration_wrong t.start
  unfolding register_names
  taken_register h = N.so_far.left ∙ by_test (eqb count most_registers)
      (λ u. let z : most_registers - count ≡ 0 = (let v = eqb-true count most_registers u in omega arith) in
      ap (λ m. register_names s m (take count names) N.at) z ∙ rw (← N.token, N.name)) λ u.
      let v = eqb-false count most_registers u in
      let w : is_declared t.key (take count names) ≡ true = sym (ap (λ b. b || is_declared t.key (take count names)) u) ∙ sym N.tells ∙ h in
      let z : most_registers - count ≡ suc (most_registers - 1 - count) = (let f = K.few in let k = below count v f in omega arith) in
      ap (λ m. register_names s m (take count names) N.at) z ∙ rw (← N.token, N.name, w)
    where
      below : (c : ℕ) → (c ≡ most_registers → ⊥) → c ≤ most_registers → c < most_registers
      below c v f = by_test (ltb c most_registers) (λ t. ltb-true c most_registers t) λ t. absurd (v (let g = ltb-false c most_registers t in omega arith))

  pub registers_taken : taken ≡ true → {e : Refused} → e ≡ refused_as declaration_wrong t.start
      → Err e ≡ read_as held_registers (register_names s most_registers [] from)
  registers_taken h g = rw (taken_register h) (ap Err g)

  registers_room : taken ≡ false → count < most_registers
  registers_room h = not_full count most_registers t.key (take count names) taken N.tells h K.few

  pub registers_turn : taken ≡ false → (count < most_registers) × RegistersSoFar s from (set names count t.key) (count + 1) t.end
  unfolding register_names
  registers_turn h =
      let l = registers_room h in
      let z : most_registers - count ≡ suc (most_registers - (count + 1)) = omega arith in
      let w : is_declared t.key (take count names) ≡ false =
      sym (ap (λ b. b || is_declared t.key (take count names)) (ne_eqb count most_registers λ q. omega arith)) ∙ sym N.tells ∙ h in (
        l,
        record {
          left = N.so_far.left ∙ ap (λ m. register_names s m (take count names) N.at) z
              ∙ rw (← N.token, N.name, w) (ap (λ l. register_names s (most_registers - (count + 1)) l t.end)
              (sym (kept_take most_registers names count t.key K l)));
        },
      )

-- ---- functions

module _ (s : List ℕ) (at : ℕ) {r : Result ℕ Refused} (i : r ≡ without_value (expect s word.slash_key at)) where
  pub arity_slash : {e : Refused} {w : Result (ℕ × ℕ) Refused} → r ≡ Err e → IsErr w × IsErrAnd w (λ d. d ≡ e) → w ≡ plain (arity_of s at)
  unfolding arity_of
  arity_slash j o = passed_on (λ _ e. e) (λ n e. (n, e)) (expect s word.slash_key at) _ i j o

  pub arity_behind : {a : ℕ} → r ≡ Ok a → {t : Token} → t ≡ token_at s a → arity_of s at ≡ arity_t s t
  unfolding arity_of
  arity_behind j e = rw (place_on (expect s word.slash_key at) i j, e)

-- the functions that are read so far, those of this line from number `first` on; `whole` is the reading of the line
pub record FunctionsSoFar (s rs : List ℕ) (first : ℕ) (whole : Got (List ℕ × List ℕ)) (names arities : List ℕ) (count at : ℕ) : Type 0 where
  pub begun : first ≤ count
  pub left : whole ≡ entries s rs first (most_functions - count) (take count names) (take count arities) at

-- behind them stands a name; whether it is taken
pub record NameOfFunction (s rs : List ℕ) (first : ℕ) (whole : Got (List ℕ × List ℕ)) (names arities : List ℕ) (count : ℕ) (t : Token)
    (taken : Bool) : Type 0 where
  pub at : ℕ
  pub names_padded : NamesPadded most_functions names count
  pub arities_padded : NamesPadded most_functions arities count
  pub so_far : FunctionsSoFar s rs first whole names arities count at
  pub token : t ≡ token_at s at
  pub name : is_name t.key ≡ true
  pub tells : taken ≡ (eqb count most_functions || (is_declared t.key rs || is_declared t.key (take count names)))

-- the name is not taken; what is read as its arity
pub record NewFunction {s rs : List ℕ} {first : ℕ} {whole : Got (List ℕ × List ℕ)} {names arities : List ℕ} {count : ℕ} {t : Token} {taken : Bool}
    (N : NameOfFunction s rs first whole names arities count t taken) (g : Result (ℕ × ℕ) Refused) : Type 0 where
  pub not_taken : taken ≡ false
  pub arity : g ≡ plain (arity_of s t.end)

module _ {s rs : List ℕ} {first : ℕ} {whole : Got (List ℕ × List ℕ)} {names arities : List ℕ} {count at : ℕ}
    (S : FunctionsSoFar s rs first whole names arities count at) {t : Token} (e : t ≡ token_at s at) where
  pub functions_last : {b : Bool} → b ≡ is_name t.key → b ≡ false → {r : Result Functions Refused}
      → r ≡ read_as held_functions (listed_t s (length (take count names) - first) (take count names, take count arities) t)
      → r ≡ read_as held_functions (whole)
  unfolding entries
  functions_last i h g = g ∙ ap (read_as held_functions) (sym (S.left ∙ go (most_functions - count)))
    where
      go : (room : ℕ) → entries s rs first room (take count names) (take count arities) at ≡ listed_t s (length (take count names) - first)
          (take count names, take count arities) t
      go zero = rw (← e, ← i, h)
      go (suc room) = rw (← e, ← i, h)

pub function_named : {s rs : List ℕ} {first : ℕ} {whole : Got (List ℕ × List ℕ)} {names arities : List ℕ} {count at : ℕ} {t : Token} {b taken : Bool}
    → NamesPadded most_functions names count → NamesPadded most_functions arities count
    → FunctionsSoFar s rs first whole names arities count at → t ≡ token_at s at → b ≡ is_name t.key → b ≡ true
    → taken ≡ (eqb count most_functions || (is_declared t.key rs || is_declared t.key (take count names)))
    → NameOfFunction s rs first whole names arities count t taken
function_named {at = at} K A S e i h w = record { at = at; names_padded = K; arities_padded = A; so_far = S; token = e; name = sym i ∙ h; tells = w }

module _ {s rs : List ℕ} {first : ℕ} {whole : Got (List ℕ × List ℕ)} {names arities : List ℕ} {count : ℕ} {t : Token} {taken : Bool}
    (N : NameOfFunction s rs first whole names arities count t taken) where
  taken_function : taken ≡ true → whole ≡ Got.refused declaration_wrong t.start
  unfolding entries
  taken_function h = N.so_far.left ∙ by_test (eqb count most_functions)
      (λ u. let z : most_functions - count ≡ 0 = (let v = eqb-true count most_functions u in omega arith) in
      ap (λ m. entries s rs first m (take count names) (take count arities) N.at) z ∙ rw (← N.token, N.name)) λ u.
      let v = eqb-false count most_functions u in
      let w : (is_declared t.key rs || is_declared t.key (take count names)) ≡ true =
      sym (ap (λ b. b || (is_declared t.key rs || is_declared t.key (take count names))) u) ∙ sym N.tells ∙ h in
      let z : most_functions - count ≡ suc (most_functions - 1 - count) = (let f = N.names_padded.few in let k = below count v f in omega arith) in
      ap (λ m. entries s rs first m (take count names) (take count arities) N.at) z ∙ rw (← N.token, N.name, w)
    where
      below : (c : ℕ) → (c ≡ most_functions → ⊥) → c ≤ most_functions → c < most_functions
      below c v f = by_test (ltb c most_functions) (λ t. ltb-true c most_functions t) λ t. absurd (v (let g = ltb-false c most_functions t in omega arith))

  pub functions_taken : taken ≡ true → {e : Refused} → e ≡ refused_as declaration_wrong t.start → Err e ≡ read_as held_functions whole
  functions_taken h g = rw (taken_function h) (ap Err g)

module _ {s rs : List ℕ} {first : ℕ} {whole : Got (List ℕ × List ℕ)} {names arities : List ℕ} {count : ℕ} {t : Token} {taken : Bool}
    {N : NameOfFunction s rs first whole names arities count t taken} {g : Result (ℕ × ℕ) Refused} (F : NewFunction N g) where
  abbrev so_far : FunctionsSoFar s rs first whole names arities count N.at
  so_far = N.so_far

  pub functions_room : count < most_functions
  functions_room = by_test (eqb count most_functions)
      (λ u. let known = is_declared t.key rs || is_declared t.key (take count names) in
      let z : true ≡ false = sym (or_left (eqb count most_functions) known u) ∙ sym N.tells ∙ F.not_taken in
      let q : ◌≡◌ {A = ℕ} 0 1 = cc in absurd (omega arith))
      λ u. let v = eqb-false count most_functions u in
      by_test (ltb count most_functions) (λ w. ltb-true count most_functions w)
      λ w. absurd (v (let f = N.names_padded.few in let k = ltb-false count most_functions w in omega arith))

  unknown : (is_declared t.key rs || is_declared t.key (take count names)) ≡ false
  unknown =
      sym (ap (λ b. b || (is_declared t.key rs || is_declared t.key (take count names)))
      (ne_eqb count most_functions λ q. let f = functions_room in omega arith)) ∙ sym N.tells ∙ F.not_taken

  entered : whole ≡ and_then (arity_of s t.end) λ n e. entries s rs first (most_functions - (count + 1))
      (take count names ++ t.key ∷ []) (take count arities ++ n ∷ []) e
  unfolding entries
  entered =
      let f = functions_room in
      let z : most_functions - count ≡ suc (most_functions - (count + 1)) = omega arith in
      so_far.left ∙ ap (λ m. entries s rs first m (take count names) (take count arities) N.at) z
      ∙ rw (← N.token, N.name, unknown)

  pub functions_refused : {e : Refused} {w : Result Functions Refused} → g ≡ Err e → IsErr w × IsErrAnd w (λ d. d ≡ e)
      → w ≡ read_as held_functions whole
  functions_refused k o = passed_on (λ n e. (n, e)) held_functions (arity_of s t.end) _ F.arity k o ∙ ap (read_as held_functions) (sym entered)

  pub functions_turn : {n b' : ℕ} → g ≡ Ok (n, b')
      → FunctionsSoFar s rs first whole (set names count t.key) (set arities count n) (count + 1) b'
  functions_turn {n} {b'} k =
      let l = functions_room in
      let q = plain_on (arity_of s t.end) F.arity k in record {
        begun = let b = so_far.begun in omega arith;
        left = entered
            ∙ ap (λ x. and_then x λ n e. entries s rs first (most_functions - (count + 1)) (take count names ++ t.key ∷ [])
            (take count arities ++ n ∷ []) e) q
            ∙ (λ i. entries s rs first (most_functions - (count + 1)) (sym (kept_take most_functions names count t.key N.names_padded l) i)
            (sym (kept_take most_functions arities count n N.arities_padded l) i) b');
      }

-- a line behind the functions that were read
module _ (s rs known taking : List ℕ) (first from : ℕ) (K : NamesPadded most_functions known first) where
  pub line_begins : FunctionsSoFar s rs first (line_from s rs (take first known) (take first taking) from) known taking first from
  line_begins = record {
    begun = omega arith;
    left = ap (λ n. entries s rs n (most_functions - n) (take first known) (take first taking) from) K.size;
  }

-- perhaps a line of functions
module _ (s rs : List ℕ) (at : ℕ) (t : Token) (e : t ≡ token_at s at) where
  pub line_some : t.key ≡ word.funs_key → (r : Result Functions Refused) → r ≡ read_as held_functions (line_from s rs [] [] t.end)
      → r ≡ read_as held_functions (functions_t s rs at (token_at s at))
  line_some h r g = rw (← e, eq-eqb t.key word.funs_key h) g

  pub line_none : (t.key ≡ word.funs_key → ⊥) → Ok (held_functions ([], []) at) ≡ read_as held_functions (functions_t s rs at (token_at s at))
  line_none h = rw (← e, ne_eqb t.key word.funs_key h)

-- perhaps a line of tests behind the functions that were read
module _ (s rs : List ℕ) (fs : Functions) (K : NamesPadded most_functions fs.names fs.count) (A : NamesPadded most_functions fs.arities fs.count)
    (t : Token) (e : t ≡ token_at s fs.at) where
  abbrev Tests : Got (List ℕ × List ℕ)
  Tests = tests_t s rs (take fs.count fs.names) (take fs.count fs.arities) fs.at (token_at s fs.at)

  pub tests_without_room : t.key ≡ word.tests_key → most_registers < length rs + hidden_registers → (r : Result Functions Refused)
      → r ≡ read_as held_functions (Got.refused no_room_for_tests t.start) → r ≡ read_as held_functions Tests
  tests_without_room h l r g = rw (← e, eq-eqb t.key word.tests_key h, lt-ltb most_registers (length rs + hidden_registers) l) g

  pub tests_some : t.key ≡ word.tests_key → length rs + hidden_registers ≤ most_registers → (r : Result Functions Refused)
      → r ≡ read_as held_functions (line_from s rs (take fs.count fs.names) (take fs.count fs.arities) t.end) → r ≡ read_as held_functions Tests
  tests_some h l r g = rw (← e, eq-eqb t.key word.tests_key h, le-ltb most_registers (length rs + hidden_registers) l) g

  pub tests_none : (t.key ≡ word.tests_key → ⊥) → Ok fs ≡ read_as held_functions Tests
  tests_none h = rw (← e, ne_eqb t.key word.tests_key h)
      λ i. Ok (record { at = fs.at; count = sym K.size i; names = K.pad i; arities = A.pad i })

-- ---- how many entries a line gives

-- of what a line gives behind the functions fs
pub record LineSize (fs : List ℕ) (most : ℕ) (r : List ℕ × List ℕ) : Type 0 where
  pub fits : length r.0 ≤ most
  pub both : length r.1 ≡ length r.0
  pub more : length fs ≤ length r.0

listed_value : (s : List ℕ) {A : Type 0} (n : ℕ) (a : A) (t : Token) (r : A) (e : ℕ) → listed_t s n a t ≡ got r e → a ≡ r
listed_value s n a t r e h = pick_case (eqb t.key word.semicolon_key && not (eqb n 0)) _ _ _ h (λ u g. got_value g) λ u g. absurd (not_refused g)

-- a list that ends
listed_size : (fs ns : List ℕ) (r : List ℕ × List ℕ) (room : ℕ) → length ns ≡ length fs → ◌≡◌ {A = List ℕ × List ℕ} (fs, ns) r
    → LineSize fs (room + length fs) r
listed_size fs ns r room n h = subst (LineSize fs (room + length fs)) h (record { fits = omega arith; both = n; more = omega arith })

entries_size : (s rs : List ℕ) (first room : ℕ) (fs ns : List ℕ) (at : ℕ) (r : List ℕ × List ℕ) (e : ℕ) → length ns ≡ length fs
    → entries s rs first room fs ns at ≡ got r e → LineSize fs (room + length fs) r
unfolding entries
entries_size s rs first zero fs ns at r e n h =
    pick_case (is_name (token_at s at).key) _ _ _ h (λ t g. absurd (not_refused g)) λ t g.
    listed_size fs ns r 0 n (listed_value s (length fs - first) (fs, ns) (token_at s at) r e g)
entries_size s rs first (suc room) fs ns at r e n h =
    pick_case (is_name (token_at s at).key) _ _ _ h
    (λ t g. pick_case (is_declared (token_at s at).key rs || is_declared (token_at s at).key fs) _ _ _ g (λ u f. absurd (not_refused f))
    λ u f. let (m, a, x, y) = onward_got (arity_of s (token_at s at).end) _ r e f in
    let l = length-append fs ((token_at s at).key ∷ []) in
    let k = length-append ns (m ∷ []) in
    let z = entries_size s rs first room (fs ++ (token_at s at).key ∷ []) (ns ++ m ∷ []) a r e (omega arith) y in
    record { fits = let w = z.fits in omega arith; both = z.both; more = let w = z.more in omega arith })
    λ t g. listed_size fs ns r (suc room) n (listed_value s (length fs - first) (fs, ns) (token_at s at) r e g)

pub functions_size : (s rs : List ℕ) (at : ℕ) (r : List ℕ × List ℕ) (e : ℕ) → functions_t s rs at (token_at s at) ≡ got r e
    → (length r.0 ≤ most_functions) × (length r.1 ≡ length r.0)
functions_size s rs at r e h =
    pick_case (eqb (token_at s at).key word.funs_key) _ _ _ h
    (λ t g. let z = entries_size s rs 0 most_functions [] [] (token_at s at).end r e refl g in (z.fits, z.both))
    λ t g. subst (λ r. (length r.0 ≤ most_functions) × (length r.1 ≡ length r.0)) (got_value g) (omega arith, refl)

-- of the functions fs and the tests behind them
pub record TestsSize (rs fs : List ℕ) (r : List ℕ × List ℕ) : Type 0 where
  pub fits : length r.0 ≤ most_functions
  pub both : length r.1 ≡ length r.0
  pub more : length fs ≤ length r.0
  pub room : length fs < length r.0 → length rs + hidden_registers ≤ most_registers

pub tests_size : (s rs fs ns : List ℕ) (at : ℕ) (r : List ℕ × List ℕ) (e : ℕ) → length fs ≤ most_functions → length ns ≡ length fs
    → tests_t s rs fs ns at (token_at s at) ≡ got r e → TestsSize rs fs r
tests_size s rs fs ns at r e l n h =
    pick_case (eqb (token_at s at).key word.tests_key) _ _ _ h
    (λ t g. pick_case (ltb most_registers (length rs + hidden_registers)) _ _ _ g (λ u f. absurd (not_refused f)) λ u f.
    let z = entries_size s rs (length fs) (most_functions - length fs) fs ns (token_at s at).end r e n f in
    record {
      fits = let w = z.fits in omega arith;
      both = z.both;
      more = z.more;
      room = λ _. ltb-false most_registers (length rs + hidden_registers) u;
    })
    λ t g. subst (TestsSize rs fs) (got_value g) (record { fits = l; both = n; more = omega arith; room = λ k. absurd (omega arith) })
