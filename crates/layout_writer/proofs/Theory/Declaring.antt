-- In an accepted text the first token that is known by a name's number is the one that declares the name; so each token is printed as the layout asks.
use mathlib.Core.Path.{◌≡◌, refl, sym, ap, ◌∙◌, subst}
use Prim.Native.Nat.{ℕ, zero, suc, ◌+◌, ◌*◌, ◌-◌, ◌≤◌, ◌<◌}
use native.Mathlib.Omega.{arith}
use mathlib.Core.Bool.{true, false, not}
use mathlib.Core.List.{List, [], ◌∷◌, ◌++◌}
use lib.Dec.{ltb}
use lib.ListN.{length, get_or, take, drop, length-append, length-drop, take-append-drop, get_or-append}
use lib.Seq.{get_or-take, get_or-drop, length-take-le}
use borrow.Author.Tests.{ltb-true, ltb-false}
use Rattle.base.proofs.Theory.Choice.{by_test}
use Rattle.tokens.specs.Words.{is_name}
use Rattle.tokens.specs.Words as word
use Rattle.tokens.specs.Tokens.{token_at, place_of}
use Rattle.tokens.proofs.Theory.TokensLaws.{behind_both}
use Rattle.grammar.specs.Grammar.{Macro, sentence, entry_tokens, line_tokens, declaration_tokens, block_tokens}
use Rattle.grammar.specs.Spelled.{Spells, Declared, Disjoint, Arities, InOrder, first_register, first_function, first_test_token, entry_length, line_length}
use Rattle.grammar.proofs.Theory.Parts.{arities_take, arities_drop, declared_front}
use Rattle.refusals.specs.Accepted.{Accepted}
use Rattle.refusals.proofs.Theory.Basics.{clash, not-true}
use Rattle.refusals.proofs.Theory.Declared.{three_more, line-length, spells_at, register_spelled, function_spelled}
use Rattle.layout_theory.specs.Layout.{without_empty_elses, print_tokens}
use Rattle.layout_theory.proofs.Theory.Pairs.{fixed_tokens, is_fixed_token, plain_token, pass_among, Pairwise, pairs_each, Tokenwise, names_tokenwise}
use Rattle.layout_theory.proofs.Theory.Pairs.{line_tokenwise, sentence_pairs}
use Rattle.layout_theory.proofs.Theory.Dropping.{order_short}
use Rattle.layout_theory.proofs.Theory.ReadBack.{registers_spelled, functions_spelled}
use Rattle.layout_writer.specs.Tokens.{token_behind, IsFirst, PrintedAs}

-- ---- names, and what is none

no_name : {j k : ℕ} → is_name j ≡ false → is_name k ≡ true → j ≡ k → ⊥
no_name n t e = clash t (ap is_name (sym e) ∙ n)

-- a word or a sign is no name
fixed_no_name : (k : ℕ) → is_fixed_token k ≡ true → is_name k ≡ false
fixed_no_name k t = not-true (is_name k) (pass_among (λ w. not (is_name w)) fixed_tokens refl k t)

-- ---- k is none of a list

abbrev AbsentFrom : ℕ → List ℕ → Type 0
AbsentFrom k [] = Unit {0}
AbsentFrom k (j ∷ ks) = (j ≡ k → ⊥) × AbsentFrom k ks

absent_append : (k : ℕ) (ks us : List ℕ) → AbsentFrom k ks → AbsentFrom k us → AbsentFrom k (ks ++ us)
absent_append k [] us A B = B
absent_append k (j ∷ ks) us (a, A) B = (a, absent_append k ks us A B)

-- A name is none of the words and signs.
absent_tokenwise : (k : ℕ) → is_name k ≡ true → Tokenwise (λ j w. j ≡ k → ⊥) λ ks ws. AbsentFrom k ks
absent_tokenwise k n = record {
  none = tt;
  append = λ {ks} {ws} {us} {vs} A B. absent_append k ks us A B;
  plain = λ j t A. (no_name (fixed_no_name j (plain_token j t).0) n, A);
  name = λ r A. (r, A);
  negated = λ r A. (no_name refl n, A);
}

-- ---- the first entry of a list that is k

record FirstIn (ks : List ℕ) (k i : ℕ) : Type 0 where
  within : i < length ks
  element : get_or ks i 0 ≡ k
  others : (j : ℕ) → j < i → get_or ks j 0 ≡ k → ⊥

first_here : (k : ℕ) (ks : List ℕ) → FirstIn (k ∷ ks) k 0
first_here k ks = record { within = omega arith; element = refl; others = λ j l. absurd (omega arith) }

first_cons : {j k i : ℕ} {ks : List ℕ} → (j ≡ k → ⊥) → FirstIn ks k i → FirstIn (j ∷ ks) k (suc i)
first_cons {j} {k} {i} {ks} n F = record { within = let z = F.within in omega arith; element = F.element; others = others }
  where
    others : (l : ℕ) → l < suc i → get_or (j ∷ ks) l 0 ≡ k → ⊥
    others zero h = n
    others (suc l) h = F.others l (omega arith)

first_front : {ks : List ℕ} {k i : ℕ} (ls : List ℕ) → FirstIn ks k i → FirstIn (ks ++ ls) k i
first_front {ks} ls F = record {
  within = let z = F.within in omega (arith, length-append ks ls);
  element = get_or-append ks ls 0 _ F.within ∙ F.element;
  others = λ j l e. F.others j l (sym (get_or-append ks ls 0 j (let z = F.within in omega arith)) ∙ e);
}

-- behind a list that has no k
first_behind : (ks : List ℕ) {ls : List ℕ} {k i : ℕ} → AbsentFrom k ks → FirstIn ls k i → FirstIn (ks ++ ls) k (length ks + i)
first_behind [] {ls} {k} {i} A F = subst (FirstIn ls k) (let e : i ≡ 0 + i = omega arith in e) F
first_behind (j ∷ ks) {ls} {k} {i} (a, A) F =
    subst (FirstIn (j ∷ (ks ++ ls)) k) (let e : suc (length ks + i) ≡ suc (length ks) + i = omega arith in e)
    (first_cons a (first_behind ks A F))

-- ---- the tokens that declare names

NoneTwice : List ℕ → Type 0
NoneTwice ks = (i j : ℕ) → i < length ks → j < length ks → get_or ks i 0 ≡ get_or ks j 0 → i ≡ j

first_name : (ks : List ℕ) → NoneTwice ks → (x : ℕ) → x < length ks → FirstIn ks (get_or ks x 0) x
unfolding NoneTwice
first_name ks a x h = record { within = h; element = refl; others = λ j l e. absurd (let z = a j x (omega arith) h e in omega arith) }

first_entry : {fs ns : List ℕ} → Arities fs ns → ((i : ℕ) → i < length fs → is_name (get_or fs i 0) ≡ true) → NoneTwice fs → (f : ℕ) → f < length fs
    → FirstIn (entry_tokens fs ns) (get_or fs f 0) (entry_length * f)
unfolding entry_tokens NoneTwice
first_entry Arities.none n a f h = absurd (omega arith)
first_entry (Arities.one {f = g} {fs = fs} A) n a zero h = first_here g _
first_entry (Arities.two {f = g} {fs = fs} A) n a zero h = first_here g _
first_entry (Arities.one {f = g} {fs = fs} A) n a (suc f) h =
    let name = n (suc f) h in
    subst (FirstIn _ (get_or fs f 0)) (sym (three_more f)) (first_cons (λ e. absurd (let z = a 0 (suc f) (omega arith) h e in omega arith))
    (first_cons (no_name refl name) (first_cons (no_name refl name)
    (first_entry A (λ i l. n (suc i) (omega arith)) (λ i j l m e. let z = a (suc i) (suc j) (omega arith) (omega arith) e in omega arith) f (omega arith)))))
first_entry (Arities.two {f = g} {fs = fs} A) n a (suc f) h =
    let name = n (suc f) h in
    subst (FirstIn _ (get_or fs f 0)) (sym (three_more f)) (first_cons (λ e. absurd (let z = a 0 (suc f) (omega arith) h e in omega arith))
    (first_cons (no_name refl name) (first_cons (no_name refl name)
    (first_entry A (λ i l. n (suc i) (omega arith)) (λ i j l m e. let z = a (suc i) (suc j) (omega arith) (omega arith) e in omega arith) f (omega arith)))))

-- those behind the first t
declared_behind : (t : ℕ) (fs : List ℕ) → t ≤ length fs → Declared fs → Declared (drop t fs)
declared_behind t fs l D =
    let size = length-drop t fs in record {
      names = λ i h. ap is_name (get_or-drop t fs i 0) ∙ D.names (t + i) (omega arith);
      once = λ i j h g e.
          let z = D.once (t + i) (t + j) (omega arith) (omega arith) (sym (get_or-drop t fs i 0) ∙ e ∙ get_or-drop t fs j 0) in omega arith;
    }

-- behind the word that a line begins with
first_line : (w : ℕ) → is_name w ≡ false → (fs : List ℕ) {ns : List ℕ} → Arities fs ns → Declared fs → (f : ℕ) → f < length fs
    → FirstIn (line_tokens w fs ns) (get_or fs f 0) (suc (entry_length * f))
unfolding line_tokens NoneTwice
first_line w n [] a D f h = absurd (omega arith)
first_line w n (g ∷ fs) {ns} a D f h =
    first_cons (no_name n (D.names f h)) (first_front {ks = entry_tokens (g ∷ fs) ns} _ (first_entry a D.names D.once f h))

-- The tokens of a macro behind `vars`.
abbrev behind_vars : Macro → List ℕ
behind_vars m =
    m.registers ++ word.semicolon_key
    ∷ (declaration_tokens m.functions m.arities m.first_test ++ block_tokens m.registers m.functions m.arities m.body)

module _ (m : Macro) (O : InOrder m) where
  first-register : (x : ℕ) → x < length m.registers → FirstIn (behind_vars m) (get_or m.registers x 0) x
  unfolding NoneTwice
  first-register x h = first_front _ (first_name m.registers O.registers.once x h)

  -- behind the line of registers, whose names are others
  behind_registers : (f i : ℕ) → f < length m.functions → FirstIn (declaration_tokens m.functions m.arities m.first_test) (get_or m.functions f 0) i
      → FirstIn (behind_vars m) (get_or m.functions f 0) (length m.registers + suc i)
  unfolding Disjoint
  behind_registers f i h F =
      let name = O.functions.names f h in
      first_behind m.registers
      (names_tokenwise (absent_tokenwise (get_or m.functions f 0) name) (pairs_each _ m.registers m.registers refl λ x l. O.apart x f l h))
      (first_cons (no_name refl name) (first_front _ F))

  first-function : (f : ℕ) → f < length m.functions → f < m.first_test
      → FirstIn (behind_vars m) (get_or m.functions f 0) (length m.registers + suc (suc (entry_length * f)))
  first-function f h l =
      let t = m.first_test in
      let fs = m.functions in
      let size = length-take-le t fs O.tests in
      behind_registers f (suc (entry_length * f)) h (first_front _
      (subst (λ k. FirstIn (line_tokens word.funs_key (take t fs) (take t m.arities)) k (suc (entry_length * f))) (get_or-take t fs f 0 l)
      (first_line word.funs_key refl (take t fs) (arities_take t O.arities)
      (declared_front (take t fs) (drop t fs) (subst Declared (sym (take-append-drop t fs)) O.functions)) f (omega arith))))

  first-test : (f : ℕ) → f < length m.functions → m.first_test ≤ f
      → FirstIn (behind_vars m) (get_or m.functions f 0)
      (length m.registers + suc (line_length m.first_test + suc (entry_length * (f - m.first_test))))
  first-test f h l =
      let t = m.first_test in
      let fs = m.functions in
      let size = length-take-le t fs O.tests in
      let rest = length-drop t fs in
      let name = get_or-drop t fs (f - t) 0 ∙ ap (λ g. get_or fs g 0) (let e : t + (f - t) ≡ f = omega arith in e) in
      let line = line-length word.funs_key (take t fs) (arities_take t O.arities) ∙ ap line_length size in
      behind_registers f (line_length t + suc (entry_length * (f - t))) h
      (subst (λ i. FirstIn (declaration_tokens fs m.arities t) (get_or fs f 0) (i + suc (entry_length * (f - t)))) line
      (first_behind (line_tokens word.funs_key (take t fs) (take t m.arities))
      (line_tokenwise (absent_tokenwise (get_or fs f 0) (O.functions.names f h)) word.funs_key refl (arities_take t O.arities)
      (pairs_each _ (take t fs) (take t fs) refl λ i k e.
      let z = O.functions.once i f (omega arith) h (sym (get_or-take t fs i 0 (omega arith)) ∙ e) in absurd (omega arith)))
      (subst (λ k. FirstIn (line_tokens word.tests_key (drop t fs) (drop t m.arities)) k (suc (entry_length * (f - t)))) name
      (first_line word.tests_key refl (drop t fs) (arities_drop t O.arities) (declared_behind t fs O.tests O.functions) (f - t) (omega arith)))))

-- ---- in a text

-- the tokens that a text is spelled by are tokens
spells_real : {s : List ℕ} {at e : ℕ} {ks : List ℕ} → Spells s at ks e → (i : ℕ) → i < length ks → word.wrong < get_or ks i 0
spells_real Spells.none i h = absurd (omega arith)
spells_real (Spells.more e l p) zero h = l
spells_real (Spells.more e l p) (suc i) h = spells_real p i (omega arith)

is_first : (s : List ℕ) {at : ℕ} {ks : List ℕ} {e k i : ℕ} → Spells s at ks e → FirstIn ks k i → IsFirst s at k i
is_first s {at} {ks} {e} {k} {i} p F =
    let within : (j : ℕ) → j < i → j < length ks = λ j l. let z = F.within in omega arith in
    let there : (j : ℕ) → j < length ks → (token_behind s at j).key ≡ get_or ks j 0 = λ j l. spells_at s p j _ (record { within = l; element = refl }) in
    record {
      known = there i F.within ∙ F.element;
      real = λ j l. subst (λ n. word.wrong < n) (sym (there j (within j l))) (spells_real p j (within j l));
      others = λ j l g. F.others j l (sym (there j (within j l)) ∙ g);
    }

-- Where the names of a text are declared: behind `vars`.
abbrev pub names_from : List ℕ → ℕ
names_from s = place_of s first_register

-- Whatever the writer prints for a token that is known by k is w.
pub record OnlyPrintedAs (s : List ℕ) (k w : ℕ) : Type 0 where
  pub only : (r : ℕ) → PrintedAs s (names_from s) k r → r ≡ w

module _ (s : List ℕ) (m : Macro) (A : Accepted s m) where
  declaring : Spells s (names_from s) (behind_vars m) A.spelled.place
  unfolding sentence
  declaring = tail A.spelled.tokens
    where
      tail : {k e : ℕ} {ks : List ℕ} → Spells s 0 (k ∷ ks) e → Spells s (token_at s 0).end ks e
      tail (Spells.more f l p) = p

  -- token i behind `vars`, as it is counted from the front
  spelled_there : (i j : ℕ) → first_register + i ≡ j → (token_behind s (names_from s) i).spelling ≡ (token_at s (place_of s j)).spelling
  spelled_there i j e = ap (λ n. (token_at s n).spelling) (behind_both s 0 first_register i ∙ ap (place_of s) e)

  register_only : (x : ℕ) → x < length m.registers → OnlyPrintedAs s (get_or m.registers x 0) (get_or m.register_spellings x 0)
  register_only x h = record {
    only = λ r P.
        (P.name (A.in_order.registers.names x h)).first x (is_first s declaring (first-register m A.in_order x h))
        ∙ spelled_there x (first_register + x) refl ∙ register_spelled s m A.spelled x h;
  }

  function_only : (f : ℕ) → f < length m.functions → OnlyPrintedAs s (get_or m.functions f 0) (get_or m.function_spellings f 0)
  function_only f h = by_test (ltb f m.first_test)
      (λ u.
      from_first _ (first_function n + entry_length * f) (first-function m A.in_order f h (ltb-true f m.first_test u)) (place n (entry_length * f))
      (rw u at (function_spelled s m A.spelled f h)))
      λ u.
      from_first _ (first_test_token n m.first_test + entry_length * (f - m.first_test)) (first-test m A.in_order f h (ltb-false f m.first_test u))
      (later n (line_length m.first_test) (entry_length * (f - m.first_test))) (rw u at (function_spelled s m A.spelled f h))
    where
      n : ℕ
      n = length m.registers

      from_first : (i j : ℕ) → FirstIn (behind_vars m) (get_or m.functions f 0) i → first_register + i ≡ j
          → (token_at s (place_of s j)).spelling ≡ get_or m.function_spellings f 0 → OnlyPrintedAs s (get_or m.functions f 0) (get_or m.function_spellings f 0)
      from_first i j F e g = record {
        only = λ r P. (P.name (A.in_order.functions.names f h)).first i (is_first s declaring F) ∙ spelled_there i j e ∙ g;
      }

      place : (n k : ℕ) → first_register + (n + suc (suc k)) ≡ first_function n + k
      place n k = omega arith

      later : (n l k : ℕ) → first_register + (n + suc (l + suc k)) ≡ first_function n + l + k
      later n l k = omega arith

  pub tokens_printed : Pairwise (OnlyPrintedAs s) (sentence (without_empty_elses m)) (print_tokens m)
  tokens_printed = sentence_pairs (OnlyPrintedAs s) (λ k t. record { only = λ r P. P.other (fixed_no_name k t) }) (without_empty_elses m)
      (order_short m A.in_order)
      (registers_spelled s m A) (functions_spelled s m A)
      register_only function_only
