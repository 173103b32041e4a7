-- Nothing here is vacuous. Something that satisfies each of these and something that does not: WellFormed, Held, Superterm, Early, Memoizing,
-- Coherent, Feasible, Same, Apart, Result, EverComputed, Marked, Tracks, SameWindow, Longest, Judgement, InRange, Packable, Numbering, Listing,
-- IsShown, StrictlyCoherent, WithoutRedundant. And the two slips of source document 000 that document 01 mends, each shown by its example.
use mathlib.Core.Path.{◌≡◌, refl, subst}
use mathlib.Core.Bool.{Bool, true, false}
use mathlib.Core.Logic.{inl, inr}
use mathlib.Core.List.Memᴰ
use mathlib.Core.List.{[], ◌∷◌, reverse}
use Prim.Native.Nat.{ℕ, zero, suc, ◌<◌}
use native.Mathlib.Omega.{arith}
use lib.Dec.{T, lit≤, lit<}
use lib.ListN.{length}
use Rattle.letters.specs.Editions.{first_edition}
use Rattle.letters.specs.Coding.{fits_test, apply_test}
use Rattle.letters.specs.declared.Letter.TheVariants.{Copy, Apply, Equal, Unequal}
use Rattle.semantics.specs.Lists.{all}
use Rattle.semantics.proofs.Theory.Lists.{all_e}
use Rattle.semantics.specs.TermEquality.{eqt}
use Rattle.semantics.proofs.Theory.TermEquality.{eqt→eq}
use Rattle.semantics.specs.Terms.{◌∈◌, Term, con, app, Trace, ◌▸◌, State, state}
use Rattle.semantics.specs.Facts.{WellFormed}
use Rattle.semantics.specs.Closure.{reflexive, Closure, Equivalent, Held}
use Rattle.semantics.specs.Facts.{Valid}
use Rattle.semantics.proofs.Theory.Facts.{state_valid}
use Rattle.semantics.specs.Models.{Feasible}
use Rattle.semantics.specs.AnyModel.{AnyModel, SatisfiesIn}
use Rattle.semantics.specs.Coherence.{Superterm, once, Early, Memoizing, Coherent}
use Rattle.semantics.proofs.Theory.Climb.{climbs}
use Rattle.semantics.specs.Window.{Same, Apart, Result, EverComputed, Marked}
use Rattle.semantics.specs.View.{View, Tracks}
use Rattle.semantics.specs.Judge.{merges_of, held}
use Rattle.semantics.proofs.Theory.Judge.{held_i, held_e, above_i, early_computed, fine_is, coherent_is, feasible_is, formed_e}
use Rattle.semantics.proofs.Theory.Of.{view_of, tracks_of}
use Rattle.semantics.specs.Prefixes.{whole}
use Rattle.semantics.specs.Judgement.{Longest, Judgement}
use Rattle.semantics.specs.FirstLetters.{coherent_part, incoherent_letter, infeasible_letter, first_infeasible}
use Rattle.semantics.proofs.Theory.JudgementLaws.{longest_is, judgement_is, judgement_unique}
use Rattle.semantics.proofs.Theory.Redundant.{redundant_test}
use Rattle.semantics.proofs.Theory.ShownUnique.{tables_are}
use Rattle.semantics.specs.SameWindow.{SameWindow}
use Rattle.semantics.proofs.Theory.Tables.{InRange}
use Rattle.semantics.specs.ShownTables.{classes_of, rows_of}
use Rattle.semantics.specs.Numbering.{Numbering, RowListing, IsShown}
use Rattle.semantics.specs.Paper.{EarlyModulo, CoherentModulo}
use Rattle.semantics.proofs.Theory.PaperLaws.{no_model, constants_computed, held_is, superterm_is, early_results, coherent_stricter}
use Rattle.semantics.specs.Strict.{StrictlyCoherent, WithoutRedundant, without_letters, left_out, left_in}
use Rattle.semantics.proofs.Theory.StrictLaws.{without_strict}
use Rattle.semantics.specs.ShownTables.{tables_of, shown_value}
use Rattle.semantics.proofs.Theory.Shown.{in_range}
use Rattle.semantics.proofs.Theory.Shown.{shown_numbering, shown_listing}
use Rattle.semantics.proofs.Theory.Examples.{one, two, printed, repeated}
use Rattle.semantics.specs.PackedTables.{pack_tables}
use Rattle.semantics.specs.TablesRead.{read_tables, Packable}
use Rattle.semantics.proofs.Theory.PackedTablesLaws.{read_packed}
use Rattle.semantics.proofs.Theory.ShownPacked.{applications_fit, shown_packable}

-- ── z:=f(x), z:=f(z): f(x) is computed and lost. Registers x y z are 0 1 2 ──
abbrev lost : Trace
lost = one 3 ▸ Apply 2 0 0 0 ▸ Apply 2 0 2 2

abbrev σ : State
σ = state lost

abbrev fx : Term
fx = app 0 (con 0) (con 0)

pub well_formed : WellFormed lost
unfolding fits_test apply_test
well_formed = formed_e lost tt

-- register 1 is not below the count
pub not_well_formed : ¬ WellFormed (one 1 ▸ Copy 0 1)
not_well_formed w = let h = w.1.1 in omega arith

valid : Valid (state lost)
valid = state_valid lost well_formed

pub held_yes : Held σ (con 0)
held_yes = (0, lit< tt, reflexive (constants_computed lost 0 (lit< tt)))

pub held_no : ¬ Held σ fx
held_no h = held_i σ valid h

pub superterm_yes : Superterm σ.terms σ.equals (con 0) fx
superterm_yes =
    once (Memᴰ.tail (Memᴰ.head refl)) (inl (reflexive (constants_computed lost 0 (lit< tt))))
    (reflexive (Memᴰ.tail (Memᴰ.head refl)))

-- nothing lies above y
pub superterm_no : ¬ Superterm σ.terms σ.equals (con 1) fx
superterm_no h = above_i σ valid (climbs (inr h))

pub early_yes : Early σ 1 1
early_yes = (early_computed σ 1 1 valid (lit< tt) (lit< tt)).0 tt

pub early_no : ¬ Early σ 0 1
early_no h = (early_computed σ 0 1 valid (lit< tt) (lit< tt)).1 h

-- the target may be the register that holds an equal term: y:=f(x), y:=f(x)
pub memoizing_yes : Memoizing (state (one 2 ▸ Apply 1 0 0 0)) 1 0 0 0
unfolding fits_test apply_test
memoizing_yes =
    let w = formed_e (one 2 ▸ Apply 1 0 0 0 ▸ Apply 1 0 0 0) tt in
    (fine_is (state (one 2 ▸ Apply 1 0 0 0)) (Apply 1 0 0 0) (state_valid (one 2 ▸ Apply 1 0 0 0) w.0) w.1).0 tt

-- f(x) again, which no register holds
pub memoizing_no : ¬ Memoizing σ 0 0 0 0
unfolding fits_test apply_test
memoizing_no h = (fine_is σ (Apply 0 0 0 0) valid (formed_e (lost ▸ Apply 0 0 0 0) tt).1).1 h

pub coherent_yes : Coherent lost
coherent_yes = (coherent_is lost well_formed).0 tt

pub coherent_no : ¬ Coherent (lost ▸ Equal 0 1)
unfolding fits_test apply_test
coherent_no c = (coherent_is (lost ▸ Equal 0 1) (formed_e (lost ▸ Equal 0 1) tt)).1 c

pub marked_yes : Marked σ 0
marked_yes = ((tracks_of σ valid).marked 0 (lit< tt)).0 tt

pub marked_no : ¬ Marked σ 1
marked_no m = ((tracks_of σ valid).marked 1 (lit< tt)).1 m

pub ever_yes : EverComputed σ 0 0 0
ever_yes = ((tracks_of σ valid).ever 0 0 0 (lit< tt) (lit< tt)).0 tt

pub ever_no : ¬ EverComputed σ 0 1 1
ever_no m = ((tracks_of σ valid).ever 0 1 1 (lit< tt) (lit< tt)).1 m

-- f(x) was computed, and no register holds it
pub result_no : (r : ℕ) → r < 3 → ¬ Result σ 0 0 0 r
result_no zero b m = ((tracks_of σ valid).result 0 0 0 0 (lit< tt) (lit< tt) (lit< tt)).1 m
result_no (suc zero) b m = ((tracks_of σ valid).result 0 0 0 1 (lit< tt) (lit< tt) (lit< tt)).1 m
result_no (suc (suc zero)) b m = ((tracks_of σ valid).result 0 0 0 2 (lit< tt) (lit< tt) (lit< tt)).1 m
result_no (suc (suc (suc r))) b m = omega arith

-- ── y:=f(x), x!=y ──
abbrev parted : Trace
parted = one 3 ▸ Apply 1 0 0 0 ▸ Unequal 0 1

abbrev τ : State
τ = state parted

valid' : Valid (state parted)
unfolding fits_test apply_test
valid' = state_valid parted (formed_e parted tt)

pub result_yes : Result τ 0 0 0 1
result_yes = ((tracks_of τ valid').result 0 0 0 1 (lit< tt) (lit< tt) (lit< tt)).0 tt

pub same_yes : Same τ 0 0
same_yes = ((tracks_of τ valid').same 0 0 (lit< tt) (lit< tt)).0 tt

pub same_no : ¬ Same τ 0 1
same_no c = ((tracks_of τ valid').same 0 1 (lit< tt) (lit< tt)).1 c

pub apart_yes : Apart τ 1 0
apart_yes = (((tracks_of τ valid').apart 1 0 (lit< tt) (lit< tt)).0 tt).1

pub feasible_yes : Feasible τ
feasible_yes = (feasible_is τ valid').0 tt

pub apart_no : ¬ Apart τ 0 2
apart_no m = ((tracks_of τ valid').apart 0 2 (lit< tt) (lit< tt)).1 (feasible_yes, m)

-- ── x!=x ──
abbrev absurdity : Trace
absurdity = one 1 ▸ Unequal 0 0

pub feasible_no : ¬ Feasible (state absurdity)
unfolding fits_test apply_test
feasible_no f = (feasible_is (state absurdity) (state_valid absurdity (formed_e absurdity tt))).1 f

pub no_model_at_all {ℓ} : (M : AnyModel {ℓ}) → ¬ SatisfiesIn M (state absurdity).equals (state absurdity).unequals
unfolding fits_test apply_test
no_model_at_all M = no_model (state absurdity) (state_valid absurdity (formed_e absurdity tt)) feasible_no M

-- ── the letters of a run ──
-- x!=x, z:=f(x), z:=x, x=y: infeasible at 1, and still judged incoherent at 4. Registers x y z are 0 1 2.
abbrev late : Trace
late = one 3 ▸ Unequal 0 0 ▸ Apply 2 0 0 0 ▸ Copy 2 0 ▸ Equal 0 1

pub both_letters : Judgement late 4 1
unfolding incoherent_letter infeasible_letter coherent_part fits_test apply_test
both_letters = judgement_is late (formed_e late tt)

pub judgement_no : ¬ Judgement late 4 0
judgement_no j = let e = (judgement_unique late 4 1 4 0 both_letters j).1 in omega arith

-- z:=f(x), z:=y, x!=y, x=y: incoherent at 4, so that a run names no infeasible letter; the whole-trace engine names 4. Registers x y z are 0 1 2.
abbrev split_view : Trace
split_view = one 3 ▸ Apply 2 0 0 0 ▸ Copy 2 1 ▸ Unequal 0 1 ▸ Equal 0 1

pub run_names : Judgement split_view 4 0
unfolding incoherent_letter infeasible_letter coherent_part fits_test apply_test
run_names = judgement_is split_view (formed_e split_view tt)

pub engine_names : first_infeasible split_view ≡ 4
unfolding first_infeasible
engine_names = refl

pub longest_yes : Longest split_view (one 3 ▸ Apply 2 0 0 0 ▸ Copy 2 1 ▸ Unequal 0 1)
unfolding coherent_part fits_test apply_test
longest_yes = longest_is split_view (formed_e split_view tt)

pub longest_no : ¬ Longest lost (one 3)
longest_no l = let b = l.longest lost whole coherent_yes in omega arith

-- ── windows ──
pub tracks_yes : Tracks σ (view_of σ)
tracks_yes = tracks_of σ valid

-- a register is in its own class
pub tracks_no : (w : View) → w.same 0 0 ≡ false → ¬ Tracks σ w
tracks_no w e t = subst T e ((t.same 0 0 (lit< tt) (lit< tt)).1 (reflexive (constants_computed lost 0 (lit< tt))))

-- a test of registers that are equal already changes nothing
pub same_window_yes : SameWindow τ (state (parted ▸ Equal 0 0))
same_window_yes = redundant_test τ 0 0 same_yes

-- an equal test joins two classes
pub same_window_no : ¬ SameWindow (state (one 2)) (state (one 2 ▸ Equal 0 1))
same_window_no w =
    ((tracks_of (state (one 2)) (state_valid (one 2) tt)).same 0 1 (lit< tt) (lit< tt)).1
    ((w.same 0 1 (lit< tt) (lit< tt)).1 (Closure.test (Memᴰ.head refl)))

-- ── tables ──
pub in_range_yes : InRange (tables_of (state printed))
unfolding tables_of
in_range_yes = in_range (state printed).header.registers (reverse (state printed).terms) (state printed).equals

pub in_range_no : ¬ InRange (record { count = 0; starts = []; rows = [] })
in_range_no h = let z = h.default in omega arith

-- the tables that document 01 prints can be packed, and come back from their bytes
pub packable_yes : Packable first_edition (state printed).header (tables_of (state printed))
unfolding printed fits_test apply_test
packable_yes =
    let w = formed_e printed tt in
    shown_packable first_edition (state printed) (state_valid printed w) (applications_fit printed w) refl (lit≤ tt) (lit< tt) (lit< tt)

pub printed_back : read_tables first_edition (state printed).header (pack_tables first_edition (state printed).header (tables_of (state printed)))
    ≡ tables_of (state printed)
printed_back = read_packed first_edition (state printed).header (tables_of (state printed)) packable_yes

-- tables for one register have one initial value
pub packable_no : ¬ Packable first_edition (record { registers = 1; functions = 0; binary = 0 }) (record { count = 1; starts = []; rows = [] })
packable_no p = let e = p.registers in omega arith

pub numbering_yes : Numbering (reverse (state lost).terms) (state lost).equals (shown_value (state lost))
    (length (classes_of (reverse (state lost).terms) (state lost).equals))
numbering_yes = shown_numbering (state lost) valid

-- values start at 1
pub numbering_no : ¬ Numbering (con 0 ∷ []) [] (λ t. 0) 0
numbering_no h = let (a, b) = (h.all 0).1 (con 0, Memᴰ.head refl, refl) in omega arith

pub listing_yes : RowListing (reverse (state lost).terms) (shown_value (state lost)) (rows_of (reverse (state lost).terms) (state lost).equals)
listing_yes = shown_listing (state lost) valid

pub listing_no : ¬ RowListing (app 0 (con 0) (con 0) ∷ con 0 ∷ []) (λ t. 1) []
listing_no h = Memᴰ.not-nil (h.complete 0 (con 0) (con 0) (Memᴰ.head refl))

pub is_shown_yes : IsShown 3 (reverse (state lost).terms) (state lost).equals (tables_of (state lost))
is_shown_yes = tables_are lost well_formed

-- value 0 is counted
pub is_shown_no : ¬ IsShown 0 [] [] (record { count = 0; starts = []; rows = [] })
is_shown_no s = let c = s.count in omega arith

-- ── the first slip: Definition 5 with two arguments ──
-- u:=f(x,w), v:=f(y,w), w:=x, x=y. Registers u v w x y are 0 1 2 3 4.
abbrev pub early_slip : Trace
early_slip = two 5 ▸ Apply 0 0 3 2 ▸ Apply 1 0 4 2 ▸ Copy 2 3

results_held : Term → Bool
results_held (con r) = true
results_held (app f a b) = held (merges_of (state early_slip)) (state early_slip) (app f a b)

-- Definition 5 lets the test through, for u and v hold the results,
pub early_by_definition_5 : EarlyModulo (state early_slip) 3 4
unfolding results_held fits_test apply_test
early_by_definition_5 =
    early_results (state early_slip) v (constants_computed early_slip) 3 4 (lit< tt) (lit< tt) (λ f a b m k. kept f a b m) (λ f a b m k. kept f a b m)
  where
    v : Valid (state early_slip)
    v = state_valid early_slip (formed_e early_slip tt)

    kept : (f : ℕ) (a b : Term) → app f a b ∈ (state early_slip).terms → Held (state early_slip) (app f a b)
    kept f a b m = held_e (state early_slip) v m (all_e results_held {a = app f a b} {l = (state early_slip).terms} tt m)

-- document 01 does not, for no register holds the old w,
pub early_by_document_01 : ¬ Early (state early_slip) 3 4
unfolding fits_test apply_test
early_by_document_01 h = (early_computed (state early_slip) 3 4 (state_valid early_slip (formed_e early_slip tt)) (lit< tt) (lit< tt)).1 h

-- So the whole trace is coherent by Definition 5, and not here,
pub slip_stricter : CoherentModulo (early_slip ▸ Equal 3 4) × ¬ Coherent (early_slip ▸ Equal 3 4)
unfolding fits_test apply_test
slip_stricter = (
  (coherent_stricter early_slip (formed_e early_slip tt) ((coherent_is early_slip (formed_e early_slip tt)).0 tt), early_by_definition_5),
  (coherent_is (early_slip ▸ Equal 3 4) (formed_e (early_slip ▸ Equal 3 4) tt)).1,
)

second_is_w : Term → Bool
second_is_w (con r) = true
second_is_w (app f a b) = eqt b (con 2)

-- so that the window before the test has no held result at all,
pub unseen : (f a b r : ℕ) → b < 5 → ¬ Result (state early_slip) f a b r
unfolding second_is_w fits_test apply_test
unseen f a b r bb m =
    let w = eqt→eq m.second (con 2) (all_e second_is_w {a = app f m.first m.second} {l = (state early_slip).terms} tt m.listed) in
    held_i (state early_slip) (state_valid early_slip (formed_e early_slip tt)) {t = con 2}
    (b, bb, subst (λ u. Equivalent (state early_slip) u ((state early_slip).value b)) w m.at_second)

-- and after it u and v are equal.
pub equal_unseen : Same (state (early_slip ▸ Equal 3 4)) 0 1
unfolding fits_test apply_test
equal_unseen =
    ((tracks_of (state (early_slip ▸ Equal 3 4)) (state_valid (early_slip ▸ Equal 3 4) (formed_e (early_slip ▸ Equal 3 4) tt))).same 0 1 (lit< tt)
    (lit< tt)).0 tt

-- ── the second slip: section 3.2.2's formula against its prose ──
-- y:=x, x:=f(x) records f at the class of y, though the argument register named in the letter is the target. Registers x y are 0 1.
abbrev formula_slip : Trace
formula_slip = one 3 ▸ Copy 1 0 ▸ Apply 0 0 0 0

pub result_of_class : Result (state formula_slip) 0 1 1 0
unfolding fits_test apply_test
result_of_class =
    ((tracks_of (state formula_slip) (state_valid formula_slip (formed_e formula_slip tt))).result 0 1 1 0 (lit< tt) (lit< tt) (lit< tt)).0 tt

-- ── request 3: z:=f(x), z:=x, x=x. Registers x y z are 0 1 2 ──
repeated_formed : WellFormed repeated
unfolding fits_test apply_test
repeated_formed = formed_e repeated tt

repeated_valid : Valid (state repeated)
repeated_valid = state_valid repeated repeated_formed

-- The test is coherent, for its sides are equal,
pub repeated_coherent : Coherent (repeated ▸ Equal 0 0)
unfolding fits_test apply_test
repeated_coherent = (coherent_is (repeated ▸ Equal 0 0) (formed_e (repeated ▸ Equal 0 0) tt)).0 tt

-- and not by document 01's own rule, for what is above them is lost,
pub repeated_strictly : ¬ StrictlyCoherent (repeated ▸ Equal 0 0)
repeated_strictly (c, e) = (early_computed (state repeated) 0 0 repeated_valid (lit< tt) (lit< tt)).1 e

-- nor by Definition 5.
pub repeated_by_definition_5 : ¬ CoherentModulo (repeated ▸ Equal 0 0)
repeated_by_definition_5 (c, e) =
    let i = constants_computed repeated 0 (lit< tt) in
    let m : fx ∈ (state repeated).terms = Memᴰ.head refl in
    let above = (superterm_is (state repeated) repeated_valid (constants_computed repeated) i m).1 (once m (inl (reflexive i)) (reflexive m)) in
    held_i (state repeated) repeated_valid ((held_is (state repeated) repeated_valid m).0 (e fx m (inl above)))

-- Without the test it is z:=f(x), z:=x, which is coherent by either rule.
unchanged : WithoutRedundant repeated repeated
unchanged = left_in (left_in without_letters (λ k. k)) (λ k. k)

pub without_yes : WithoutRedundant (repeated ▸ Equal 0 0) repeated
without_yes = left_out unchanged (reflexive (constants_computed repeated 0 (lit< tt)))

pub strictly_yes : StrictlyCoherent repeated
strictly_yes = (without_strict unchanged repeated_formed repeated_coherent.0).0

-- A test of sides that are not equal is not left out.
pub without_no : ¬ WithoutRedundant (one 2 ▸ Equal 0 1) (one 2)
without_no (left_out p r) = same_window_no (redundant_test (state (one 2)) 0 1 r)
