-- Where the search ends.
use mathlib.Core.Path.{◌≡◌, refl, sym, ap, ◌∙◌, subst}
use mathlib.Core.Bool.{Bool, true, false}
use mathlib.Core.List.{List}
use mathlib.Core.Option.{none, some}
use Prim.Native.Nat.{ℕ, zero, suc, ◌+◌, ◌*◌, ◌/◌, ◌%◌, ◌≤◌, ◌<◌}
use native.Mathlib.Omega.{arith}
use lib.Dec.{ltb}
use lib.ListN.{length}
use borrow.Author.Tests.{lt-ltb, ltb-true, ltb-false}
use Rattle.letters.specs.Capacity.{most_pairs}
use Rattle.base.proofs.Theory.Choice.{by_test}
use Rattle.semantics.specs.Terms.{begin, state}
use Rattle.semantics.proofs.Theory.Facts.{state_valid}
use Rattle.macros.specs.Order.{first}
use Rattle.macros.specs.Points.{entry}
use Rattle.verdict_theory.proofs.Theory.System.{event}
use Rattle.verdict_theory.proofs.Theory.Listing.{Listing, begins_one, listed_more}
use Rattle.verdict_theory.specs.Verdict.{Kind, breaking, failing}
use Rattle.verdict_theory.proofs.Theory.Pairs.{first_pair}
use Rattle.blocks.specs.declared.PointEntry.{PointEntry}
use Rattle.window.specs.declared.Window.{Window}
use Rattle.records.specs.Records.{record_bytes, encoded, record_of}
use Rattle.records.proofs.Theory.Storable.{Storable}
use Rattle.table.specs.Table.{put_at, point_at, window_at}
use Rattle.table.proofs.Theory.TableLaws.{PairStored}
use Rattle.stored.proofs.Theory.Stored.{storable}
use Rattle.std.specs.Prelude.{Result, Ok, Err}
use Rattle.exploration.specs.declared.Stop.{Stop}
use Rattle.exploration.specs.declared.Stop.TheVariants.{Full, Breaking, Failing}
use Rattle.exploration.specs.Turns.{turn_of, table_of}
use Rattle.exploration.specs.Exploring.{point_of, on_turn, explore_from}
use Rattle.exploration.proofs.Theory.Store.{branch_numbered, listed, written, put_long}
use Rattle.exploration.specs.Given.{Given}
use Rattle.exploration.proofs.Theory.Given.{header, end, held, fresh, setting}
use Rattle.exploration.proofs.Theory.Going.{starts, step, Live, Passing, Going, Turned, turned}

entry_zero : (n : ℕ) → entry n 0 n ≡ 0
unfolding entry
entry_zero zero = refl
entry_zero (suc n) = refl

module _ (given : Given) where
  -- Move number d is an event, with k pairs listed in the table t, which holds n.
  pub record Met (n : ℕ) (kind : Kind) (k d : ℕ) (t : List ℕ) : Type 0 where
    pub going : Going given n k d t
    pub due : d < 2 * k
    pub happens : step given (point_at t (d / 2), window_at t (d / 2)) (branch_numbered (d % 2)) ≡ event kind

  -- How the search has ended, with the table t, which holds n pairs.
  abbrev pub SearchEnded : ℕ → Result ℕ Stop → List ℕ → Type 0
  SearchEnded n (Err Full) t = Passing given n
  SearchEnded n (Ok k) t = Going given n k (2 * k) t
  SearchEnded n (Err (Breaking k d)) t = Met n breaking k d t
  SearchEnded n (Err (Failing k d)) t = Met n failing k d t

  abbrev EndedAs : ℕ → Result ℕ Stop × List ℕ → Type 0
  EndedAs n r = SearchEnded n r.0 r.1

  finished : (n count d : ℕ) (t : List ℕ) → Going given n count d t → 2 * count ≤ d → SearchEnded n (Ok count) t
  finished n count d t g l = subst (λ e. Going given n count e t) (let b = g.behind in omega arith) g

  -- every end is one of these
  pub explored : (n f count d : ℕ) (t : List ℕ) → Going given n count d t → 2 * n ≤ f + d
      → SearchEnded n (explore_from f (held given) (end given) n count d t).0 (explore_from f (held given) (end given) n count d t).1
  unfolding explore_from
  explored n zero count d t g l = finished n count d t g (let w = g.within in omega arith)
  explored n (suc f) count d t g l = by_test (ltb d (2 * count))
      (λ e. rw e (after (turn_of x (end given) n count d t) (table_of x (end given) n count d t) (ltb-true d (2 * count) e)
      (turned given n count d t g (ltb-true d (2 * count) e))
      (λ m u v. explored n f m (d + 1) u v (omega arith))))
      (λ e. rw e (finished n count d t g (ltb-false d (2 * count) e)))
    where
      x : PointEntry
      x = point_of (held given) t (d / 2)

      after : (r : Result ℕ Stop) (u : List ℕ) → d < 2 * count → Turned given n count d t r u
          → ((m : ℕ) (v : List ℕ) → Going given n m (d + 1) v → EndedAs n (explore_from f (held given) (end given) n m (d + 1) v))
          → EndedAs n (on_turn r u λ m. explore_from f (held given) (end given) n m (d + 1) u)
      after (Ok m) u q z ih = ih m u z
      after (Err Full) u q z ih = z
      after (Err (Breaking k e)) u q (happens, leaves, a, b) ih = rw (leaves, a, b) (record { going = g; due = q; happens = happens })
      after (Err (Failing k e)) u q (happens, leaves, a, b) ih = rw (leaves, a, b) (record { going = g; due = q; happens = happens })

  -- a search begins at point 0, where there is one
  starts_at : 0 < end given → starts given ≡ some (0, fresh given)
  starts_at l =
      ap (first_pair (fresh given) (end given)) (entry_zero (end given))
      ∙ ap (λ (b : Bool). elim b [ true ↦ some (0, fresh given) | false ↦ none ]) (lt-ltb 0 (end given) l)

  -- the first pair
  module _ (n : ℕ) (t : List ℕ) (some_point : 0 < end given) (some_room : 0 < n) (most : n ≤ most_pairs) (room : record_bytes * n ≤ length t) where
    abbrev u : List ℕ
    u = put_at t 0 (record_of (encoded 0 (fresh given)) 0 0)

    live : Live given (fresh given)
    live = (begin (header given), (tt, refl), tt, (setting given).monitor.begins)

    fits_record : Storable (fresh given)
    fits_record = storable (state (begin (header given))) (state_valid (begin (header given)) tt) (fresh given) (setting given).monitor.begins

    pub first_listed : Going given n 1 0 (put_at t 0 (record_of (encoded 0 (fresh given)) 0 0))
    first_listed =
        let (a, b, c, d, e) = written t 0 0 0 0 (fresh given) (omega arith) fits_record (omega arith) (omega arith) (omega arith) in
        record {
          searching = begins_one (starts given) (step given) (listed u 1) (0, fresh given) (starts_at some_point) refl (λ i. (a i, b i));
          kept = λ j l. subst (PairStored u) (let z : 0 ≡ j = omega arith in z) e;
          live = λ j l. subst (λ j. Live given (window_at u j)) (let z : 0 ≡ j = omega arith in z) (subst (Live given) (sym b) live);
          due = λ j l. subst (λ j. point_at u j < end given) (let z : 0 ≡ j = omega arith in z) (subst (λ k. k < end given) (sym a) some_point);
          within = omega arith;
          behind = omega arith;
          most = most;
          room = let y = put_long t 0 0 0 0 (fresh given) (omega arith) fits_record in omega arith;
        }

  -- where not even the first pair fits
  pub none_fits : (n : ℕ) → 0 < end given → n ≡ 0 → Passing given n
  none_fits n l e = listed_more (starts given) (step given) one 0 n (begins_one (starts given) (step given) one (0, fresh given) (starts_at l) refl refl)
      (omega arith)
    where
      one : Listing (ℕ × Window)
      one = record { count = 1; state = λ j. (0, fresh given); parent = λ j. 0; branch = λ j. first }
