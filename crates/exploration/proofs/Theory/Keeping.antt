-- What follows from the definitions of specs/Keeping.antt.
use mathlib.Core.Path.{◌≡◌, refl, sym, ap, ◌∙◌, subst}
use Prim.Native.Nat.{ℕ, ◌+◌, ◌*◌, ◌/◌, ◌≤◌, ◌<◌}
use native.Mathlib.Omega.{arith}
use mathlib.Core.List.{List}
use lib.ListN.{length, get_or, set}
use Rattle.letters.specs.Capacity.{most_pairs}
use Rattle.base.proofs.Theory.Choice.{by_test}
use Rattle.window.specs.declared.Window.{Window}
use Rattle.records.specs.Records.{record_bytes, encoded_bytes, record_of}
use Rattle.table.specs.Table.{put_at, window_at}
use Rattle.table.proofs.Theory.TableLaws.{record_long, window_other, pair_other, pair_same}
use Rattle.index.specs.Index.{chain_of, IndexedPairs}
use Rattle.index.proofs.Theory.IndexLaws.{index_more}
use Rattle.std.specs.Prelude.{Result, Ok, Err}
use Rattle.exploration.specs.declared.Stop.{Stop}
use Rattle.exploration.specs.declared.Stop.TheVariants.{Breaking, Failing}
use Rattle.exploration.specs.Turns.{fail_turn}
use Rattle.exploration.specs.Keeping.{Carried, Keeps}

module _ (count : ℕ) (t head link : List ℕ) (x : IndexedPairs t head link count) where
  -- nothing is listed
  pub keeps_on : Keeps count t (Ok count) t head link
  keeps_on = record { windows = λ j l. refl; indexed = λ m e. subst (IndexedPairs t head link) (let z : count ≡ m = cc in z) x }

  pub keeps_stopped : (s : Stop) → Keeps count t (Err s) t head link
  keeps_stopped s = record { windows = λ j l. refl; indexed = λ m e. absurd (let z : ◌≡◌ {A = ℕ} 0 1 = cc in omega arith) }

  pub keeps_failed : (w : Window) (d : ℕ) (r : Result ℕ Stop) → r ≡ fail_turn w count d → Keeps count t r t head link
  unfolding fail_turn
  keeps_failed w d r e =
      subst (λ r. Keeps count t r t head link) (sym e) (by_test w.infeasible (λ i. rw i keeps_on) λ i. rw i (keeps_stopped (Failing count d)))

  pub keeps_broken : (d : ℕ) (r : Result ℕ Stop) → r ≡ Err (Breaking count d) → Keeps count t r t head link
  keeps_broken d r e = subst (λ r. Keeps count t r t head link) (sym e) (keeps_stopped (Breaking count d))

  -- a pair is listed
  module _ (pair : List ℕ) (i b : ℕ) (whole : length pair ≡ encoded_bytes) (within : count < most_pairs)
      (fits : record_bytes * count + record_bytes ≤ length t) where
    long : length (record_of pair i b) ≡ record_bytes
    long = record_long t count i b pair fits whole

    new : Keeps count t (Ok (count + 1)) (put_at t count (record_of pair i b)) (set head (chain_of pair) count) (set link count (get_or head (chain_of pair) 0))
    new = record {
      windows = λ j l. window_other t count (record_of pair i b) fits long j (λ z. omega arith);
      indexed = λ m e. subst
          (IndexedPairs (put_at t count (record_of pair i b)) (set head (chain_of pair) count) (set link count (get_or head (chain_of pair) 0)))
          (let z : count + 1 ≡ m = cc in z)
          (index_more t head link count x within pair (put_at t count (record_of pair i b))
          (λ j l. pair_other t count (record_of pair i b) fits long j (λ z. omega arith))
          (pair_same t count i b pair fits whole));
    }

    pub keeps_new : (t' head' link' : List ℕ) → t' ≡ put_at t count (record_of pair i b) → head' ≡ set head (chain_of pair) count
        → link' ≡ set link count (get_or head (chain_of pair) 0)
        → Keeps count t (Ok (count + 1)) t' head' link'
    keeps_new t' head' link' e f g = rw (e, f, g) new

-- ---- from move to move
pub carried_none : (w : Window) (t : List ℕ) → Carried w 0 t
carried_none w t = record { window = λ z. absurd (z refl) }

pub carried_on : (w : Window) (d count : ℕ) (t : List ℕ) (turn : Result ℕ Stop) (t' head link : List ℕ) → w ≡ window_at t (d / 2) → d < 2 * count
    → Keeps count t turn t' head link → Carried w (d + 1) t'
carried_on w d count t turn t' head link e l k = record {
  window = λ z. e ∙ sym (k.windows (d / 2) (omega arith)) ∙ ap (window_at t') (let s : d / 2 ≡ (d + 1) / 2 = omega (arith, z) in s);
}
