-- Laws of writing a trace from its end.
use mathlib.Core.Path.{◌≡◌, refl, sym, ap, ◌∙◌}
use Prim.Native.Nat.{ℕ, zero, suc, ◌+◌, ◌/◌, ◌%◌, ◌≤◌, ◌<◌}
use native.Mathlib.Omega.{arith}
use mathlib.Core.Bool.{◌&&◌}
use Rattle.base.proofs.Theory.Choice.{by_test}
use mathlib.Core.List.{List, [], ◌∷◌, ◌++◌}
use lib.ListN.{length, get_or, take, drop}
use lib.Seq.{drop_at, drop-drop, length-take-le}
use Rattle.letters.specs.declared.Header.{Header}
use Rattle.letters.specs.declared.Letter.{Letter}
use Rattle.letters.specs.Editions.{first_edition}
use Rattle.letters.specs.Coding.{header_test, fits_test}
use Rattle.letters.proofs.Theory.WordLaws.{and_true, header-test, fits-test}
use Rattle.letters.specs.Encoding.{encode_header, encode_letter}
use borrow.Rule.Slice.PartMut.{put_mid}
use Rattle.traces.specs.Traces.{units, bytes_of}
use Rattle.traces.proofs.Theory.Units.{unit_bytes, header_word_below, letter_word_below}
use Rattle.grammar.specs.Limits.{most_points}
use Rattle.blocks.specs.declared.PointEntry.{PointEntry}
use Rattle.table.specs.Table.{point_at, parent_at, branch_at}
use Rattle.blocks.specs.Held.{unused_point}
use Rattle.exploration.specs.Moves.{move_of, letter_of}
use Rattle.search.specs.Trails.{letter_of_branch, trail_to, trail_of}
use Rattle.search.specs.Tracing.{Older, word_or_zero, letter_words, traced}

-- the words of a header and of a letter have two bytes
header_small : (h : Header) → word_or_zero (encode_header first_edition h) < 65536
unfolding encode_header
header_small h = by_test (header_test first_edition h)
    (λ t. rw t (header_word_below h ((header-test first_edition h).0 t)))
    (λ t. rw t (omega arith))

letter_small : (h : Header) (a : Letter) → word_or_zero (encode_letter first_edition h a) < 65536
unfolding encode_letter
letter_small h a = by_test (header_test first_edition h && fits_test h a)
    (λ t. let (v, f) = and_true (header_test first_edition h) (fits_test h a) t in
    rw t (letter_word_below h ((header-test first_edition h).0 v) a ((fits-test h a).0 f)))
    (λ t. rw t (omega arith))

-- a word in front of what stands behind it
pub word_put : (b w : List ℕ) (at from : ℕ) → at + 2 ≡ from → from ≤ length b → drop at (put_mid at 2 b w) ≡ w ++ drop from b
word_put b w at from e l =
    drop_at (take at b) (w ++ drop 2 (drop at b)) at (length-take-le at b (omega arith)) ∙ ap (λ r. w ++ r) (drop-drop 2 at b ∙ ap (λ n. drop n b) e)

pub none_written : (h : Header) → [] ≡ bytes_of first_edition (letter_words h [])
unfolding units
none_written h = refl

-- a letter more in front
module _ (h : Header) (w : ℕ) (rest : List Letter) (behind : List ℕ) (e : behind ≡ bytes_of first_edition (letter_words h rest)) where
  pub letter_before : (a : Letter) → w ≡ word_or_zero (encode_letter first_edition h a)
      → w / 256 ∷ w % 256 ∷ behind ≡ bytes_of first_edition (letter_words h (a ∷ rest))
  unfolding units
  letter_before a f = (λ i. f i / 256 ∷ f i % 256 ∷ e i)
      ∙ ap (λ s. s ++ bytes_of first_edition (letter_words h rest)) (sym (unit_bytes _ (letter_small h a)))

  pub header_before : w ≡ word_or_zero (encode_header first_edition h) → w / 256 ∷ w % 256 ∷ behind ≡ traced h rest
  unfolding units traced
  header_before f = (λ i. f i / 256 ∷ f i % 256 ∷ e i)
      ∙ ap (λ s. s ++ bytes_of first_edition (letter_words h rest)) (sym (unit_bytes _ (header_small h)))

-- the letters up to a pair, with any number of calls that suffices
trail_same : (sp : List PointEntry) (t : List ℕ) (n : ℕ) → Older t n → (f g j : ℕ) (rest : List Letter) → j < n → j ≤ f → j ≤ g
    → trail_to sp t f j rest ≡ trail_to sp t g j rest
unfolding trail_to
trail_same sp t n o zero zero j rest l p q = refl
trail_same sp t n o zero (suc g) zero rest l p q = refl
trail_same sp t n o zero (suc g) (suc j) rest l p q = absurd (omega arith)
trail_same sp t n o (suc f) zero zero rest l p q = refl
trail_same sp t n o (suc f) zero (suc j) rest l p q = absurd (omega arith)
trail_same sp t n o (suc f) (suc g) zero rest l p q = refl
trail_same sp t n o (suc f) (suc g) (suc j) rest l p q =
    let i = o (suc j) (omega arith) l in
    trail_same sp t n o f g (parent_at t (suc j)) (letter_of_branch sp t (parent_at t (suc j)) (branch_at t (suc j)) ∷ rest) (omega arith) (omega arith)
    (omega arith)

-- a step from a pair to its parent
trail_step : (sp : List PointEntry) (t : List ℕ) (n : ℕ) → Older t n → (j : ℕ) (rest : List Letter) → 0 < j → j < n
    → trail_to sp t (parent_at t j) (parent_at t j) (letter_of_branch sp t (parent_at t j) (branch_at t j) ∷ rest) ≡ trail_to sp t j j rest
unfolding trail_to
trail_step sp t n o zero rest l q = absurd (omega arith)
trail_step sp t n o (suc j) rest l q =
    let i = o (suc j) (omega arith) q in
    trail_same sp t n o (parent_at t (suc j)) j (parent_at t (suc j)) (letter_of_branch sp t (parent_at t (suc j)) (branch_at t (suc j)) ∷ rest) (omega arith)
    (omega arith) (omega arith)

trail_end : (sp : List PointEntry) (t : List ℕ) (rest : List Letter) (j : ℕ) → j ≡ 0 → trail_to sp t j j rest ≡ rest
unfolding trail_to
trail_end sp t rest zero e = refl
trail_end sp t rest (suc j) e = absurd (omega arith)

-- the letter of a branch of the point of pair i
pub letter_is : (sp : List PointEntry) (t : List ℕ) (i b k : ℕ) (a : Letter) → k ≡ point_at t i
    → a ≡ letter_of (move_of (get_or sp (k % most_points) unused_point) b)
    → a ≡ letter_of_branch sp t i b
unfolding letter_of_branch
letter_is sp t i b k a e f = f ∙ ap (λ n. letter_of (move_of (get_or sp (n % most_points) unused_point) b)) e

-- a turn of the loop: from pair j to its parent
pub trail_turn : (sp : List PointEntry) (t : List ℕ) (n : ℕ) → Older t n → (j parent branch : ℕ) (letter : Letter) (rest whole : List Letter) → 0 < j → j < n
    → parent ≡ parent_at t j → branch ≡ branch_at t j → letter ≡ letter_of_branch sp t parent branch → trail_to sp t j j rest ≡ whole
    → trail_to sp t parent parent (letter ∷ rest) ≡ whole
trail_turn sp t n o j parent branch letter rest whole l q pe be le e =
    let le' : letter ≡ letter_of_branch sp t (parent_at t j) (branch_at t j) = le ∙ (λ i. letter_of_branch sp t (pe i) (be i)) in
    (λ i. trail_to sp t (pe i) (pe i) (le' i ∷ rest)) ∙ trail_step sp t n o j rest l q ∙ e

pub trail_first : (sp : List PointEntry) (t : List ℕ) (d : ℕ) (letter : Letter) → letter ≡ letter_of_branch sp t (d / 2) (d % 2)
    → trail_to sp t (d / 2) (d / 2) (letter ∷ []) ≡ trail_of sp t d
unfolding trail_of
trail_first sp t d letter e = ap (λ a. trail_to sp t (d / 2) (d / 2) (a ∷ [])) e

-- nothing is left before the first pair
pub trail_whole : (sp : List PointEntry) (t : List ℕ) (j : ℕ) (rest whole : List Letter) → j ≡ 0 → trail_to sp t j j rest ≡ whole → rest ≡ whole
trail_whole sp t j rest whole e f = sym (trail_end sp t rest j e) ∙ f
