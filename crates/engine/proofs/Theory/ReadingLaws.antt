-- The letters of a trace, read one after another as they are performed.
use Rattle.std.specs.Prelude.{Option, Some, None}
use mathlib.Core.Path.{◌≡◌, refl, sym, ◌∙◌, ap}
use mathlib.Core.List.{List, [], ◌∷◌, ◌++◌, append_assoc}
use Prim.Native.Nat.{ℕ, suc, ◌+◌, ◌-◌, ◌*◌, ◌%◌, ◌≤◌, ◌<◌}
use native.Mathlib.Omega.{arith}
use lib.Dec.{ltb, eqb}
use lib.ListN.{length, get_or, take, drop}
use lib.Seq.{drop-drop}
use borrow.Author.Tests.{le-ltb, le-leb, ltb-false, eqb-true}
use Rattle.base.proofs.Theory.Choice.{by_test}
use Rattle.std.specs.Prelude.{Some, None}
use Rattle.letters.specs.declared.Header.{Header}
use Rattle.letters.specs.declared.Letter.{Letter}
use Rattle.letters.specs.Letters.{Fits}
use Rattle.letters.specs.Packing.{join}
use Rattle.letters.specs.Editions.{first_edition, most_letters}
use Rattle.letters.specs.Answers.{value, refusal, on_answer}
use Rattle.letters.specs.CodeAnswers.{letter_answer}
use Rattle.letters.specs.Letters.{HeaderFits}
use Rattle.letters.specs.Coding.{decode_letter}
use Rattle.letters.proofs.Theory.WordLaws.{first_roomy, decode-header, decode-letter}
use Rattle.traces.proofs.Theory.Units.{unit_at}
use Rattle.traces.specs.Reading.{TraceReading, trace, prepend_letter, octets, reading}
use Rattle.traces.specs.Reading.{reading_where, beginning, letters_from, letters_of, letter_in, letter_count}
use Rattle.traces.specs.Reading.{chunks}
use Rattle.traces.specs.ReadingParts.{reading_within, letter_at}
use Rattle.letters.specs.RefusalNumbers.{letter_malformed}
use Rattle.engine.specs.Run.{Begun, reading_from, behind, RestRead, all_read, broken}
use Rattle.engine.proofs.Theory.Run.{Following}

not_value : {A : Type 0} {a b : ℕ} {x : A} → refusal a b ≡ value x → ⊥
not_value e = let z : ◌≡◌ {A = ℕ} 0 1 = cc in omega arith

-- what a header that was read tells of the bytes
pub record Headed (s : List ℕ) (h : Header) : Type 0 where
  pub enough : 2 ≤ length s
  pub whole : length s % 2 ≡ 0
  pub fits : HeaderFits first_edition h

pub headed : (s : List ℕ) (h : Header) → beginning first_edition s ≡ value h → Headed s h
unfolding beginning
headed s h = by_test (ltb (length s) 2)
    (λ t. rw t λ q. absurd (not_value q))
    λ t. rw t (by_test (eqb (length s % 2) 0)
    (λ u. rw u λ q. record {
      enough = ltb-false (length s) 2 t;
      whole = eqb-true (length s % 2) 0 u;
      fits =
          ((decode-header first_roomy (join (octets first_edition) (take 2 s)) h).0 q).0;
    })
    λ u. rw u λ q. absurd (not_value q))

-- ---- some letters, and then what is read
pub behind_none : (x : TraceReading) → behind [] x ≡ x
behind_none (trace h ms) = refl
behind_none (TraceReading.refused a b) = refl

pub behind_one : (ls : List Letter) (l : Letter) (x : TraceReading) → behind ls (prepend_letter l x) ≡ behind (ls ++ (l ∷ [])) x
behind_one ls l (trace h ms) = ap (trace h) (sym (append_assoc ls (l ∷ []) ms))
behind_one ls l (TraceReading.refused a b) = refl

module _ (s : List ℕ) (h : Header) (n : ℕ) (r : Begun s h n) where
  -- the letters are read as questions 5 and 4 ask
  pub read_within : reading_within most_letters first_edition s ≡ letters_of first_edition h s
  unfolding reading_where
  read_within = let c = r.letters in let f = r.few in rw (r.header, le-ltb most_letters (letter_count first_edition s) (omega arith))

  pub read_any : reading first_edition s ≡ letters_of first_edition h s
  unfolding reading_where
  read_any = rw r.header

  pub rest_starts : letters_of first_edition h s ≡ reading_from s h n 0
  unfolding letters_of
  rest_starts = let e : letter_count first_edition s ≡ n - 0 = (let c = r.letters in omega arith) in
      ap (λ m. letters_from (letter_in first_edition h) h 1 (chunks 2 m (drop 2 s))) e

  pub rest_ends : (k : ℕ) → n ≤ k → reading_from s h n k ≡ trace h []
  unfolding chunks letters_from
  rest_ends k b = let e : n - k ≡ 0 = omega arith in ap (λ m. letters_from (letter_in first_edition h) h (k + 1) (chunks 2 m (drop (2 * (k + 1)) s))) e

  -- letter k is decoded
  module _ (k : ℕ) (b : k < n) (d : Option Letter) (e : letter_answer d ≡ letter_at first_edition h s k) where
    unit : letter_at first_edition h s k ≡ letter_in first_edition h (take 2 (drop (2 * (k + 1)) s))
    unfolding letter_at
    unit = let c = r.letters in rw (le-leb (2 * (k + 2)) (length s) (omega arith))

    -- the letters from k on are letter k and the others
    rest_is : reading_from s h n k ≡ on_answer (letter_answer d) (λ l. prepend_letter l (reading_from s h n (k + 1)))
        λ _ _. TraceReading.refused letter_malformed
        (k + 1)
    unfolding chunks letters_from
    rest_is =
        let m : n - k ≡ suc (n - (k + 1)) = omega arith in
        let p : drop 2 (drop (2 * (k + 1)) s) ≡ drop (2 * (k + 1 + 1)) s =
        drop-drop 2 (2 * (k + 1)) s ∙ ap (λ i. drop i s) (let z : 2 * (k + 1) + 2 ≡ 2 * (k + 1 + 1) = omega arith in z) in
        ap (λ m. letters_from (letter_in first_edition h) h (k + 1) (chunks 2 m (drop (2 * (k + 1)) s))) m
        ∙ ap (λ t. on_answer (letter_in first_edition h (take 2 (drop (2 * (k + 1)) s)))
        (λ l. prepend_letter l (letters_from (letter_in first_edition h) h (k + 1 + 1) (chunks 2 (n - (k + 1)) t))) λ _ _. TraceReading.refused letter_malformed
        (k + 1)) p
        ∙ ap (λ a. on_answer a (λ l. prepend_letter l (reading_from s h n (k + 1))) λ _ _. TraceReading.refused letter_malformed (k + 1)) (sym (e ∙ unit))

    pub rest_bad : d ≡ None → reading_from s h n k ≡ TraceReading.refused letter_malformed (k + 1)
    rest_bad q = rest_is ∙ ap (λ d. on_answer (letter_answer d) (λ l. prepend_letter l (reading_from s h n (k + 1)))
        λ _ _. TraceReading.refused letter_malformed
        (k + 1)) q

    module _ {l : Letter} (q : d ≡ Some l) where
      pub rest_good : reading_from s h n k ≡ prepend_letter l (reading_from s h n (k + 1))
      rest_good = rest_is ∙ ap (λ d. on_answer (letter_answer d) (λ l. prepend_letter l (reading_from s h n (k + 1)))
          λ _ _. TraceReading.refused letter_malformed
          (k + 1)) q

      pub letter_fits : Fits h l
      letter_fits = ((decode-letter first_roomy h (join (octets first_edition) (take 2 (drop (2 * (k + 1)) s))) l).0 (sym unit ∙ sym e ∙ ap letter_answer q)).1

  -- ---- the loop of `first_malformed`
  -- letter i has its two bytes
  pub bytes_there : (i : ℕ) → i < n → 2 * i + 2 + 1 < length s
  bytes_there i b = let c = r.letters in omega arith

  pub decoded_at : (i word : ℕ) (d : Option Letter) → i < n → word ≡ get_or s (2 * i + 2) 0 * 256 + get_or s (2 * i + 2 + 1) 0
      → letter_answer d ≡ decode_letter first_edition h word → letter_answer d ≡ letter_at first_edition h s i
  unfolding letter_at
  decoded_at i word d b w e =
      let c = r.letters in
      let m : 2 * (i + 1) ≡ 2 * i + 2 = omega arith in
      rw (le-leb (2 * (i + 2)) (length s) (omega arith), m, unit_at s (2 * i + 2) (bytes_there i b), ← w) e

  module _ (k : ℕ) where
    pub following_start : Following s h n k k
    following_start = record { letters = []; rest = sym (behind_none (reading_from s h n k)) }

    module _ (i : ℕ) (w : Following s h n k i) where
      pub following_end : n ≤ i → RestRead h (reading_from s h n k) None
      following_end b = all_read (w.letters ++ []) (w.rest ∙ ap (behind w.letters) (rest_ends i b))

      module _ (b : i < n) (d : Option Letter) (e : letter_answer d ≡ letter_at first_edition h s i) where
        pub following_turn : {l : Letter} → d ≡ Some l → Following s h n k (i + 1)
        following_turn {l} q = record {
          letters = w.letters ++ (l ∷ []);
          rest =
              w.rest ∙ ap (behind w.letters) (rest_good i b d e q) ∙ behind_one w.letters l (reading_from s h n (i + 1));
        }

        pub following_bad : d ≡ None → RestRead h (reading_from s h n k) (Some (i + 1))
        following_bad q = broken (i + 1) (omega arith) (w.rest ∙ ap (behind w.letters) (rest_bad i b d e q))
