-- The arrays' tables are those of the shown model, and the answer is the one that is due.
use mathlib.Core.Path.{◌≡◌, refl, sym, ◌∙◌, ap, subst}
use mathlib.Core.Logic.{◌≢◌}
use mathlib.Core.List.{List, [], ◌∷◌, ◌++◌, map, reverse}
use Prim.Native.Nat.{ℕ, zero, suc, ◌+◌, ◌≤◌, ◌<◌}
use native.Mathlib.Omega.{arith}
use native.Mathlib.Nat.{zero-add}
use lib.ListN.{length, get_or, take, drop, length-map}
use lib.Seq.{length-take-le}
use borrow.Author.Tests.{eq-eqb, ne_eqb, le-leb, lt-leb, lt-ltb}
use Rattle.std.specs.Prelude.{Option, Some, None}
use Rattle.std.proofs.lemmas.Option.{none-some}
use Rattle.letters.specs.declared.Header.{Header}
use Rattle.letters.specs.declared.Letter.{Letter}
use Rattle.std.specs.Prelude.{Result, Ok, Err}
use Rattle.letters.specs.declared.reasons.Refused.{Refused}
use Rattle.letters.specs.Reasons.{number_of}
use Rattle.letters.specs.Editions.{first_edition, most_letters, most_registers}
use Rattle.letters.specs.Answers as letters
use Rattle.letters.specs.Reasons.{as_answer}
use Rattle.letters.proofs.Theory.WordLaws.{first_roomy}
use Rattle.traces.specs.Reading.{TraceReading, trace, beginning, letter_count, letters_of, reading_where}
use Rattle.traces.specs.ReadingParts.{reading_within}
use Rattle.closure.specs.Limits.{most_terms}
use Rattle.letters.specs.RefusalNumbers.{letter_malformed}
use Rattle.traces.proofs.Theory.TraceLaws.{reading_fits}
use Rattle.semantics.specs.Terms.{State, Term, con, begin, state, trace_of}
use Rattle.semantics.specs.Models.{Feasible}
use Rattle.semantics.specs.Judgement.{FailsAt}
use Rattle.semantics.proofs.Theory.JudgementLaws.{first_infeasible_unique}
use Rattle.semantics.proofs.Theory.TraceLaws.{extend_append, extend_header, extend_fails, all_formed}
use Rattle.semantics.specs.Tables.{Row}
use Rattle.semantics.specs.ShownTables.{starts_from, shown_tables, rows_of}
use Rattle.semantics.specs.ShownTables.{tables_of, shown_value}
use Rattle.semantics.specs.PackedTables.{pack_tables}
use Rattle.semantics.proofs.Theory.PackedTablesLaws.{packed_length}
use Rattle.semantics.specs.FirstLetters.{first_infeasible}
use Rattle.closure.specs.Numbering.{nth}
use Rattle.closure.specs.Arrays.{entry_at, Below}
use Rattle.letters.specs.declared.reasons.Reason.TheVariants.{LetterMalformed, OutputTooSmall, TraceTooLong}
use Rattle.engine.specs.Engine.{Computed}
use Rattle.engine.specs.Run as run
use Rattle.engine.proofs.Theory.ReadingLaws.{headed, read_within, read_any}
use Rattle.model_writer.specs.declared.Shown.TheVariants as shown
use Rattle.model_writer.proofs.Theory.Values.{classes_le}
use Rattle.model_writer.specs.Values.{value_at, Valued}
use Rattle.model_writer.proofs.Theory.Meaning.{classes_count, value_is}
use Rattle.model_writer.specs.Meaning.{row_at}
use Rattle.model_writer.specs.Listing.{ListedAll}
use Rattle.model_writer.specs.Inserted.{inserted}
use Rattle.model_writer.specs.Bytes.{row_for, RowIn, Writable, tables_in, value_range, model_length}
use Rattle.model_writer.specs.Fitting.{Puttable, Put, too_large, fitting}
use Rattle.model_writer.specs.Answer.{ShowResult, ModelAnswer, shown_answer, model_bytes, answer_to, output_after, Means, Showed}
use Rattle.model_writer.specs.Stages.{SomeStateComputed, Modelled, Stopped, well, ill}
use Rattle.model_writer.proofs.Theory.Means.{showed}

starts_are : (v : Term → ℕ) (k m : ℕ) (l : List ℕ) → m ≤ length l → ((i : ℕ) → i < m → get_or l i 0 ≡ v (con (k + i))) → take m l ≡ starts_from v k m
unfolding starts_from
starts_are v k zero l h e = refl
starts_are v k (suc m) [] h e = absurd (omega arith)
starts_are v k (suc m) (x ∷ l) h e = λ j. (e 0 (omega arith) ∙ ap (λ (n : ℕ). v (con n)) (let z : k + 0 ≡ k = omega arith in z)) j
    ∷ starts_are v (suc k) m l (omega arith) (λ i b. e (suc i) (omega arith) ∙ ap (λ (n : ℕ). v (con n)) (let z : k + suc i ≡ suc k + i = omega arith in z)) j

rows_same : (f g : ℕ → Row) (l : List ℕ) (r : ℕ) → r ≤ length l → ((k : ℕ) → k < r → f (get_or l k 0) ≡ g (get_or l k 0)) → map f (take r l) ≡ map g (take r l)
rows_same f g l zero h e = refl
rows_same f g [] (suc r) h e = absurd (omega arith)
rows_same f g (x ∷ l) (suc r) h e = λ j. e 0 (omega arith) j ∷ rows_same f g l r (omega arith) (λ k b. e (suc k) (omega arith)) j

module _ (h : Header) (function first second representative : List ℕ) (n : ℕ) (k : SomeStateComputed h function first second representative n) where
  w : Computed k.state function first second representative h.registers n
  w = k.computed

  module _ (values rows : List ℕ) (c r : ℕ) (v : Valued representative n values c)
      (l : ListedAll representative function first second h.registers n rows r) where
    value_small : (i : ℕ) → i < n → get_or values i 0 < value_range
    unfolding value_at
    value_small i b =
        let e = v.at_each i b in
        let a = w.formed.lowest i b in
        let d = classes_le representative (get_or representative i 0) in
        let f = w.formed.within in
        omega arith

    row_in : (i : ℕ) → h.registers ≤ i → i < n → RowIn values function first second i
    unfolding Below
    row_in i p b =
        let f = w.formed.within in
        let o = w.numbered.first_before i p b in
        let t = w.numbered.second_before i p b in
        record {
          place = omega arith;
          function_below = w.formed.functions i b;
          first_place = omega arith;
          second_place = omega arith;
          first_below = value_small (get_or first i 0) (omega arith);
          second_below = value_small (get_or second i 0) (omega arith);
          result_below = value_small i b;
        }

    rows_few : (r ≤ most_terms) × (h.registers ≤ most_registers)
    rows_few = let a = l.few in let f = w.formed.within in (omega arith, w.registers_few)

    writable : (room : ℕ) → model_length h r ≤ room → Writable h values function first second rows c r room
    writable room b = record {
      few = w.registers_few;
      rows_few = rows_few.0;
      count_small = let e = v.count in let d = classes_le representative n in let f = w.formed.within in omega arith;
      values_long = v.long;
      rows_long = l.room;
      starts_small = λ i q. let m = w.formed.more in value_small i (omega arith);
      each = λ i q. let (p, b) = l.entries i q in row_in (get_or rows i 0) p b;
      fits = b;
    }

    pub puttable : (room : ℕ) → Puttable h values function first second rows c r room
    puttable room = record { registers_few = rows_few.1; rows_few = rows_few.0; writable = writable room }

    -- the tables are those of any state that the arrays hold
    module _ (σ : State) (e : σ.header ≡ h) (x : Computed σ function first second representative h.registers n) where
      given : (i : ℕ) → i < n → get_or values i 0 ≡ shown_value σ (nth σ.terms i)
      given i b = v.at_each i b ∙ sym (value_is σ function first second representative h.registers n x i b)

      starts : take h.registers values ≡ starts_from (shown_value σ) 0 h.registers
      starts = let m = w.formed.more in starts_are (shown_value σ) 0 h.registers values (let a = v.long in let f = w.formed.within in omega arith)
          (λ i b. given i (omega arith) ∙ ap (shown_value σ) (x.numbered.constant i b) ∙ ap (λ (j : ℕ). shown_value σ (con j)) (sym (zero-add i)))

      rows_are : map (row_for values function first second) (take r rows) ≡ rows_of (reverse σ.terms) σ.equals
      unfolding row_for row_at
      rows_are = rows_same (row_for values function first second) (row_at σ function first second representative h.registers n x) rows r
          (let a = l.room in let b = rows_few.0 in omega arith)
          (λ i q. let (p, b) = l.entries i q in
          let o = x.numbered.first_before (get_or rows i 0) p b in
          let t = x.numbered.second_before (get_or rows i 0) p b in
          λ j. record {
            function = entry_at function (get_or rows i 0);
            first = given (get_or first (get_or rows i 0) 0) (omega arith) j;
            second =
                given (get_or second (get_or rows i 0) 0) (omega arith) j;
            result = given (get_or rows i 0) b j;
          })
          ∙ l.are σ x

      tables_are : tables_in h values function first second rows c r ≡ tables_of σ
      unfolding tables_in tables_of shown_tables
      tables_are = λ j. record {
        count = (v.count ∙ ap suc (sym (classes_count σ function first second representative h.registers n x))) j;
        starts = (starts ∙ ap (starts_from (shown_value σ) 0) (sym (ap (λ (g : Header). g.registers) e))) j;
        rows = rows_are j;
      }

      bytes_are : pack_tables first_edition h (tables_in h values function first second rows c r) ≡ model_bytes σ
      unfolding model_bytes
      bytes_are = λ j. pack_tables first_edition (sym e j) (tables_are j)

      bytes_long : length (model_bytes σ) ≡ model_length h r
      unfolding tables_in
      bytes_long = ap length (sym bytes_are) ∙ packed_length first_edition h (tables_in h values function first second rows c r)
          ∙ (let a = length-take-le h.registers values (let a = v.long in let b = w.registers_few in omega arith) in
          let b = length-map (take r rows) (row_for values function first second)
          ∙ length-take-le r rows (let a = l.room in let b = rows_few.0 in omega arith) in omega arith)

    too_long : (out : List ℕ) → length out < model_length h r
        → Modelled h function first second representative n out (Err (record { reason = OutputTooSmall; place = 0 })) out
    unfolding Modelled
    too_long out b σ e x = let q = bytes_long σ e x in let t = lt-leb (length (model_bytes σ)) (length out) (omega arith) in (rw t, rw t)

    fits_in : (out out' : List ℕ) → model_length h r ≤ length out
        → out' ≡ inserted 0 (pack_tables first_edition h (tables_in h values function first second rows c r)) out
        → Modelled h function first second representative n out (Ok (shown.Model (model_length h r))) out'
    unfolding Modelled inserted
    fits_in out out' b g σ e x =
        let q = bytes_long σ e x in
        let t = le-leb (length (model_bytes σ)) (length out) (omega arith) in (
          rw t (ap ModelAnswer.model (sym q)),
          rw t
              (g ∙ (λ j. bytes_are σ e x j ++ drop (0 + length (bytes_are σ e x j)) out)
              ∙ ap (λ (m : ℕ). model_bytes σ ++ drop m out) (zero-add (length (model_bytes σ)))),
        )

    pub put_modelled : (out out' : List ℕ) (q : ShowResult) → Put h values function first second rows c r out q out'
        → Modelled h function first second representative n out q out'
    put_modelled out out' q (too_large b) = too_long out b
    put_modelled out out' q (fitting b g) = fits_in out out' b g

-- ---- what the run of a trace gives
module _ (s : List ℕ) (h : Header) (n : ℕ) (r : run.Begun s h n) (out : List ℕ) where
  ran_malformed : {function first second representative : List ℕ} {m : ℕ} {o : Result (Option ℕ) Refused} (e : Refused)
      → run.Ran s h n function first second representative m o
      → o ≡ Err e → letters_of first_edition h s ≡ TraceReading.refused (number_of e.reason) e.place
  ran_malformed e (run.malformed j d) q = subst (λ (e : Refused). letters_of first_edition h s ≡ TraceReading.refused (number_of e.reason) e.place)
      (let z : record { reason = LetterMalformed; place = j } ≡ e = cc in z) d
  ran_malformed e (run.infeasible j ls d f p) q = let z : ◌≡◌ {A = ℕ} 0 1 = cc in absurd (omega arith)
  ran_malformed e (run.feasible ls d i c) q = let z : ◌≡◌ {A = ℕ} 0 1 = cc in absurd (omega arith)

  ran_infeasible : {function first second representative : List ℕ} {m : ℕ} {o : Result (Option ℕ) Refused} (k : ℕ)
      → run.Ran s h n function first second representative m o
      → o ≡ Ok (Some k)
      → (ls : List Letter) × (letters_of first_edition h s ≡ run.behind ls (run.reading_from s h n k)) × FailsAt (λ π. Feasible (state π)) (trace_of h ls) k
      × (1 ≤ k)
  ran_infeasible k (run.malformed j e) q = let z : ◌≡◌ {A = ℕ} 0 1 = cc in absurd (omega arith)
  ran_infeasible k (run.infeasible j ls e f p) q = let z : j ≡ k = cc in (
    ls,
    subst (λ i. letters_of first_edition h s ≡ run.behind ls (run.reading_from s h n i)) z e,
    subst
        (FailsAt (λ π. Feasible (state π)) (trace_of h ls)) z f,
    subst (λ i. 1 ≤ i) z p,
  )
  ran_infeasible k (run.feasible ls e i c) q = let z : ◌≡◌ {A = ℕ} 0 1 = cc in absurd (omega arith)

  ran_feasible : {function first second representative : List ℕ} {m : ℕ} {o : Result (Option ℕ) Refused}
      → run.Ran s h n function first second representative m o
      → o ≡ Ok None
      → (ls : List Letter) × (letters_of first_edition h s ≡ trace h ls) × (0 ≡ first_infeasible (trace_of h ls))
      × Computed (state (trace_of h ls)) function first second representative h.registers m
  ran_feasible (run.malformed j e) q = let z : ◌≡◌ {A = ℕ} 0 1 = cc in absurd (omega arith)
  ran_feasible (run.infeasible j ls e f p) q = let z : ◌≡◌ {A = ℕ} 0 1 = cc in absurd (omega arith)
  ran_feasible (run.feasible ls e i c) q = (ls, e, i, c)

  -- the answer to a reading
  showed_unread : (e : Refused) → reading_within most_letters first_edition s ≡ TraceReading.refused (number_of e.reason) e.place → Showed s out (Err e) out
  unfolding answer_to output_after
  showed_unread e x = showed s out (Err e) out (rw x) (rw x)

  pub showed_malformed : {function first second representative : List ℕ} {m : ℕ} {o : Result (Option ℕ) Refused} (e : Refused)
      → run.Ran s h n function first second representative m o
      → o ≡ Err e → Showed s out (Err e) out
  showed_malformed e d q = showed_unread e (read_within s h n r ∙ ran_malformed e d q)

  -- a letter that makes the beginning infeasible is the first of the whole trace
  first_of_all : (ls more : List Letter) (k : ℕ) → 1 ≤ k → letters_of first_edition h s ≡ trace h (ls ++ more)
      → FailsAt (λ π. Feasible (state π)) (trace_of h ls) k → k ≡ first_infeasible (trace_of h (ls ++ more))
  first_of_all ls more zero p e f = absurd (omega arith)
  first_of_all ls more (suc k) p e f = first_infeasible_unique (trace_of h (ls ++ more))
      (all_formed (begin h) (ls ++ more) tt (reading_fits first_edition first_roomy s h (ls ++ more) (read_any s h n r ∙ e)).1) (suc k)
      (subst (λ ρ. FailsAt (λ π. Feasible (state π)) ρ (suc k)) (sym (extend_append (begin h) ls more))
      (extend_fails (λ π. Feasible (state π)) (trace_of h ls) more (suc k) f))

  showed_first : (ls : List Letter) (k : ℕ) → letters_of first_edition h s ≡ trace h ls → k ≡ first_infeasible (trace_of h ls) → 1 ≤ k
      → Showed s out (Ok (shown.Infeasible k)) out
  unfolding answer_to output_after
  showed_first ls k e g p =
      let x = read_within s h n r ∙ e in
      let m : first_infeasible (trace_of h ls) ≢ 0 = λ z. omega arith in
      let t = ne_eqb (first_infeasible (trace_of h ls)) 0 m in
      showed s out (Ok (shown.Infeasible k)) out (rw (x, t) (ap ModelAnswer.infeasible g)) (rw (x, t))

  pub showed_stopped : {function first second representative : List ℕ} {m : ℕ} {o : Result (Option ℕ) Refused} (k : ℕ)
      → run.Ran s h n function first second representative m o
      → o ≡ Ok (Some k)
      → (a : ShowResult) → Stopped h (run.reading_from s h n k) k a → Showed s out a out
  showed_stopped k d q a (well more y) = let (ls, e, f, p) = ran_infeasible k d q in let g = e ∙ ap (run.behind ls) y in
      showed_first (ls ++ more) k g (first_of_all ls more k p g f) p
  showed_stopped k d q a (ill b y) = let (ls, e, f, p) = ran_infeasible k d q in
      showed_unread (record { reason = LetterMalformed; place = b }) (read_within s h n r ∙ e ∙ ap (run.behind ls) y)

  module _ {function first second representative : List ℕ} {m : ℕ} {o : Result (Option ℕ) Refused} (d : run.Ran s h n function first second representative m o)
      (q : o ≡ Ok None) where
    pub known : SomeStateComputed h function first second representative m
    known = let (ls, e, i, c) = ran_feasible d q in record { state = state (trace_of h ls); header = extend_header (begin h) ls; computed = c }

    pub showed_model : (a : ShowResult) (out' : List ℕ) → Modelled h function first second representative m out a out' → Showed s out a out'
    unfolding answer_to output_after Modelled
    showed_model a out' f =
        let (ls, e, i, c) = ran_feasible d q in
        let x = read_within s h n r ∙ e in
        let t = eq-eqb (first_infeasible (trace_of h ls)) 0 (sym i) in
        let (y, z) = f (state (trace_of h ls)) (extend_header (begin h) ls) c in
        showed s out a out' (rw (x, t) y) (rw (x, t) z)

pub stopped_none : (h : Header) (x : TraceReading) (k : ℕ) {b : Option ℕ} → run.RestRead h x b → b ≡ None → Stopped h x k (Ok (shown.Infeasible k))
stopped_none h x k (run.all_read ls e) q = well ls e
stopped_none h x k (run.broken p l e) q = absurd (none-some _ (sym q))

pub stopped_some : (h : Header) (x : TraceReading) (k p : ℕ) {b : Option ℕ} → run.RestRead h x b → b ≡ Some p
    → Stopped h x k (Err (record { reason = LetterMalformed; place = p }))
stopped_some h x k p (run.all_read ls e) q = absurd (none-some _ q)
stopped_some h x k p (run.broken r l e) q = let z : r ≡ p = cc in ill p (e ∙ ap (TraceReading.refused letter_malformed) z)

-- ---- what the beginning gives
module _ (s : List ℕ) (d : Result Header Refused) (e : as_answer d ≡ beginning first_edition s) (out : List ℕ) where
  pub showed_refused : {r : Refused} → d ≡ Err r → Showed s out (Err r) out
  unfolding answer_to output_after reading_where
  showed_refused {r} q = let x = sym e ∙ ap as_answer q in showed s out (Err r) out (rw x) (rw x)

  module _ {h : Header} (q : d ≡ Ok h) where
    header_is : beginning first_edition s ≡ letters.value h
    header_is = sym e ∙ ap as_answer q

    pub bytes_enough : first_edition.bytes ≤ length s
    bytes_enough = (headed s h header_is).enough

    pub showed_long : most_letters < letter_count first_edition s → Showed s out (Err (record { reason = TraceTooLong; place = 0 })) out
    unfolding answer_to output_after reading_where
    showed_long b = let t = lt-ltb most_letters (letter_count first_edition s) b in showed s out (Err (record { reason = TraceTooLong; place = 0 })) out
        (rw (header_is, t)) (rw (header_is, t))

    pub begun : letter_count first_edition s ≤ most_letters → run.Begun s h (letter_count first_edition s)
    begun b = record { header = header_is; letters = refl; few = b }

-- A model that was written lies in the output.
pub model_within : (s out out' : List ℕ) (r : ShowResult) (n : ℕ) → Showed s out r out' → r ≡ Ok (shown.Model n) → n ≤ length out
model_within s out out' r n w e = (subst (λ r. Means s out (shown_answer r) out') e w.means).fits
