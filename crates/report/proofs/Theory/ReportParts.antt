-- The report of each verdict, part by part, as the writer appends it.
use mathlib.Core.Path.{◌≡◌, sym, ap, ◌∙◌}
use Prim.Native.Nat.{ℕ}
use mathlib.Core.List.{List, [], ◌∷◌, ◌++◌}
use lib.ListN.{drop}
use Rattle.letters.specs.Editions.{first_edition}
use Rattle.letters.specs.declared.Header.{Header}
use Rattle.semantics.specs.TablesRead.{read_tables}
use Rattle.text.specs.Appending.{PlaceInRange, Appended}
use Rattle.text.proofs.Theory.Appending.{room_same, room_first, room_then, appended_same, appended_then}
use Rattle.text.specs.Numerals.{numeral}
use Rattle.text.specs.Templates.{filled_in}
use Rattle.std.specs.Prelude.{Ok, Err}
use Rattle.report.specs.declared.ReportedRefusal.{ReportedRefusal}
use Rattle.report.specs.declared.ReportedVerdict.TheVariants.{Pass, Incoherent, Fail}
use Rattle.report.specs.Lines.{line, pairs_word, verdict_lines, letter_lines, model_lines, report}
use Rattle.report.specs.Shown.{Reported, names_of, letters_in, model_start, printed_of, report_of}
use Rattle.report.proofs.Theory.Forms.{pass_form, incoherent_form, fail_form, refused_form}

-- the first two lines: a verdict without numbers, and the count of pairs
abbrev pairs_line : ℕ → List ℕ
pairs_line n = line (pairs_word ∷ numeral n ∷ [])

abbrev head : List ℕ → ℕ → List ℕ
head template n = filled_in template (0 ∷ 0 ∷ 0 ∷ 0 ∷ []) ++ pairs_line n

-- "verdict pass", "verdict incoherent", "verdict fail"
abbrev pass_head : ℕ → List ℕ
pass_head = head (118 ∷ 101 ∷ 114 ∷ 100 ∷ 105 ∷ 99 ∷ 116 ∷ 32 ∷ 112 ∷ 97 ∷ 115 ∷ 115 ∷ 10 ∷ [])

abbrev incoherent_head : ℕ → List ℕ
incoherent_head = head (118 ∷ 101 ∷ 114 ∷ 100 ∷ 105 ∷ 99 ∷ 116 ∷ 32 ∷ 105 ∷ 110 ∷ 99 ∷ 111 ∷ 104 ∷ 101 ∷ 114 ∷ 101 ∷ 110 ∷ 116 ∷ 10 ∷ [])

abbrev fail_head : ℕ → List ℕ
fail_head = head (118 ∷ 101 ∷ 114 ∷ 100 ∷ 105 ∷ 99 ∷ 116 ∷ 32 ∷ 102 ∷ 97 ∷ 105 ∷ 108 ∷ 10 ∷ [])

module _ (registers functions : List ℕ) (h : Header) (s : List ℕ) where
  abbrev letters : ℕ → List ℕ
  letters m = letter_lines (names_of registers functions) h (letters_in h s 0 m)

  abbrev model : ℕ → List ℕ
  model m = model_lines (names_of registers functions) h (read_tables first_edition h (drop (model_start m) s))

  abbrev whole : Reported → List ℕ
  whole v = report_of registers functions h v s

  module _ {v : Reported} where
    pass_parts : {n : ℕ} → v ≡ Ok (Pass n) → whole v ≡ pass_head n
    unfolding report_of printed_of report verdict_lines
    pass_parts {n} e = ap whole e ∙ ap (λ (l : List ℕ). l ++ pairs_line n) pass_form

    incoherent_parts : {n m : ℕ} → v ≡ Ok (Incoherent n m) → whole v ≡ incoherent_head n ++ letters m
    unfolding report_of printed_of report verdict_lines
    incoherent_parts {n} {m} e = ap whole e ∙ ap (λ (l : List ℕ). (l ++ pairs_line n) ++ letters m) incoherent_form

    fail_parts : {n m : ℕ} → v ≡ Ok (Fail n m) → whole v ≡ fail_head n ++ (letters m ++ model m)
    unfolding report_of printed_of report verdict_lines
    fail_parts {n} {m} e = ap whole e ∙ ap (λ (l : List ℕ). (l ++ pairs_line n) ++ (letters m ++ model m)) fail_form

    pub refused_parts : {a : ℕ} {r : ReportedRefusal} → a ≡ r.number → v ≡ Err r
        → whole v ≡ filled_in (114 ∷ 101 ∷ 102 ∷ 117 ∷ 115 ∷ 101 ∷ 100 ∷ 32 ∷ 52 ∷ 32 ∷ 97 ∷ 116 ∷ 32 ∷ 53 ∷ 10 ∷ []) (a ∷ r.place ∷ 0 ∷ 0 ∷ [])
    unfolding report_of printed_of report
    refused_parts {r = r} f e = ap whole e ∙ refused_form r.place f

    module _ {at : ℕ} where
      pub pass_room : {n : ℕ} → v ≡ Ok (Pass n) → PlaceInRange at (whole v) → PlaceInRange at (pass_head n)
      pass_room e r = room_same (pass_parts e) r

      pub incoherent_room : {n m : ℕ} → v ≡ Ok (Incoherent n m) → PlaceInRange at (whole v) → PlaceInRange at (incoherent_head n)
      incoherent_room {n} {m} e r = room_first (incoherent_head n) (letters m) (room_same (incoherent_parts e) r)

      pub fail_room : {n m : ℕ} → v ≡ Ok (Fail n m) → PlaceInRange at (whole v) → PlaceInRange at (fail_head n)
      fail_room {n} {m} e r = room_first (fail_head n) (letters m ++ model m) (room_same (fail_parts e) r)

    module _ {entry : List ℕ} {at : ℕ} where
      pub pass_done : {n : ℕ} {exit : List ℕ} {next : ℕ} → v ≡ Ok (Pass n) → Appended entry at (pass_head n) exit next → Appended entry at (whole v) exit next
      pass_done e a = appended_same (sym (pass_parts e)) a

      module _ {n m : ℕ} {middle : List ℕ} {k : ℕ} where
        pub incoherent_letters : v ≡ Ok (Incoherent n m) → PlaceInRange at (whole v) → Appended entry at (incoherent_head n) middle k
            → PlaceInRange k (letters m)
        incoherent_letters e r a = room_then (incoherent_head n) (letters m) (room_same (incoherent_parts e) r) a

        pub incoherent_done : {exit : List ℕ} {next : ℕ} → v ≡ Ok (Incoherent n m) → Appended entry at (incoherent_head n) middle k
            → Appended middle k (letters m) exit next → Appended entry at (whole v) exit next
        incoherent_done e a c = appended_same (sym (incoherent_parts e)) (appended_then (incoherent_head n) (letters m) a c)

        pub fail_letters : v ≡ Ok (Fail n m) → PlaceInRange at (whole v) → Appended entry at (fail_head n) middle k → PlaceInRange k (letters m)
        fail_letters e r a = room_first (letters m) (model m) (room_then (fail_head n) (letters m ++ model m) (room_same (fail_parts e) r) a)

        module _ {middle' : List ℕ} {k' : ℕ} (e : v ≡ Ok (Fail n m)) (a : Appended entry at (fail_head n) middle k)
            (c : Appended middle k (letters m) middle' k') where
          pub fail_model : PlaceInRange at (whole v) → PlaceInRange k' (model m)
          fail_model r = room_then (letters m) (model m) (room_then (fail_head n) (letters m ++ model m) (room_same (fail_parts e) r) a) c

          pub fail_done : {exit : List ℕ} {next : ℕ} → Appended middle' k' (model m) exit next → Appended entry at (whole v) exit next
          fail_done d = appended_same (sym (fail_parts e)) (appended_then (fail_head n) (letters m ++ model m) a (appended_then (letters m) (model m) c d))
