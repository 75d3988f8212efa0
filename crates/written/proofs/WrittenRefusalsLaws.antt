-- The writer refuses exactly: 6, 10, 11 and 12 by row, 15, and nothing else.
use Rattle.std.specs.Prelude.{ℕ, ◌≤◌, ◌<◌, ◌≡◌, Bool, false, cond, ◌↔◌, List, [], ◌∷◌, ◌++◌, leb, length, Option, Some, Ok, Err, Result}
use Rattle.layout.specs.declared.read.BadRow.TheVariants as bad_row
use Rattle.layout.specs.Answers.{Verdict}
use Rattle.std.proofs.Math.Path.{refl, ap}
use Rattle.std.proofs.Common.{sym, ◌∙◌, arith, leb-false}
use Rattle.std.proofs.Math.Bool.{true}
use Rattle.std.proofs.Math.Logic.Iff
use Rattle.std.proofs.Math.Option.{Option as Maybe, none, some}
use Rattle.std.proofs.lemmas.Bool.{lt-leb}
use Rattle.laws.specs.Rules.{first_broken}
use Rattle.laws.specs.Tests.{leb_is}
use Rattle.forms.specs.declared.rows.Level.{Level}
use Rattle.forms.specs.declared.forms.Form.{Form}
use Rattle.forms.specs.declared.forms.Item.{Item}
use Rattle.forms.specs.declared.forms.Named.TheVariants as is
use Rattle.forms.specs.declared.forms.Subject.TheVariants.{Nothing}
use Rattle.layout.specs.FirstBad.{FirstAt}
use Rattle.compose.specs.FirstBad.{refusal_written}
use Rattle.compose.specs.FirstBadLaws.{write_exactly}
use Rattle.forms.specs.Forms.{rows_of, subject_of, key_bytes_of}
use Rattle.forms.specs.Names.{Name}
use Rattle.forms.specs.FormsLaws.{nothing_rows}
use Rattle.forms.specs.Rows.{message_length}
use Rattle.compose.specs.Write.{write_rows}
use Rattle.head.specs.Tests.{takes_number}
use Rattle.state.specs.declared.refusal.Refusal.{Refusal}
use Rattle.state.specs.declared.refusal.Refusal.TheVariants.{Code as CodeOver, Numbering, Field, Range, Memory}
use Rattle.writer.specs.declared.writing.Code.{Code}
use Rattle.state.specs.Answers.{written_numbers, answered}
use Rattle.state.specs.AnswersLaws.{written_told, refused_by_lem, accepted_by}
use Rattle.writer.specs.Writer.{values_written, data_written, rows_rules, length_written, write_rules}
use Rattle.writer.specs.Chosen.{form_written, in_table, numbered}
use Rattle.writer.specs.WriterPromises.{WroteValues}
use Rattle.written.specs.WrittenRefusals.{Value, MalformedAt, OutOfRangeAt, AllFine, First}
use Rattle.written.proofs.WrittenRowsLaws.{Given, field_exact, range_exact, fine_exact}

-- ---- the verdict on the rows

module _ (item : Item) (form : Form) (key values : List ℕ) (given : Name → Value) (from : Given item form given values) (key_long : length key ≡ key_bytes_of item) where
  abbrev v : Verdict
  v = (write_rows 0 (rows_of form) key values).verdict

  abbrev refusal : ℕ → ℕ
  refusal = refusal_written (rows_of form) key values

  -- the first refused row, in the terms of what is wrong with it
  module _ (n : ℕ) (Bad : ℕ → Type 0) (exact : (k : ℕ) → k < length (rows_of form) → refusal k ≡ n ↔ Bad k) where
    first_exact : (k : ℕ) → FirstAt refusal (length (rows_of form)) n k ↔ First form key given Bad k
    first_exact k = (
      (λ f. let inside = f.within in record {
        within = f.within;
        bad = (exact k f.within).0 f.refused;
        fine_before = λ j h. (fine_exact item form key values given from key_long j (omega arith)).0 (f.none_before j h);
      }),
      (λ f. let inside = f.within in record {
        within = f.within;
        refused = (exact k f.within).1 f.bad;
        none_before = λ j h. (fine_exact item form key values given from key_long j (omega arith)).1 (f.fine_before j h);
      }),
    )

  verdict_field : (k : ℕ) → v ≡ Err (bad_row.Field k) ↔ First form key given (MalformedAt form key given) k
  verdict_field k =
      Iff.trans (write_exactly (rows_of form) key values (Err (bad_row.Field k)))
      (first_exact 11 (MalformedAt form key given) (field_exact item form key values given from key_long) k)

  verdict_range : (k : ℕ) → v ≡ Err (bad_row.Range k) ↔ First form key given (OutOfRangeAt form given) k
  verdict_range k =
      Iff.trans (write_exactly (rows_of form) key values (Err (bad_row.Range k)))
      (first_exact 12 (OutOfRangeAt form given) (range_exact item form key values given from key_long) k)

  verdict_good : v ≡ Ok tt ↔ AllFine form key given
  verdict_good =
      Iff.trans (write_exactly (rows_of form) key values (Ok tt))
      ((λ g k h. (fine_exact item form key values given from key_long k h).0 (g k h)), (λ f k h. (fine_exact item form key values given from key_long k h).1 (f k h)))

-- ---- the first broken rule

-- what the writer's rules are by their tests
abbrev first_of : ℕ → Bool → Bool → Verdict → Bool → Maybe Refusal
first_of wanted tabled numbered v fits =
    cond tabled (cond numbered (first_broken (rows_rules v ++ (record { holds = fits; refusal = Memory wanted } ∷ []))) (some (Numbering 0))) (some (CodeOver 0))

-- why the first broken one is what it is
data Why (tabled numbered : Bool) (v : Verdict) (fits : Bool) : Maybe Refusal → Type 0 where
  no_code : tabled ≡ false → Why tabled numbered v fits (some (CodeOver 0))
  no_number : (tabled ≡ true) × (numbered ≡ false) → Why tabled numbered v fits (some (Numbering 0))
  bad_field : {k : ℕ} → v ≡ Err (bad_row.Field k) → Why tabled numbered v fits (some (Field 0 k))
  bad_range : {k : ℕ} → v ≡ Err (bad_row.Range k) → Why tabled numbered v fits (some (Range 0 k))
  no_room : {n : ℕ} → (v ≡ Ok tt) × (fits ≡ false) → Why tabled numbered v fits (some (Memory n))
  no_refusal : (v ≡ Ok tt) × (fits ≡ true) → Why tabled numbered v fits none

why : (wanted : ℕ) (tabled numbered : Bool) (v : Verdict) (fits : Bool) → Why tabled numbered v fits (first_of wanted tabled numbered v fits)
why wanted false numbered v fits = no_code refl
why wanted true false v fits = no_number (refl, refl)
why wanted true true (Err (bad_row.Field row)) fits = bad_field refl
why wanted true true (Err (bad_row.Range row)) fits = bad_range refl
why wanted true true (Ok good) false = no_room (refl, refl)
why wanted true true (Ok good) true = no_refusal (refl, refl)

module _ (wanted : ℕ) (tabled numbered : Bool) (v : Verdict) (fits : Bool) where
  by_why : {o : Maybe Refusal} {A : Type 0} → (Why tabled numbered v fits o → A) → first_of wanted tabled numbered v fits ≡ o → A
  by_why told e = told (rw e at (why wanted tabled numbered v fits))

  code_why : first_of wanted tabled numbered v fits ≡ some (CodeOver 0) ↔ tabled ≡ false
  code_why = (by_why (elim [ no_code h ↦ h ]), (λ h. rw h))

  number_why : first_of wanted tabled numbered v fits ≡ some (Numbering 0) ↔ (tabled ≡ true) × (numbered ≡ false)
  number_why = (by_why (elim [ no_number h ↦ h ]), (λ h. rw (h.0, h.1)))

module _ (wanted : ℕ) (v : Verdict) (fits : Bool) where
  field_why : (k : ℕ) → first_of wanted true true v fits ≡ some (Field 0 k) ↔ v ≡ Err (bad_row.Field k)
  field_why k = (by_why wanted true true v fits (elim [ bad_field h ↦ h ]), (λ h. rw h))

  range_why : (k : ℕ) → first_of wanted true true v fits ≡ some (Range 0 k) ↔ v ≡ Err (bad_row.Range k)
  range_why k = (by_why wanted true true v fits (elim [ bad_range h ↦ h ]), (λ h. rw h))

  room_why : first_of wanted true true v fits ≡ some (Memory wanted) ↔ (v ≡ Ok tt) × (fits ≡ false)
  room_why = (by_why wanted true true v fits (elim [ no_room h ↦ h ]), (λ h. rw (h.0, h.1)))

  none_why : first_of wanted true true v fits ≡ none ↔ (v ≡ Ok tt) × (fits ≡ true)
  none_why = (by_why wanted true true v fits (elim [ no_refusal h ↦ h ]), (λ h. rw (h.0, h.1)))

-- ---- the promise

module _ (item : Item) (code : Code) (level : Level) (number : ℕ) (key : List ℕ) (values : Form → List ℕ) (out out' : List ℕ) (answer : Result ℕ Refusal)
    (wrote : WroteValues item code level number key values out answer out')
  where
    abbrev chose : Option Form
    chose = form_written item code level

    abbrev handed : List ℕ
    handed = values_written chose values

    abbrev broken : Maybe Refusal
    broken = first_broken (write_rules chose number key handed (length out))

    abbrev fitting : Bool
    fitting = leb (length_written chose) (length out)

    rules_are : broken ≡ first_of (length_written chose) (in_table chose) (numbered chose number) (data_written chose key handed).verdict fitting
    unfolding write_rules
    rules_are = refl

    -- a refusal is answered exactly where its rule is the first broken one
    answers_refusal : (r : Refusal) → answer ≡ Err r ↔ broken ≡ some r
    answers_refusal r = (
      (λ e. refused_by_lem broken (length_written chose ∷ []) r (ap written_numbers (sym e) ∙ wrote.answers)),
      (λ e. written_told answer (Err r) (wrote.answers ∙ ap (λ (o : Maybe Refusal). answered o (length_written chose ∷ [])) e)),
    )

    answers_length : answer ≡ Ok (length_written chose) ↔ broken ≡ none
    answers_length = (
      (λ e. (accepted_by broken (length_written chose ∷ []) (length_written chose ∷ []) (ap written_numbers (sym e) ∙ wrote.answers)).0),
      (λ e. written_told answer (Ok (length_written chose)) (wrote.answers ∙ ap (λ (o : Maybe Refusal). answered o (length_written chose ∷ [])) e)),
    )

    -- 6 exactly where the code is not in the table
    pub refuses_code : answer ≡ Err (CodeOver 0) ↔ in_table chose ≡ false
    refuses_code =
        Iff.trans (answers_refusal (CodeOver 0))
        (rw rules_are (code_why (length_written chose) (in_table chose) (numbered chose number) (data_written chose key handed).verdict fitting))

    -- 10 exactly where the code is in the table and the number is not one that its messages have
    pub refuses_number : answer ≡ Err (Numbering 0) ↔ (in_table chose ≡ true) × (numbered chose number ≡ false)
    refuses_number =
        Iff.trans (answers_refusal (Numbering 0))
        (rw rules_are (number_why (length_written chose) (in_table chose) (numbered chose number) (data_written chose key handed).verdict fitting))

    -- a form whose code and number may be written
    module _ (form : Form) (is_chosen : chose ≡ Some form) (takes : takes_number (is.Form form) number ≡ true) (key_long : length key ≡ key_bytes_of item)
        (given : Name → Value) (from : Given item form given (values form))
      where
        abbrev wanted : ℕ
        wanted = message_length (rows_of form)

        abbrev own : Verdict
        own = (write_rows 0 (rows_of form) key (values form)).verdict

        -- the rows and the room are left
        decided : broken ≡ first_of wanted true true own (leb wanted (length out))
        unfolding write_rules data_written length_written
        decided =
            ap (λ (c : Option Form). first_broken (write_rules c number key (values_written c values) (length out))) is_chosen
            ∙ ap (λ (t : Bool). first_of wanted true t own (leb wanted (length out))) takes

        by : {A : Type 0} (o : Maybe Refusal) → first_of wanted true true own (leb wanted (length out)) ≡ o ↔ A → broken ≡ o ↔ A
        by o exact = rw decided exact

        both_fine : {A B : Type 0} → A ↔ B → (own ≡ Ok tt) × A ↔ AllFine form key given × B
        both_fine same = let good = verdict_good item form key (values form) given from key_long in ((λ p. (good.0 p.0, same.0 p.1)), (λ p. (good.1 p.0, same.1 p.1)))

        -- 11 at row k exactly where that row is malformed and every row before it is fine
        pub refuses_field : (k : ℕ) → answer ≡ Err (Field 0 k) ↔ First form key given (MalformedAt form key given) k
        refuses_field k =
            Iff.trans (answers_refusal (Field 0 k))
            (by (some (Field 0 k)) (Iff.trans (field_why wanted own (leb wanted (length out)) k) (verdict_field item form key (values form) given from key_long k)))

        -- 12 at row k exactly where that row is out of range and every row before it is fine
        pub refuses_range : (k : ℕ) → answer ≡ Err (Range 0 k) ↔ First form key given (OutOfRangeAt form given) k
        refuses_range k =
            Iff.trans (answers_refusal (Range 0 k))
            (by (some (Range 0 k)) (Iff.trans (range_why wanted own (leb wanted (length out)) k) (verdict_range item form key (values form) given from key_long k)))

        -- 15 exactly where every row is fine and `out` is shorter than the message
        pub refuses_memory : answer ≡ Err (Memory wanted) ↔ AllFine form key given × (length out < wanted)
        refuses_memory =
            Iff.trans (answers_refusal (Memory wanted))
            (by (some (Memory wanted)) (Iff.trans (room_why wanted own (leb wanted (length out))) (both_fine (leb-false wanted (length out), lt-leb wanted (length out)))))

        -- and no refusal otherwise: the message is written exactly where every row is fine and there is room
        pub accepts : answer ≡ Ok wanted ↔ AllFine form key given × (wanted ≤ length out)
        unfolding length_written
        accepts =
            Iff.trans (rw (ap length_written is_chosen) at answers_length)
            (by none (Iff.trans (none_why wanted own (leb wanted (length out))) (both_fine (leb_is wanted (length out)))))

-- a heartbeat has no rows, so that its level, key and quote aren't looked at
pub nothing_fine : (form : Form) → subject_of form ≡ Nothing → (key : List ℕ) (given : Name → Value) → AllFine form key given
nothing_fine form e key given k h = let none_there = ap length (nothing_rows form e) in absurd (omega arith)
