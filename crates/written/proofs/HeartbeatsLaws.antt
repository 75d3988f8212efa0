-- A written heartbeat is accepted where its segment is listed, and changes nothing.
use Rattle.std.specs.Prelude.{ℕ, ◌^◌, ◌<◌, ◌≡◌, refl, List, [], ◌∷◌, take, Ok}
use Rattle.std.proofs.Common.{ap, ◌∙◌, arith}
use Rattle.lookup.specs.Lookup.{segment_of}
use Rattle.forms.specs.declared.rows.Level.{Level}
use Rattle.forms.specs.declared.forms.Form.{Form}
use Rattle.forms.specs.declared.forms.Form.TheVariants.{Heartbeat}
use Rattle.forms.specs.declared.forms.Item.TheVariants.{Contract}
use Rattle.forms.specs.declared.forms.Named.TheVariants as is
use Rattle.forms.specs.declared.forms.Sum.TheVariants.{Zero}
use Rattle.forms.specs.Forms.{meaning_of, sum_rule, written_form}
use Rattle.forms.specs.FormsLaws.{nothing_rows, nothing_zero, written_told}
use Rattle.head.specs.Fields.{segment_letter}
use Rattle.head.specs.GoodHead.{LetterListed}
use Rattle.head.specs.HeadLaws.{listed_exact, number_exact}
use Rattle.state.specs.declared.answers.Judged.{Judged}
use Rattle.state.specs.declared.answers.Judged.TheVariants.{Accepted}
use Rattle.state.specs.Answers.{judged_numbers}
use Rattle.state.specs.AnswersLaws.{judged_told}
use Rattle.state.specs.GoodState.{GoodState}
use Rattle.state.specs.Memory.{Lent, lends}
use Rattle.state.specs.RowsLaws.{rows_back}
use Rattle.turns.specs.Turns.{Box, acted, message_acts}
use Rattle.batch.specs.Batch.{batch_letter}
use Rattle.batch.specs.Acts.{batch_acts, batch_compared, batch_numbers, box_of, lent_after}
use Rattle.writer.specs.declared.writing.Code.{Code}
use Rattle.writer.specs.Writer.{message_bytes}
use Rattle.writer.specs.WriterPromises.{WroteValues}
use Rattle.written.specs.Heartbeats.{WritesHeartbeat, OneHeartbeat}
use Rattle.written.specs.ReadBack.{batch_of}
use Rattle.written.proofs.ReadBackStepsLaws.{letter_is, batch_acts_lem, batch_keys}
use Rattle.written.proofs.WrittenUpdateLaws.{number_fits, message_there, heartbeat_is, heartbeat_keys}

-- 01 "The message": DH and TH; M-104: FH
pub heartbeats_chosen : (level : Level)
    → WritesHeartbeat (record { 0 = 68; 1 = 72 }) level × WritesHeartbeat (record { 0 = 84; 1 = 72 }) level × WritesHeartbeat (record { 0 = 70; 1 = 72 }) level
unfolding written_form meaning_of
heartbeats_chosen level = ((Heartbeat, refl, refl), (Heartbeat, refl, refl), (Heartbeat, refl, refl))

module _ (code : Code) (level : Level) (number : ℕ) (key : List ℕ) (values : Form → List ℕ) (out out' : List ℕ) (n : ℕ)
    (beat : WritesHeartbeat code level) (wrote : WroteValues Contract code level number key values out (Ok n) out')
  where
    abbrev form : Form
    form = beat.0

    -- 01 "Sequence and gaps": "A heartbeat has number 0"
    pub heartbeat_zero : number ≡ 0
    heartbeat_zero = rw beat.2 at ((number_exact (is.Form form) number).0 (number_fits Contract code level number key values out out' n form beat.1 wrote))

    -- 01 "The message", "The checksum": no data, and "Heartbeats carry zero"
    pub heartbeat_bytes : take n out' ≡ code.0 ∷ code.1 ∷ 0 ∷ 11 ∷ 0 ∷ 0 ∷ 0 ∷ 0 ∷ 0 ∷ 0 ∷ 13 ∷ []
    unfolding message_bytes
    heartbeat_bytes =
        let sum : sum_rule code.0 code.1 ≡ Zero = nothing_zero code.0 code.1 _ form (written_told code.0 code.1 Contract level form beat.1) beat.2 in
        message_there Contract code level number key values out out' n form beat.1 wrote ∙ rw (heartbeat_zero, nothing_rows form beat.2, sum)

    abbrev batch : List ℕ
    batch = batch_of (take n out')

    abbrev letter : ℕ
    letter = segment_letter code.0

    module _ (lent : Lent) (state : GoodState lent) (listed : LetterListed lent.lists.contracts letter) where
      abbrev after : Box
      after = record { row = (box_of lent letter).row; records = lent.records; taken = 0; old = 0; heartbeats = 1 }

      does : batch_acts lent batch ≡ acted after
      unfolding message_acts
      does =
          let few : number < 2 ^ 32 = omega (arith, heartbeat_zero) in
          batch_acts_lem Contract code level number key values out out' n form beat.1 wrote lent state after
          (rw (heartbeat_is Contract code level number key values out out' n form beat.1 wrote few lent.lists ((listed_exact lent.lists.contracts letter).1 listed) beat.2))

      none_compared : batch_compared lent.lists batch (acted after) ≡ 0
      none_compared =
          batch_keys Contract code level number key values out out' n form beat.1 wrote lent.lists after
          ∙ heartbeat_keys Contract code level number key values out out' n form beat.1 wrote lent.lists beat.2

      answer_is : (answer : Judged) → judged_numbers answer ≡ batch_numbers lent batch → answer ≡ Accepted 0 0 1 0
      answer_is answer e = judged_told answer (Accepted 0 0 1 0) (e ∙ rw (does, none_compared))

      pub heartbeat_changes_nothing : OneHeartbeat lent batch
      heartbeat_changes_nothing = record {
        judged = λ answer p. answer_is answer p.answers;
        taken = λ answer lent' p. answer_is answer p.answers;
        all_kept = λ answer lent' p.
            p.left
            ∙ ap (lent_after lent (batch_letter batch)) does
            ∙ ap (λ (l : ℕ). lent_after lent l (acted after)) (letter_is Contract code level number key values out out' n form beat.1 wrote)
            ∙ ap (λ (rows : List ℕ). lends lent.lists rows lent.records) (rows_back lent.rows (segment_of lent.lists.contracts letter));
      }
