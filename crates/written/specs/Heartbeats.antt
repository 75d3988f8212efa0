-- A written heartbeat, by the promises of the public calls.
use Rattle.std.specs.Prelude.{ℕ, ◌≡◌, List, Some}
use Rattle.forms.specs.declared.rows.Level.{Level}
use Rattle.forms.specs.declared.forms.Form.{Form}
use Rattle.forms.specs.declared.forms.Item.TheVariants.{Contract}
use Rattle.forms.specs.declared.forms.Subject.TheVariants.{Nothing}
use Rattle.forms.specs.Forms.{subject_of}
use Rattle.state.specs.declared.answers.Judged.{Judged}
use Rattle.state.specs.declared.answers.Judged.TheVariants.{Accepted}
use Rattle.state.specs.Memory.{Lent}
use Rattle.batch.specs.Promises.{JudgedBatch, TookBatch}
use Rattle.writer.specs.declared.writing.Code.{Code}
use Rattle.writer.specs.Chosen.{form_written}

-- 01 "The message": the codes of heartbeats, by the table of forms: what is written for them tells of nothing
abbrev pub WritesHeartbeat : Code → Level → Type 0
WritesHeartbeat code level = (form : Form) × (form_written Contract code level ≡ Some form) × (subject_of form ≡ Nothing)

-- 01 "Sequence and gaps": "A heartbeat .. changes nothing"; "What may be asked": an accepted batch answers how many heartbeats it has,
-- and judging answers what taking would; M-102: no key is compared
pub record OneHeartbeat (lent : Lent) (batch : List ℕ) : Type 0 where
  pub judged : (answer : Judged) → JudgedBatch lent batch answer → answer ≡ Accepted 0 0 1 0
  pub taken : (answer : Judged) (lent' : Lent) → TookBatch lent batch answer lent' → answer ≡ Accepted 0 0 1 0
  pub all_kept : (answer : Judged) (lent' : Lent) → TookBatch lent batch answer lent' → lent' ≡ lent
