-- All rules of a message in document 01's order: 5 to 10, then 11 and 12 row by row, then 13.
use Rattle.std.specs.Prelude.{ℕ, suc, List, [], ◌∷◌, ◌++◌, take, drop}
use Rattle.std.proofs.Math.Option.{Option}
use Rattle.laws.specs.Rules.{Rule}
use Rattle.forms.specs.declared.forms.Item.{Item}
use Rattle.forms.specs.declared.forms.Named.{Named}
use Rattle.forms.specs.declared.forms.Named.TheVariants as is
use Rattle.forms.specs.declared.forms.Subject.{Subject}
use Rattle.forms.specs.declared.forms.Subject.TheVariants as subject
use Rattle.forms.specs.declared.rows.Row.{Row}
use Rattle.forms.specs.Forms.{subject_of}
use Rattle.pairs.specs.Lists.{Lists}
use Rattle.lookup.specs.Lookup.{segment_of}
use Rattle.layout.specs.Read.{read_row}
use Rattle.forms.specs.Rows.{width_of}
use Rattle.head.specs.declared.head.Fault.{Fault}
use Rattle.head.specs.declared.head.Fault.TheVariants.{Field, Range, Contract}
use Rattle.head.specs.Fields.{data_of, form_in}
use Rattle.head.specs.Head.{head_rules}
use Rattle.head.specs.Tests.{is_some, is_formed, is_in_range}
use Rattle.message.specs.Message.{message_place, acts_as, rows_in}

-- 01, the order of checks: rows in turn from row i on, 11 before 12 in a row
abbrev pub row_rules : ℕ → List Row → List ℕ → List (Rule Fault)
row_rules i [] bytes = []
row_rules i (row ∷ rows) bytes =
    record { holds = is_formed (read_row row (take (width_of row) bytes)); refusal = Field i }
    ∷ record { holds = is_in_range (read_row row (take (width_of row) bytes)); refusal = Range i }
    ∷ row_rules (suc i) rows (drop (width_of row) bytes)

-- 01, the table's row 13: an update's key
abbrev pub subject_rules : Subject → (Item → Option ℕ) → List (Rule Fault)
subject_rules subject.Nothing place = []
subject_rules (subject.Of item level) place = record { holds = is_some (place item); refusal = Contract } ∷ []

-- 01, the table's row 13: by what the message tells of
abbrev pub key_rules : Named → (Item → Option ℕ) → List (Rule Fault)
key_rules (is.Form form) place = subject_rules (subject_of form) place
key_rules is.NoLength place = []
key_rules is.PassedOver place = []

-- 01, the order of checks: 11 to 13
abbrev pub body_rules : Lists → ℕ → List ℕ → List (Rule Fault)
body_rules lists letter bytes =
    row_rules 0 (rows_in (form_in bytes)) (data_of bytes) ++ key_rules (acts_as bytes) (message_place lists letter bytes)

-- 01, the order of checks: 5 to 13
abbrev pub message_rules : Lists → ℕ → List ℕ → List (Rule Fault)
message_rules lists letter bytes = head_rules letter (segment_of lists.contracts letter) bytes ++ body_rules lists letter bytes
