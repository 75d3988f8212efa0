-- What the bytes of a message are read as, and what reading promises: `good_what`, `good_exact` (GoodLaws) and `fault_exact` (OrderLaws)
-- say it in the words of `Good`.
use Rattle.std.specs.Prelude.{ℕ, ◌≡◌, List, [], Ok, Err, Result}
use Rattle.layout.specs.declared.read.BadRow.TheVariants as bad_row
use Rattle.layout.specs.Answers.{Verdict}
use Rattle.std.proofs.Math.Option.{Option}
use Rattle.std.proofs.lemmas.List.Edits.{sets}
use Rattle.pairs.specs.Lists.{Lists}
use Rattle.lookup.specs.Lookup.{segment_of}
use Rattle.forms.specs.declared.forms.Item.{Item}
use Rattle.layout.specs.Cells.{zeros_behind}
use Rattle.layout.specs.Read.{Outcome, read_rows}
use Rattle.message.specs.declared.body.What.{What}
use Rattle.head.specs.declared.head.Fault.{Fault}
use Rattle.message.specs.declared.body.Outline.{Outline}
use Rattle.head.specs.declared.head.Fault.TheVariants as fault
use Rattle.head.specs.Faults.{Head}
use Rattle.head.specs.Fields.{form_in, length_of, number_of, data_of}
use Rattle.head.specs.Head.{form_rules}
use Rattle.head.specs.Rules.{head_of, first_fault}
use Rattle.message.specs.Numbers.{TellsWhat}
use Rattle.message.specs.Compared.{compared_as, so_far}
use Rattle.message.specs.Message.{Message, message_place, acts_as, of_named, rows_in}

-- 01 "The message": the rows of the data, read in turn
abbrev pub rows_read : List ℕ → Outcome
rows_read bytes = read_rows 0 (rows_in (form_in bytes)) (data_of bytes)

-- 01, the table's rows 11 and 12: the first bad row decides
abbrev pub of_verdict : Verdict → Result What Fault → Result What Fault
of_verdict (Ok read) good = good
of_verdict (Err (bad_row.Field row)) good = Err (fault.Field row)
of_verdict (Err (bad_row.Range row)) good = Err (fault.Range row)

-- 01 "The message": what a message with a good head is, by the place of its key
unfoldable pub contents_by : (Item → Option ℕ) → List ℕ → Message
contents_by place bytes =
    record {
      what = of_verdict (rows_read bytes).verdict (of_named (acts_as bytes) (number_of bytes) place);
      length = length_of bytes;
      cells = zeros_behind (rows_read bytes).cells;
    }

-- 01 "The message": what a message with a good head is, with its key looked up
abbrev pub contents_of : Lists → ℕ → List ℕ → Message
contents_of lists letter bytes = contents_by (message_place lists letter bytes) bytes

-- 01, the order of checks: a message of which no row was read
abbrev pub bare : Result What Fault → ℕ → Message
bare what length = record { what = what; length = length; cells = zeros_behind [] }

-- 01, the order of checks: 5 to 10, and then 11 to 13
abbrev pub of_head : Head → ℕ → Message → Message
of_head (Ok _) length contents = contents
of_head (Err fault) length contents = bare (Err fault) length

-- 01, the table's rows 5 to 13 in their order: what the bytes begin with
unfoldable pub message_of : Lists → ℕ → List ℕ → Message
message_of lists letter bytes =
    of_head (head_of letter (segment_of lists.contracts letter) bytes) (length_of bytes) (contents_of lists letter bytes)

-- 01, the order of checks: the cells of the rows that are read: none where the head is bad
abbrev pub cells_by : Head → List ℕ → List ℕ
cells_by (Ok _) bytes = (rows_read bytes).cells
cells_by (Err fault) bytes = []

-- 01, the order of checks: the cells of the rows that are read, with the head judged
unfoldable pub cells_read : Lists → ℕ → List ℕ → List ℕ
cells_read lists letter bytes = cells_by (head_of letter (segment_of lists.contracts letter) bytes) bytes

-- 01 "The message", M-102: what a message is, how long it is, and how many keys were compared, of those that its lookup compares
pub record Outlines (message : Message) (compared : ℕ) (answer : Outline) : Type 0 where
  pub tells : TellsWhat message.what answer.what
  pub long : answer.length ≡ message.length
  pub steps : answer.compared ≡ so_far message.what compared

-- lent memory: the answer of reading a message, and the lent cells: those of the rows that are read are stored
pub record ReadsMessage (message : Message) (compared : ℕ) (read cells : List ℕ) (answer : Outline) (cells' : List ℕ) : Type 0 where
  pub told : Outlines message compared answer
  pub stored : cells' ≡ sets cells 0 read

-- lent memory: the same of a message whose frame, code and trailer are good, by the rest of its head
abbrev pub ReadsFormed : (Item → Option ℕ) → (Item → ℕ) → List ℕ → List ℕ → Outline → List ℕ → Type 0
ReadsFormed place keys bytes cells answer cells' =
    let head : Head = first_fault (form_rules bytes) in
    ReadsMessage (of_head head (length_of bytes) (contents_by place bytes)) (compared_as (acts_as bytes) keys) (cells_by head bytes) cells answer cells'
