-- A good message, rule by rule and in no order: 01 "The message", "The checksum", and the table's rows 5 to 13; `head` GoodHead has
-- those before its data.
use Rattle.std.specs.Prelude.{ℕ, ◌<◌, ◌≡◌, List, length, Ok}
use Rattle.std.proofs.Math.Option.{Option, some}
use Rattle.files.specs.File.{segments_of, letter_at, count_at, key_by}
use Rattle.pairs.specs.Lists.{Lists}
use Rattle.forms.specs.declared.forms.Item.{Item}
use Rattle.forms.specs.declared.forms.Named.{Named}
use Rattle.forms.specs.declared.forms.Named.TheVariants as is
use Rattle.forms.specs.declared.forms.Subject.{Subject}
use Rattle.forms.specs.declared.forms.Subject.TheVariants.{Nothing, Of}
use Rattle.forms.specs.declared.rows.Row.{Row}
use Rattle.layout.specs.Says.{row_at, field_at, RowSays}
use Rattle.forms.specs.Forms.{subject_of, forms_of}
use Rattle.head.specs.Fields.{letter_of, second_of, length_of, number_of, data_of, sum_sent, end_byte, form_in, sum_in, right_sum}
use Rattle.head.specs.GoodHead.{Framed, Coded, HasLength, HasSum, HasNumber}
use Rattle.message.specs.Message.{message_place, acts_as, rows_in}
use Rattle.pairs.specs.Items.{file_of, habit_of}

-- 01, the table's rows 11 and 12: every row's field is well formed and in range: it says the cell that is kept of it
abbrev pub GoodRows : List Row → List ℕ → Type 0
GoodRows rows bytes = (i : ℕ) → i < length rows → (cell : ℕ) × RowSays (row_at rows i) (field_at rows bytes i) (Ok cell)

-- 01, the table's row 13: the key of an update is listed
abbrev pub PlaceFor : Subject → (Item → Option ℕ) → Type 0
PlaceFor Nothing place = Unit {0}
PlaceFor (Of item level) place = (k : ℕ) × (place item ≡ some k)

-- 01, the table's row 13: by what the message tells of
abbrev pub HasContract : Named → (Item → Option ℕ) → Type 0
HasContract (is.Form form) place = PlaceFor (subject_of form) place
HasContract is.NoLength place = Unit {0}
HasContract is.PassedOver place = Unit {0}

-- 01, the table's row 13, M-100: the key is one of its file's, in the segment of the letter
abbrev pub KeyListed : Item → Lists → ℕ → List ℕ → Type 0
KeyListed item lists letter key =
    (i : ℕ) × (k : ℕ) × (i < segments_of lists.contracts) × (letter_at lists.contracts i ≡ letter)
    × (k < count_at (file_of item lists) i) × (key_by (habit_of item) (file_of item lists) i k ≡ key)

-- 01, the table's row 13, of sound lists: where a message tells of a contract or a pair, its key is one of the file's
-- (`contract_listed`)
abbrev pub KeyFor : Subject → Lists → ℕ → (Item → List ℕ) → Type 0
KeyFor Nothing lists letter key = Unit {0}
KeyFor (Of item level) lists letter key = KeyListed item lists letter (key item)

-- 01, the table's row 13, of sound lists: by what the message tells of
abbrev pub HasListedKey : Named → Lists → ℕ → (Item → List ℕ) → Type 0
HasListedKey (is.Form form) lists letter key = KeyFor (subject_of form) lists letter key
HasListedKey is.NoLength lists letter key = Unit {0}
HasListedKey is.PassedOver lists letter key = Unit {0}

-- 01, the table's rows 5 to 13: a message that breaks none of their rules
pub record GoodMessage (lists : Lists) (letter : ℕ) (bytes : List ℕ) : Type 0 where
  pub frame : Framed bytes
  pub code : Coded lists.contracts letter bytes
  -- 7
  pub trailer : end_byte bytes ≡ 13
  pub length_of_code : HasLength (forms_of (letter_of bytes) (second_of bytes)) (length_of bytes)
  pub checksum : HasSum (sum_in bytes) (sum_sent bytes) (right_sum bytes)
  pub numbering : HasNumber (form_in bytes) (number_of bytes)
  pub rows : GoodRows (rows_in (form_in bytes)) (data_of bytes)
  pub contract : HasContract (acts_as bytes) (message_place lists letter bytes)
