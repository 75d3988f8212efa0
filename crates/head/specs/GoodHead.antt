-- A good message before its data, rule by rule and in no order: 01 "The message", "The checksum", and the table's rows 5 to 10.
use Rattle.std.specs.Prelude.{ℕ, ◌≤◌, ◌<◌, ◌≡◌, ◌⊎◌, length}
use mathlib.Core.List.{List, [], ◌∷◌, Memᴰ}
use Rattle.files.specs.File.{segments_of, letter_at}
use Rattle.forms.specs.declared.forms.Form.{Form}
use Rattle.forms.specs.declared.forms.Named.{Named}
use Rattle.forms.specs.declared.forms.Named.TheVariants as is
use Rattle.forms.specs.declared.forms.Subject.{Subject}
use Rattle.forms.specs.declared.forms.Subject.TheVariants.{Nothing, Of}
use Rattle.forms.specs.declared.forms.Sum.{Sum}
use Rattle.forms.specs.declared.forms.Sum.TheVariants.{Zero, Right, RightOrZero}
use Rattle.forms.specs.Sizes.{bare_length}
use Rattle.forms.specs.Rows.{message_length}
use Rattle.forms.specs.Forms.{rows_of, subject_of}
use Rattle.head.specs.Fields.{data_at, letter_of, pre_open_letter, segment_letter_of, second_of, length_of, zero_sum}

-- 01, the table's row 5: 8 bytes are left, and the length is 11 or more and not over what is left
pub record Framed (bytes : List ℕ) : Type 0 where
  pub begun : data_at ≤ length bytes
  pub least : bare_length ≤ length_of bytes
  pub within : length_of bytes ≤ length bytes

-- 01 "The contract list": a segment of the list has the letter
abbrev pub LetterListed : List ℕ → ℕ → Type 0
LetterListed list letter = (i : ℕ) × (i < segments_of list) × (letter_at list i ≡ letter)

-- M-104: the P codes that 002 prints: PN, PO and PC
abbrev pub IsPreOpen : ℕ → Type 0
IsPreOpen second = (second ≡ 78) ⊎ ((second ≡ 79) ⊎ (second ≡ 67))

-- 01, the table's row 6: the second byte is A to Z; M-104: behind P it is one that 002 prints
abbrev pub IsCode : ℕ → ℕ → Type 0
IsCode letter second = ((letter ≡ pre_open_letter) × IsPreOpen second) ⊎ ((letter ≡ pre_open_letter → ⊥) × ((65 ≤ second) × (second ≤ 90)))

-- 01, the table's row 6, M-104: the segment is the first message's and listed, and the code is one of its codes
pub record Coded (list : List ℕ) (letter : ℕ) (bytes : List ℕ) : Type 0 where
  pub same_segment : segment_letter_of bytes ≡ letter
  pub code : IsCode (letter_of bytes) (second_of bytes)
  pub listed : LetterListed list letter

-- 01, the table's row 8: a table code has one of its lengths
abbrev pub HasLength : List Form → ℕ → Type 0
HasLength [] n = Unit {0}
HasLength (first ∷ rest) n = (form : Form) × Memᴰ form (first ∷ rest) × (n ≡ message_length (rows_of form))

-- 01, the table's row 9: the sum is zero, right, or either, as the table says
abbrev pub HasSum : Sum → List ℕ → List ℕ → Type 0
HasSum Zero sent right = sent ≡ zero_sum
HasSum Right sent right = sent ≡ right
HasSum RightOrZero sent right = (sent ≡ zero_sum) ⊎ (sent ≡ right)

-- 01, the table's row 10: a message that tells of nothing, a heartbeat, has number 0, other messages 1 or more
abbrev pub NumberFor : Subject → ℕ → Type 0
NumberFor Nothing number = number ≡ 0
NumberFor (Of item level) number = 1 ≤ number

-- 01, the table's row 10: by what the message tells of
abbrev pub HasNumber : Named → ℕ → Type 0
HasNumber (is.Form form) number = NumberFor (subject_of form) number
HasNumber is.NoLength number = 1 ≤ number
HasNumber is.PassedOver number = 1 ≤ number
