-- What a record shows, up to the bytes that came: demands 2 and 3 in one sentence.
use Rattle.std.specs.Prelude.{ℕ, zero, suc, ◌≡◌, drop}
use mathlib.Core.List.{List, [], ◌∷◌, Memᴰ}
use Rattle.std.proofs.Math.Option.{some}
use Rattle.forms.specs.declared.rows.Level.{Level}
use Rattle.forms.specs.Forms.{named_rows, rows_of, subject_of}
use Rattle.forms.specs.Rows.{message_length}
use Rattle.forms.specs.declared.forms.Form.{Form}
use Rattle.forms.specs.declared.forms.Named.TheVariants as is
use Rattle.forms.specs.declared.forms.Session.{Session}
use Rattle.forms.specs.declared.forms.Subject.TheVariants.{Of}
use Rattle.forms.specs.declared.forms.Item.{Item}
use Rattle.quote.specs.Shows.{field_named}
use Rattle.head.specs.Fields.{length_of, number_of, session_sent, form_in, data_of}
use Rattle.lookup.specs.Lookup.{segment_of}
use Rattle.pairs.specs.Lists.{Lists}
use Rattle.message.specs.Message.{Message, message_key}
use Rattle.message.specs.Reads.{message_of}
use Rattle.batch.specs.Batch.{batch_letter, count_of, batch_data}
use Rattle.reading.specs.Shown.{QuoteFor, ShowsEach}

-- 01 "The batch": "Each message is a part of the batch that begins where the one before it ends": the bytes from each one's start
abbrev pub message_starts : ℕ → List ℕ → List (List ℕ)
message_starts zero bytes = []
message_starts (suc more) bytes = bytes ∷ message_starts more (drop (length_of bytes) bytes)

-- 01 "The batch": a message that came in segment i is one of an accepted batch, by its bytes
pub record Source (lists : Lists) (batches : List (List ℕ)) (i : ℕ) (m : Message) : Type 0 where
  pub batch : List ℕ
  pub accepted : Memᴰ batch batches
  pub listed : segment_of lists.contracts (batch_letter batch) ≡ some i
  pub bytes : List ℕ
  pub in_batch : Memᴰ bytes (message_starts (count_of batch) (batch_data batch))
  pub is : m ≡ message_of lists (batch_letter batch) bytes

-- demands 2 and 3: a record of a letter's key and level, of a contract or of a pair, shows what a message of an accepted batch says: its number, and each number
-- the exact decimal in the field of its name
pub record ShownAsSent (batches : List (List ℕ)) (item : Item) (letter : ℕ) (key : List ℕ) (level : Level) (number : ℕ) (session : Session) (quote : QuoteFor item) : Type 0 where
  pub batch : List ℕ
  pub accepted : Memᴰ batch batches
  pub of_letter : batch_letter batch ≡ letter
  pub bytes : List ℕ
  pub in_batch : Memᴰ bytes (message_starts (count_of batch) (batch_data batch))
  pub number_is : number_of bytes ≡ number
  pub key_is : message_key item bytes ≡ key
  -- M-104: the session that its code says
  pub session_is : session_sent bytes ≡ session
  -- its form, by its code and length, tells of the contract or pair and the level
  pub form : Form
  pub form_is : form_in bytes ≡ is.Form form
  pub level_is : length_of bytes ≡ message_length (rows_of form)
  pub tells : subject_of form ≡ Of item level
  pub shows : ShowsEach item (field_named (named_rows form) (data_of bytes)) quote
