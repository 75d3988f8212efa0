-- Batches, and one that holds just one message; and what reading back is.
use Rattle.std.specs.Prelude.{ℕ, ◌<◌, ◌≡◌, Bool, true, cond, List, ◌∷◌, ◌++◌, length, Some}
use Rattle.wire.specs.Number.{bytes_of}
use Rattle.lookup.specs.Lookup.{segment_of}
use Rattle.forms.specs.declared.rows.Level.{Level}
use Rattle.forms.specs.declared.forms.Form.{Form}
use Rattle.forms.specs.declared.forms.Item.{Item}
use Rattle.forms.specs.declared.forms.Item.TheVariants.{Contract, Pair}
use Rattle.forms.specs.declared.forms.Session.{Session}
use Rattle.forms.specs.declared.forms.Subject.TheVariants.{Of}
use Rattle.forms.specs.Forms.{subject_of}
use Rattle.quote.specs.Quote.{seen_quote}
use Rattle.spread.specs.Spread.{seen_spread}
use Rattle.sequence.specs.Gaps.{takes}
use Rattle.message.specs.Compared.{compared_there}
use Rattle.state.specs.declared.answers.Judged.{Judged}
use Rattle.state.specs.declared.answers.Judged.TheVariants.{Accepted}
use Rattle.state.specs.declared.answers.Recorded.{Recorded}
use Rattle.state.specs.Memory.{Lent}
use Rattle.batch.specs.Promises.{JudgedBatch, TookBatch}
use Rattle.writer.specs.declared.writing.Code.{Code}
use Rattle.writer.specs.Chosen.{form_written}
use Rattle.listing.specs.ListRules.{gaps_of_letter}
use Rattle.reading.specs.Record.{record_of_key, record_number}
use Rattle.reading.specs.Shown.{QuoteFor, ReadsItem}

-- 01 "The batch": flag (1 byte), data size (2), number of messages (2), then the data; flag 1 is plain
abbrev pub plain_batch : ℕ → List ℕ → List ℕ
plain_batch count messages = 1 ∷ (bytes_of 2 (length messages) ++ bytes_of 2 count) ++ messages

-- 01 "The batch": a plain batch of one message
unfoldable pub batch_of : List ℕ → List ℕ
batch_of message = plain_batch 1 message

-- 01 "The message", M-100, M-104: the codes of updates, by the table of forms: what is written for them tells of what is asked for
abbrev pub WritesUpdate : Item → Code → Level → Form → Type 0
WritesUpdate item code level form = (form_written item code level ≡ Some form) × (subject_of form ≡ Of item level)

-- M-104: "only N updates a record": a contract's quote has that market type; a pair's has none
abbrev pub InNormalMarket : (item : Item) → QuoteFor item → Type 0
InNormalMarket Contract quote = quote.market_type ≡ 78
InNormalMarket Pair quote = Unit {0}

-- 01 "The message", M-100: what a message of that form holds of a quote, a contract's or a pair's
abbrev pub seen_for : (item : Item) → Form → QuoteFor item → QuoteFor item
seen_for Contract form quote = seen_quote form quote
seen_for Pair form quote = seen_spread form quote

-- demand 2: "What it writes reads back the same": a record is answered with that number and that quote; M-104: and with the session in
-- which it was sent
pub record ReadsAs {A : Type 0} (number : ℕ) (session : Session) (quote : A) (answer : Recorded) (read : A) : Type 0 where
  pub number_back : answer ≡ Recorded.Record number session
  pub quote_back : read ≡ quote

-- 01 "Sequence and gaps", M-102: the answer to one message with a number: it is taken, or it is old; and the keys compared
abbrev pub counted_as : Bool → ℕ → Judged
counted_as taken compared = cond taken (Accepted 1 0 0 compared) (Accepted 0 1 0 compared)

-- 01 "Sequence and gaps", M-102: a batch of one message with a number, judged and taken: it is accepted, and its number counted
pub record Counts (letter number compared : ℕ) (lent : Lent) (batch : List ℕ) : Type 0 where
  pub judged : (answer : Judged) → JudgedBatch lent batch answer → answer ≡ counted_as (takes (gaps_of_letter lent letter) number) compared
  pub taken : (answer : Judged) (lent' : Lent) → TookBatch lent batch answer lent' → answer ≡ counted_as (takes (gaps_of_letter lent letter) number) compared

-- demand 2: an update that was written, in a batch by itself: judged and taken, the batch is accepted, and its key is looked up; and where
-- its number is taken and above that of the record, the record then reads as what was written, by the promise of the call that reads it
pub record ReadsBack (item : Item) (letter : ℕ) (key : List ℕ) (level : Level) (number : ℕ) (session : Session) (quote : QuoteFor item) (lent : Lent) (batch : List ℕ) : Type 0 where
  pub counts : Counts letter number (compared_there item lent.lists key (segment_of lent.lists.contracts letter)) lent batch
  pub back : takes (gaps_of_letter lent letter) number ≡ true → record_number lent.records (record_of_key item lent.lists letter key level) < number
      → (answer : Judged) (lent' : Lent) → TookBatch lent batch answer lent'
      → (recorded : Recorded) (read : QuoteFor item) → ReadsItem item lent' letter key level recorded read → ReadsAs number session quote recorded read

-- M-104: "the others are passed over": an update that was written with another market type, in a batch by itself: judged and taken, the
-- batch is accepted, and its number counted; no key is looked up, and every record stays as it was
pub record PassesOver (letter number : ℕ) (lent : Lent) (batch : List ℕ) : Type 0 where
  pub counts : Counts letter number 0 lent batch
  pub records_kept : (answer : Judged) (lent' : Lent) → TookBatch lent batch answer lent' → lent'.records ≡ lent.records
