-- M-102: how many keys the lookup of a message's key compares: one lookup for each update, in its segment's contracts or pairs.
use Rattle.std.specs.Prelude.{ℕ, ◌≡◌, Bool, true, false, cond, List, take, Ok, Err, Result}
use Rattle.std.proofs.Math.Option.{Option, none, some}
use Rattle.laws.specs.Refused.{contract_no}
use Rattle.lookup.specs.declared.lookup.Sought.{Sought}
use Rattle.lookup.specs.Answers.{found_numbers, looked_up}
use Rattle.lookup.specs.Lookup.{segment_of, lookup}
use Rattle.pairs.specs.Lists.{Lists}
use Rattle.pairs.specs.Items.{file_of, habit_of}
use Rattle.forms.specs.declared.forms.Item.{Item}
use Rattle.forms.specs.declared.forms.Named.{Named}
use Rattle.forms.specs.declared.forms.Named.TheVariants as is
use Rattle.forms.specs.declared.forms.Subject.{Subject}
use Rattle.forms.specs.declared.forms.Subject.TheVariants.{Nothing, Of}
use Rattle.forms.specs.Forms.{subject_of, key_bytes_of}
use Rattle.head.specs.declared.head.Fault.TheVariants.{Frame, Code, Trailer, Length, Checksum, Numbering, Field, Range, Contract}
use Rattle.message.specs.declared.body.What.{What}
use Rattle.head.specs.declared.head.Fault.{Fault}
use Rattle.message.specs.Message.{message_key, place_there, acts_as}

-- M-102: the keys compared with a key in a segment of its file, where there is one
abbrev pub compared_there : Item → Lists → List ℕ → Option ℕ → ℕ
compared_there item lists key none = 0
compared_there item lists key (some segment) = (lookup (habit_of item) (file_of item lists) segment key).compared

-- M-102: the keys compared with the key with which data begins, if it tells of a contract, and if of a pair
abbrev pub keys_in : Lists → List ℕ → Option ℕ → Item → ℕ
keys_in lists «data» segment item = compared_there item lists (take (key_bytes_of item) «data») segment

-- M-102: the keys compared with a message's key, if it tells of a contract, and if of a pair
abbrev pub keys_there : Lists → List ℕ → Option ℕ → Item → ℕ
keys_there lists bytes segment item = compared_there item lists (message_key item bytes) segment

-- M-102: by what a message tells of: a heartbeat has no lookup
abbrev pub compared_for : Subject → (Item → ℕ) → ℕ
compared_for Nothing keys = 0
compared_for (Of item level) keys = keys item

-- M-102: by what a message acts as: what is passed over has none
abbrev pub compared_as : Named → (Item → ℕ) → ℕ
compared_as (is.Form form) keys = compared_for (subject_of form) keys
compared_as is.NoLength keys = 0
compared_as is.PassedOver keys = 0

-- M-102: the keys that a message's lookup compares, once it has come to 13
unfoldable pub message_compared : Lists → ℕ → List ℕ → ℕ
message_compared lists letter bytes = compared_as (acts_as bytes) (keys_there lists bytes (segment_of lists.contracts letter))

-- M-102: a key that was looked up: its place, 13 where it has none, and the keys compared
pub record Seeks (item : Item) (lists : Lists) (key : List ℕ) (segment : Option ℕ) (answer : Sought) : Type 0 where
  pub place : found_numbers contract_no answer.found ≡ looked_up contract_no (place_there item lists key segment)
  pub steps : answer.compared ≡ compared_there item lists key segment

-- 01, the order of checks: of the rows 5 to 13 a message that is refused by the last alone has come to its lookup
abbrev pub key_sought : Fault → Bool
key_sought Frame = false
key_sought Code = false
key_sought Trailer = false
key_sought Length = false
key_sought Checksum = false
key_sought Numbering = false
key_sought (Field row) = false
key_sought (Range row) = false
key_sought Contract = true

-- M-102, "on a refusal, those done so far": of a message's lookup
abbrev pub so_far : Result What Fault → ℕ → ℕ
so_far (Ok _) compared = compared
so_far (Err fault) compared = cond (key_sought fault) compared 0
