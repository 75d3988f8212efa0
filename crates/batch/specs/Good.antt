-- A good batch, rule by rule: the table's rows 1 to 14, and a good state.
use Rattle.std.specs.Prelude.{ℕ, zero, suc, ◌+◌, ◌≤◌, ◌≡◌, cond, List, length, drop}
use Rattle.pairs.specs.Lists.{Lists}
use Rattle.sequence.specs.Gaps.{Gaps, most, takes}
use Rattle.sequence.specs.Changes.{after}
use Rattle.sequence.specs.Row.{gaps_of}
use Rattle.forms.specs.declared.forms.Subject.{Subject}
use Rattle.forms.specs.declared.forms.Subject.TheVariants.{Nothing, Of}
use Rattle.forms.specs.declared.forms.Named.{Named}
use Rattle.forms.specs.declared.forms.Named.TheVariants as is
use Rattle.forms.specs.Forms.{subject_of}
use Rattle.message.specs.Good.{GoodMessage}
use Rattle.head.specs.Fields.{form_in, length_of, number_of}
use Rattle.batch.specs.Batch.{flag_of, size_of, count_of, batch_data, batch_letter}
use Rattle.state.specs.Memory.{Lent, gap_row_of_letter}
use Rattle.state.specs.GoodState.{GoodState}

-- 01, the table's rows 1 to 4: a batch before its messages
pub record GoodFront (batch : List ℕ) : Type 0 where
  -- 1
  pub begun : 5 ≤ length batch
  pub small : size_of batch ≤ 32767
  pub whole : length batch ≡ size_of batch + 5
  -- 2 and 3
  pub plain : flag_of batch ≡ 1
  -- 4
  pub some_messages : 1 ≤ count_of batch

-- 01 "Sequence and gaps": "A number above highest, or missing, is taken. All others are old"
abbrev pub arrived : Gaps → ℕ → Gaps
arrived gaps number = cond (takes gaps number) (after gaps number) gaps

-- 01 "Sequence and gaps": a message that tells of nothing, a heartbeat, changes nothing
abbrev pub arrived_for : Subject → Gaps → ℕ → Gaps
arrived_for Nothing gaps number = gaps
arrived_for (Of item level) gaps number = arrived gaps number

-- 01 "Sequence and gaps": by what the message is named in the table of forms
abbrev pub arrived_as : Named → Gaps → ℕ → Gaps
arrived_as (is.Form form) gaps number = arrived_for (subject_of form) gaps number
arrived_as is.NoLength gaps number = arrived gaps number
arrived_as is.PassedOver gaps number = arrived gaps number

-- 01 "Sequence and gaps": the gaps when a message has come
abbrev pub gaps_after : Gaps → List ℕ → Gaps
gaps_after gaps bytes = arrived_as (form_in bytes) gaps (number_of bytes)

-- 01 "The batch": so many messages, each where the one before it ends: 5 to 13 of each, 14 after each, and no bytes behind the
-- last (4)
abbrev pub GoodMessages : ℕ → Lists → ℕ → Gaps → List ℕ → Type 0
GoodMessages zero lists letter gaps bytes = length bytes ≡ 0
GoodMessages (suc more) lists letter gaps bytes =
    GoodMessage lists letter bytes × (length (gaps_after gaps bytes).runs ≤ most)
    × GoodMessages more lists letter (gaps_after gaps bytes) (drop (length_of bytes) bytes)

-- 01, the table's rows 1 to 16 and 18: a batch that breaks no rule, handed a good state
pub record GoodBatch (lent : Lent) (batch : List ℕ) : Type 0 where
  pub state : GoodState lent
  pub front : GoodFront batch
  pub messages : GoodMessages (count_of batch) lent.lists (batch_letter batch) (gaps_of (gap_row_of_letter lent.lists (batch_letter batch) lent.rows)) (batch_data batch)
