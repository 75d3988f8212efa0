-- The messages of a batch act in turn: 01 "Sequence and gaps".
use Rattle.std.specs.Prelude.{ℕ, zero, suc, cond, List, [], ◌∷◌, eqb, length, drop, Ok, Err, Result}
use Rattle.std.proofs.Math.Option.{Option}
use Rattle.forms.specs.declared.forms.Form.{Form}
use Rattle.forms.specs.declared.forms.Subject.{Subject}
use Rattle.forms.specs.declared.forms.Subject.TheVariants.{Nothing, Of}
use Rattle.forms.specs.Forms.{subject_of}
use Rattle.pairs.specs.Lists.{Lists}
use Rattle.lookup.specs.Lookup.{segment_of}
use Rattle.sequence.specs.Gaps.{takes}
use Rattle.sequence.specs.Changes.{full, after}
use Rattle.sequence.specs.Row.{gaps_of}
use Rattle.sequence.specs.RowLaid.{laid}
use Rattle.message.specs.declared.body.What.{What}
use Rattle.message.specs.declared.body.What.TheVariants.{Heartbeat, PassedOver, Update}
use Rattle.head.specs.declared.head.Fault.{Fault}
use Rattle.head.specs.Fields.{length_of}
use Rattle.message.specs.Reads.{message_of}
use Rattle.state.specs.declared.refusal.Refusal.{Refusal}
use Rattle.state.specs.declared.refusal.Refusal.TheVariants.{Count, Gaps}
use Rattle.state.specs.Refusals.{refusal_numbers, of_fault}
use Rattle.slots.specs.Places.{slot_at, slot_in, record_of}
use Rattle.stores.specs.Stored.{stored}

-- 01 "Sequence and gaps": what a batch changes as its messages act in turn: its segment's gap row and the records; and the
-- counts that it answers
pub record Box : Type 0 where
  pub row : List ℕ
  pub records : List ℕ
  pub taken : ℕ
  pub old : ℕ
  pub heartbeats : ℕ

-- 01 "Sequence and gaps": a box after messages, or the refusal of one
pub data Acted : Type 0 where
  acted : Box → Acted
  refused : Refusal → Acted

-- 01 "Sequence and gaps": a number above highest, or missing, is taken, and what its message changes is done; 14 where more
-- than 64 runs would stand; all others are old
abbrev pub number_acts : Box → ℕ → ℕ → (List ℕ → List ℕ) → Acted
number_acts box i number changed =
    cond (takes (gaps_of box.row) number)
    (cond (full (gaps_of box.row) number) (refused (Gaps i))
    (acted (record {
      row = laid box.row (after (gaps_of box.row) number);
      records = changed box.records;
      taken = suc box.taken;
      old = box.old;
      heartbeats = box.heartbeats;
    })))
    (acted (record {
      row = box.row;
      records = box.records;
      taken = box.taken;
      old = suc box.old;
      heartbeats = box.heartbeats;
    }))

-- 01 "Sequence and gaps": what an update taken changes of the records, by what it tells of
abbrev pub updated : Lists → Option ℕ → ℕ → Subject → Form → ℕ → List ℕ → List ℕ → List ℕ
updated lists segment place Nothing form number cells = λ records. records
updated lists segment place (Of item level) form number cells = stored (slot_at lists (slot_in item segment place level)) number (record_of item form cells)

-- 01 "Sequence and gaps": message i acts: a heartbeat changes nothing
abbrev pub what_acts : Lists → ℕ → Box → ℕ → Result What Fault → List ℕ → Acted
what_acts lists letter box i (Err fault) cells = refused (of_fault fault i)
what_acts lists letter box i (Ok Heartbeat) cells =
    acted (record {
      row = box.row;
      records = box.records;
      taken = box.taken;
      old = box.old;
      heartbeats = suc box.heartbeats;
    })
what_acts lists letter box i (Ok (PassedOver number)) cells = number_acts box i number (λ records. records)
what_acts lists letter box i (Ok (Update number form place)) cells =
    number_acts box i number (updated lists (segment_of lists.contracts letter) place (subject_of form) form number cells)

-- 01 "The message": what acts is what the bytes are read as
unfoldable pub message_acts : Lists → ℕ → Box → ℕ → List ℕ → Acted
message_acts lists letter box i bytes =
    what_acts lists letter box i (message_of lists letter bytes).what (message_of lists letter bytes).cells

-- 01, the order of checks: what comes next acts on the box, unless a refusal has come
abbrev pub next : Acted → (Box → Acted) → Acted
next (refused refusal) more = refused refusal
next (acted box) more = more box

-- 01 "Sequence and gaps": "Messages of one batch act in turn": so many messages act in turn from message i on, each where the
-- one before it ends; last, bytes left over (4)
unfoldable pub messages_act : ℕ → Lists → ℕ → ℕ → Box → List ℕ → Acted
messages_act zero lists letter i box bytes = cond (eqb (length bytes) 0) (acted box) (refused Count)
messages_act (suc more) lists letter i box bytes =
    next (message_acts lists letter box i bytes) (λ box'. messages_act more lists letter (suc i) box' (drop (length_of bytes) bytes))

-- 01 "What may be asked": an accepted batch answers how many messages were taken, old and heartbeats
abbrev pub acted_numbers : Acted → List ℕ
acted_numbers (acted box) = 0 ∷ box.taken ∷ box.old ∷ box.heartbeats ∷ []
acted_numbers (refused refusal) = refusal_numbers refusal
