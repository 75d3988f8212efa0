-- Laws of acting: what a number and a message do, by what was answered of them.
use Rattle.std.specs.Prelude.{ℕ, ◌*◌, ◌≤◌, ◌≡◌, refl, true, List, length, Ok, Err, Result}
use Rattle.std.proofs.Common.{ap, sym, ◌∙◌}
use Rattle.std.proofs.lemmas.Bool.{false≢true}
use Rattle.pairs.specs.Lists.{Lists}
use Rattle.taking.specs.declared.Taken.{Taken}
use Rattle.taking.specs.declared.Full.{Full}
use Rattle.sequence.specs.Changes.{after}
use Rattle.sequence.specs.GapsLaws.{took_taken, took_old, taken_exactly, old_exactly, full_exactly}
use Rattle.taking.specs.Promises.{Took}
use Rattle.taking.specs.PromisesLaws.{took_row}
use Rattle.sequence.specs.Row.{gaps_of}
use Rattle.sequence.specs.RowLaid.{laid, sound_gap_row}
use Rattle.sequence.specs.RowLaws.{laid_self, sound_row_exactly}
use Rattle.turns.specs.declared.act.Act.{Act}
use Rattle.turns.specs.declared.act.Act.TheVariants as act
use Rattle.message.specs.declared.body.What.{What}
use Rattle.message.specs.declared.body.What.TheVariants as what
use Rattle.head.specs.declared.head.Fault.{Fault}
use Rattle.message.proofs.CallerLaws.{all_there}
use Rattle.head.specs.Fields.{length_of}
use Rattle.message.specs.Compared.{message_compared, so_far}
use Rattle.message.specs.Message.{Message}
use Rattle.message.specs.Reads.{message_of}
use Rattle.message.specs.MessageLaws.{length_is}
use Rattle.message.specs.Numbers.{verdict_of}
use Rattle.head.specs.Faults.{fault_numbers}
use Rattle.state.specs.declared.refusal.Refusal.{Refusal}
use Rattle.state.specs.declared.refusal.Refusal.TheVariants.{Gaps}
use Rattle.turns.specs.Acts.{act_of, none, box_at, changed_by, NumberActs, MessageActs}
use Rattle.turns.specs.Turns.{Box, number_acts, what_acts, message_acts, acted_numbers}
use Rattle.slots.specs.Slots.{records_wanted}
use Rattle.state.specs.Refusals.{refusal_numbers, in_message}
use Rattle.state.specs.RefusalsLaws.{fault_numbers_lem, fault_told}
use Rattle.stores.specs.Stores.{store_cells, Keeps}
use Rattle.stores.specs.StoresLaws.{none_kept}

-- what becomes of message i by what became of its number
abbrev pub act_by : ℕ → Result Taken Full → Result Act Refusal
act_by i (Ok taken) = Ok (act_of taken)
act_by i (Err _) = Err (Gaps i)

module _ (row row' : List ℕ) (i number : ℕ) (sound : sound_gap_row row ≡ true) where
  pub number_acts_lem : (answer : Result Taken Full) → Took row number answer row' → NumberActs row i number (act_by i answer) row'
  number_acts_lem (Ok Taken.Taken) t =
      let e = (taken_exactly (gaps_of row) number).0 (sym t.says) in
      let left : row' ≡ laid row (after (gaps_of row) number) = t.left ∙ ap (laid row) (took_taken (gaps_of row) number e.0 e.1).1 in
      record { says = λ changed records. simp (e.0, e.1); acts = λ changed records counts. simp (e.0, e.1, left); sound = took_row sound t }
  number_acts_lem (Ok Taken.Old) t =
      let e = (old_exactly (gaps_of row) number).0 (sym t.says) in
      let all = (sound_row_exactly row).0 sound in
      let left : row' ≡ row = t.left ∙ ap (laid row) (took_old (gaps_of row) number e).1 ∙ laid_self row all.0 all.1 in
      record { says = λ changed records. simp e; acts = λ changed records counts. simp (e, left); sound = took_row sound t }
  number_acts_lem (Err _) t =
      let e = (full_exactly (gaps_of row) number).0 (sym t.says) in
      record { says = λ changed records. simp (e.0, e.1); acts = λ changed records counts. simp (e.0, e.1); sound = took_row sound t }

-- what a message is decides what it does
module _ (lists : Lists) (letter : ℕ) (bytes : List ℕ) (message : Message) (is : message ≡ message_of lists letter bytes) {w : Result What Fault} (e : message.what ≡ w) where
  what_is : (message_of lists letter bytes).what ≡ w
  what_is = ap (λ (m : Message). m.what) (sym is) ∙ e

  pub acts_as_lem : (box : Box) (i : ℕ) → message_acts lists letter box i bytes ≡ what_acts lists letter box i w message.cells
  unfolding message_acts
  acts_as_lem box i = rw (what_is, is)

  whole : message.length ≡ length_of bytes
  whole = ap (λ (m : Message). m.length) is ∙ length_is lists letter bytes

  -- the keys compared for it
  abbrev steps_done : ℕ
  steps_done = so_far message.what (message_compared lists letter bytes)

  at_steps : steps_done ≡ so_far (message_of lists letter bytes).what (message_compared lists letter bytes)
  at_steps = ap (λ (m : Message). so_far m.what (message_compared lists letter bytes)) is

  inside : verdict_of w ≡ Ok tt → message.length ≤ length bytes
  inside g = rw is (all_there lists letter bytes (ap verdict_of what_is ∙ g))

  module _ (row stores : List ℕ) (kept i : ℕ) where
    -- a message that is numbered
    pub numbered : (a : Result Act Refusal) (number : ℕ) (changed : List ℕ → List ℕ) → verdict_of w ≡ Ok tt
        → ((box : Box) → what_acts lists letter box i w message.cells ≡ number_acts box i number changed)
        → (row' : List ℕ) → NumberActs row i number a row'
        → (kept' : ℕ) (stores' : List ℕ) → Keeps (records_wanted lists) message.length stores kept (changed_by a changed) kept' stores'
        → MessageActs lists letter row stores kept i bytes (record { act = a; length = message.length; kept = kept'; compared = steps_done }) row' stores'
    numbered a number changed g by row' n kept' stores' k =
        record {
          says = λ records. n.says changed records ∙ ap acted_numbers (sym (acts_as_lem (box_at row records none) i ∙ by (box_at row records none)));
          changes = changed_by a changed;
          acts = λ records counts. acts_as_lem (box_at row records counts) i ∙ by (box_at row records counts) ∙ n.acts changed records counts;
          sound = n.sound;
          length_is = whole;
          inside = λ p. inside g;
          keeps = k;
          steps = at_steps;
        }

    module _ (sound : sound_gap_row row ≡ true) (within : store_cells * kept ≤ length stores) where
      none_changed : Keeps (records_wanted lists) message.length stores kept (λ records. records) kept stores
      none_changed = none_kept (records_wanted lists) message.length stores kept within (λ records. records) (λ records. refl)

      pub heartbeat_acts : w ≡ Ok what.Heartbeat → MessageActs lists letter row stores kept i bytes (record { act = Ok act.Heartbeat; length = message.length; kept = kept; compared = steps_done }) row stores
      heartbeat_acts h =
          record {
            says = λ records. rw (acts_as_lem (box_at row records none) i, h);
            changes = λ records. records;
            acts = λ records counts. acts_as_lem (box_at row records counts) i ∙ rw h;
            sound = sound;
            length_is = whole;
            inside = λ p. inside (ap verdict_of h);
            keeps = none_changed;
            steps = at_steps;
          }

      pub bad_acts : (fault : Fault) → w ≡ Err fault → (refusal : Refusal) → refusal_numbers refusal ≡ in_message i (fault_numbers fault)
          → MessageActs lists letter row stores kept i bytes (record { act = Err refusal; length = message.length; kept = kept; compared = steps_done }) row stores
      bad_acts fault h refusal f =
          record {
            says = λ records. rw (acts_as_lem (box_at row records none) i, h) (f ∙ sym (fault_numbers_lem fault i));
            changes = λ records. records;
            acts = λ records counts. acts_as_lem (box_at row records counts) i ∙ rw (h, fault_told refusal fault i f);
            sound = sound;
            length_is = whole;
            inside = λ p. absurd (false≢true p);
            keeps = none_changed;
            steps = at_steps;
          }
