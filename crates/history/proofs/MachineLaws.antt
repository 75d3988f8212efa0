-- A batch and the machine: what has come is the machine that it leaves, and a batch is judged as the machine judges it.
use Rattle.std.specs.Prelude.{ℕ, zero, suc, ◌≡◌, refl, Bool, true, false, cond, ◌&&◌, List, ◌∷◌, eqb, drop}
use Rattle.std.proofs.Common.{sym, ap, ◌∙◌}
use Rattle.std.proofs.Math.Option.{Option, some}
use Rattle.lookup.specs.Lookup.{segment_of}
use Rattle.pairs.specs.Lists.{Lists}
use Rattle.head.specs.Fields.{length_of}
use Rattle.message.specs.Message.{Message}
use Rattle.message.specs.Reads.{message_of}
use Rattle.slots.specs.Slots.{Slot}
use Rattle.starting.specs.Start.{start_of}
use Rattle.history.specs.Machine.{Machine, comes_new, higher, arrives, in_segment, comes_to, standing_for, standing, all_come, counted}
use Rattle.history.specs.Past.{Event, came, messages_of, all_came, wrote_off_in, taken_of, taken_for, how_many, runs_standing}
use Rattle.history.specs.Updates.{segment_in, is_of}
use Rattle.history.specs.Kept.{newest}
use Rattle.history.specs.Exactly.{came_next}
use Rattle.history.specs.Refines.{machine_of}

-- ---- a message that comes

module _ (lists : Lists) (starts : List ℕ) where
  newest_came : (i : ℕ) (m : Message) (past : List Event) (slot : Slot)
      → newest slot (taken_for starts slot (came i m ∷ past)) ≡ (arrives i m (machine_of lists starts past)).newest slot
  newest_came i m past slot =
      let s : ℕ = segment_in slot in
      let taken : List Message = taken_of s (start_of starts s) past in
      go taken (eqb i s) (comes_new (start_of starts s) taken (wrote_off_in s past) m)
    where
      go : (taken : List Message) (t u : Bool)
          → newest slot (cond t (cond u (m ∷ taken) taken) taken) ≡ cond (t && u && is_of slot m.what) (higher m (newest slot taken)) (newest slot taken)
      go taken true true = refl
      go taken true false = refl
      go taken false u = refl

  came_is : (i : ℕ) (m : Message) (past : List Event) → machine_of lists starts (came i m ∷ past) ≡ arrives i m (machine_of lists starts past)
  came_is i m past = λ k.
      record {
        lists = lists;
        start = start_of starts;
        taken = λ j. taken_of j (start_of starts j) (came i m ∷ past);
        off = λ j. wrote_off_in j past;
        newest = λ slot. newest_came i m past slot k;
      }

  module _ (letter s : ℕ) (listed : segment_of lists.contracts letter ≡ some s) where
    pub comes_is : (bytes : List ℕ) (past : List Event) → comes_to letter bytes (machine_of lists starts past) ≡ machine_of lists starts (came_next lists letter s bytes past)
    comes_is bytes past =
        let m : Machine = machine_of lists starts past in
        ap (λ (o : Option ℕ). in_segment o m (λ i. arrives i (message_of lists letter bytes) m)) listed ∙ sym (came_is s (message_of lists letter bytes) past)

    pub standing_is : (past : List Event) → standing_for letter (machine_of lists starts past) ≡ runs_standing s (start_of starts s) past
    standing_is past = ap (λ (o : Option ℕ). in_segment o 0 (standing (machine_of lists starts past))) listed

    pub all_come_lem : (count : ℕ) (bytes : List ℕ) (past : List Event)
        → all_come count letter bytes (machine_of lists starts past) ≡ machine_of lists starts (all_came s (messages_of count lists letter bytes) past)
    all_come_lem zero bytes past = refl
    all_come_lem (suc more) bytes past =
        ap (all_come more letter (drop (length_of bytes) bytes)) (comes_is bytes past) ∙ all_come_lem more (drop (length_of bytes) bytes) (came_next lists letter s bytes past)

    pub counts_are : (test : Machine → Message → Bool) (tests : List Event → Message → Bool) → ((past : List Event) (m : Message) → test (machine_of lists starts past) m ≡ tests past m)
        → (count : ℕ) (bytes : List ℕ) (past : List Event)
        → counted test count letter bytes (machine_of lists starts past) ≡ how_many tests s (messages_of count lists letter bytes) past
    counts_are test tests same zero bytes past = refl
    counts_are test tests same (suc more) bytes past =
        let next : List Event = came_next lists letter s bytes past in
        let left : List ℕ = drop (length_of bytes) bytes in
        let here = same past (message_of lists letter bytes) in
        let rest = ap (counted test more letter left) (comes_is bytes past) ∙ counts_are test tests same more left next in
        rw (here, rest) refl
