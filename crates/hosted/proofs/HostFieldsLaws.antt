-- After every history a host is told what the fields of the newest message taken say.
use Rattle.std.specs.Prelude.{ℕ, ◌≡◌, true, List, ◌++◌, length, drop}
use Rattle.std.proofs.Common.{sym, ap, subst, ◌∙◌}
use Rattle.pairs.specs.Lists.{Lists}
use Rattle.message.specs.Message.{Message}
use Rattle.message.specs.Reads.{message_of}
use Rattle.state.specs.Memory.{Lent}
use Rattle.slots.specs.Slots.{Slot, SlotListed}
use Rattle.forms.specs.Forms.{session_of}
use Rattle.batch.specs.Batch.{batch_letter}
use Rattle.values.specs.Values.{most}
use Rattle.history.specs.Past.{Event, taken_for}
use Rattle.reading.specs.Shown.{shown}
use Rattle.history.specs.Updates.{item_in, letter_in, key_in, segment_in, level_in, is_of}
use Rattle.told.specs.Shown.{values_in_front, value_count}
use Rattle.hosted.specs.HostItems.{values_for, HostReadItem}
use Rattle.hosted.specs.HostCalls.{HostReached}
use Rattle.hosted.specs.HostDemands as demands
use Rattle.hosted.specs.HostDemands.{TellsNewest}
use Rattle.hosted.proofs.HostDemandsLaws.{after_host_calls}
use Rattle.hosted.proofs.HostHistoriesLaws.{host_reached}
use Rattle.history.proofs.SentLaws.{taken_from, own_slot}
use Rattle.history.specs.Histories.{batches_of}
use Rattle.hosted.specs.HostValues.{ValuesSay, TellsFields, no_record, a_record}
use Rattle.hosted.proofs.HostValuesLaws.{host_values_say}
use Rattle.history.specs.Machine.{sequence_number, form_sent}

pub host_tells_fields : {starts : List ℕ} {lent : Lent} {past : List Event} (reached : HostReached starts lent past) (slot : Slot) → SlotListed lent.lists slot
    → (values : List ℕ) → length values ≡ most → (returned : ℕ) (values' answer' : List ℕ)
    → HostReadItem (item_in slot) lent (letter_in lent.lists slot) (key_in lent.lists slot) (level_in slot) values returned values' answer'
    → TellsFields lent.lists (batches_of (host_reached reached)) slot (taken_for starts slot past) values returned values' answer'
host_tells_fields {starts} {lent} {past} reached kept_at there values long returned values' answer' p = go ((after_host_calls reached).reads kept_at there values long returned values' answer' p)
  where
    go : TellsNewest kept_at (taken_for starts kept_at past) values returned values' answer' → TellsFields lent.lists (batches_of (host_reached reached)) kept_at (taken_for starts kept_at past) values returned values' answer'
    go (demands.no_record none_taken gives e) = no_record none_taken gives e
    go (demands.a_record m newest gives e) =
        let lists : Lists = lent.lists in
        let source = taken_from (host_reached reached) (segment_in kept_at) m newest.was_taken in
        let letter : ℕ = batch_letter source.batch in
        let bytes : List ℕ = source.bytes in
        let behind : List ℕ = drop (value_count (item_in kept_at) (level_in kept_at)) values in
        let of_message : Message → List ℕ = λ x. (values_in_front (item_in kept_at) (sequence_number x) (session_of (form_sent x)) ++ values_for (item_in kept_at) (level_in kept_at) (shown (item_in kept_at) (form_sent x) x.cells)) ++ behind in
        let told : values' ≡ of_message (message_of lists letter bytes) = e ∙ ap of_message source.is in
        let of_slot : is_of kept_at (message_of lists letter bytes).what ≡ true = sym (ap (λ (x : Message). is_of kept_at x.what) source.is) ∙ newest.of_slot in
        a_record m newest source gives
        (subst (ValuesSay bytes (item_in kept_at) (level_in kept_at)) (sym told)
        (host_values_say lists letter (segment_in kept_at) source.listed bytes kept_at (own_slot kept_at (message_of lists letter bytes).what of_slot) behind))
