-- The highest-numbered update among messages is what its name says.
use Rattle.std.specs.Prelude.{◌≡◌, refl, true, false, ltb}
use Rattle.std.proofs.Common.{sym, ap, ◌∙◌, true≢false, ⊎_elim, arith, ltb-true, ltb-false}
use mathlib.Core.List.Memᴰ
use mathlib.Core.List.{List, [], ◌∷◌, Memᴰ}
use Rattle.std.proofs.Math.Option.{Option, none, some}
use Rattle.laws.specs.Choice.{either}
use Rattle.message.specs.Message.{Message}
use Rattle.slots.specs.Slots.{Slot}
use Rattle.history.specs.Kept.{newest}
use Rattle.history.specs.Updates.{is_of}
use Rattle.history.specs.Exactly.{FoundNewest}
use Rattle.history.specs.Machine.{higher, sequence_number}

module _ (slot : Slot) where
  none_among : FoundNewest slot [] none
  none_among m in_none = absurd (Memᴰ.not-nil in_none)

  module _ (m : Message) (ms : List Message) where
    -- one that is no update of the contract
    passes : is_of slot m.what ≡ false → (o : Option Message) → FoundNewest slot ms o → FoundNewest slot (m ∷ ms) o
    passes e none before = λ k among.
        ⊎_elim (λ (f : k ≡ m). ap (λ (j : Message). is_of slot j.what) f ∙ e) (λ (later : Memᴰ k ms). before k later) (Memᴰ.cases_cons among)
    passes e (some top) before =
        record {
          was_taken = Memᴰ.tail before.was_taken;
          of_slot = before.of_slot;
          highest = λ k among own.
              ⊎_elim (λ (f : k ≡ m). absurd (true≢false (sym own ∙ ap (λ (j : Message). is_of slot j.what) f ∙ e)))
              (λ (later : Memᴰ k ms). before.highest k later own)
              (Memᴰ.cases_cons among);
        }

    -- one that is
    counts : is_of slot m.what ≡ true → (o : Option Message) → FoundNewest slot ms o → FoundNewest slot (m ∷ ms) (higher m o)
    counts e none before =
        record {
          was_taken = Memᴰ.head refl;
          of_slot = e;
          highest = λ k among own.
              ⊎_elim (λ (f : k ≡ m). let same = ap sequence_number f in omega arith)
              (λ (later : Memᴰ k ms). absurd (true≢false (sym own ∙ before k later)))
              (Memᴰ.cases_cons among);
        }
    counts e (some top) before =
        ⊎_elim (λ (t : ltb (sequence_number top) (sequence_number m) ≡ true).
        let above = ltb-true (sequence_number top) (sequence_number m) t in
        rw t
        (record {
          was_taken = Memᴰ.head refl;
          of_slot = e;
          highest = λ k among own.
              ⊎_elim (λ (f : k ≡ m). let same = ap sequence_number f in omega arith)
              (λ (later : Memᴰ k ms). let under = before.highest k later own in omega arith)
              (Memᴰ.cases_cons among);
        }))
        (λ (t : ltb (sequence_number top) (sequence_number m) ≡ false).
        let above = ltb-false (sequence_number top) (sequence_number m) t in
        rw t
        (record {
          was_taken = Memᴰ.tail before.was_taken;
          of_slot = before.of_slot;
          highest = λ k among own.
              ⊎_elim (λ (f : k ≡ m). let same = ap sequence_number f in omega arith)
              (λ (later : Memᴰ k ms). before.highest k later own)
              (Memᴰ.cases_cons among);
        }))
        (either (ltb (sequence_number top) (sequence_number m)))

  pub newest_found : (taken : List Message) → FoundNewest slot taken (newest slot taken)
  newest_found [] = none_among
  newest_found (m ∷ ms) =
      let before = newest_found ms in
      ⊎_elim (λ (e : is_of slot m.what ≡ true). rw e (counts m ms e (newest slot ms) before))
      (λ (e : is_of slot m.what ≡ false). rw e (passes m ms e (newest slot ms) before))
      (either (is_of slot m.what))
