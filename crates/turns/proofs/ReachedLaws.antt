-- Of the keys that its lookup compares a refused message has none, or all: its refusal tells which.
use Rattle.std.specs.Prelude.{ℕ, ◌+◌, ◌≡◌, refl, cond, List, ◌⊎◌, Ok, Err, Result}
use Rattle.std.proofs.Common.{ap, sym, inl, inr}
use Rattle.pairs.specs.Lists.{Lists}
use Rattle.lookup.specs.Lookup.{segment_of}
use Rattle.forms.specs.Forms.{subject_of}
use Rattle.head.specs.declared.head.Fault.TheVariants as fault
use Rattle.message.specs.declared.body.What.{What}
use Rattle.message.specs.declared.body.What.TheVariants as what
use Rattle.head.specs.declared.head.Fault.{Fault}
use Rattle.message.specs.Compared.{key_sought, so_far}
use Rattle.state.specs.declared.refusal.Refusal.{Refusal}
use Rattle.state.specs.Refusals.{of_fault}
use Rattle.turns.specs.Turns.{Box, refused, updated, what_acts}
use Rattle.turns.specs.Compared.{reached}
use Rattle.turns.specs.ComparedLaws.{not_both, number_refused}

-- of the keys that its lookup compares a message has none, or all, and its refusal tells which
abbrev Told : ℕ → ℕ → Refusal → ℕ → ℕ → Type 0
Told count i refusal keys done = ((reached count refusal ≡ i) × (done ≡ 0)) ⊎ ((reached count refusal ≡ i + 1) × (done ≡ keys))

pub fault_reached : (count i keys : ℕ) (f : Fault) → Told count i (of_fault f i) keys (cond (key_sought f) keys 0)
fault_reached count i keys fault.Frame = inl (refl, refl)
fault_reached count i keys fault.Code = inl (refl, refl)
fault_reached count i keys fault.Trailer = inl (refl, refl)
fault_reached count i keys fault.Length = inl (refl, refl)
fault_reached count i keys fault.Checksum = inl (refl, refl)
fault_reached count i keys fault.Numbering = inl (refl, refl)
fault_reached count i keys (fault.Field row) = inl (refl, refl)
fault_reached count i keys (fault.Range row) = inl (refl, refl)
fault_reached count i keys fault.Contract = inr (refl, refl)

module _ (lists : Lists) (letter : ℕ) (box : Box) (i keys : ℕ) (cells : List ℕ) where
  pub reached_refused : (w : Result What Fault) {refusal : Refusal} → what_acts lists letter box i w cells ≡ refused refusal → (count : ℕ) → Told count i refusal keys (so_far w keys)
  reached_refused (Ok what.Heartbeat) e count = absurd (not_both (sym e))
  reached_refused (Ok (what.PassedOver number)) e count = inr (ap (reached count) (sym (number_refused box i number (λ records. records) e)), refl)
  reached_refused (Ok (what.Update number form place)) e count =
      inr (ap (reached count) (sym (number_refused box i number (updated lists (segment_of lists.contracts letter) place (subject_of form) form number cells) e)), refl)
  reached_refused (Err f) {refusal} e count =
      let same : of_fault f i ≡ refusal = cc in
      rw (← same) (fault_reached count i keys f)
