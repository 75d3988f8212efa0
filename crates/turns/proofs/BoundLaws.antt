-- M-102, the worst case: the lookups of messages compare at most 13 keys for each 204 bytes.
use Rattle.std.specs.Prelude.{ℕ, zero, suc, ◌+◌, ◌*◌, ◌≤◌, ◌<◌, ◌≡◌, refl, Bool, true, false, cond, List, length, drop, Ok, Err, Result}
use Rattle.std.proofs.Common.{ap, sym, ◌∙◌, ⊎_elim, arith, length-drop}
use Rattle.laws.specs.Order.{order}
use Rattle.forms.specs.Forms.{subject_of}
use Rattle.lookup.specs.Lookup.{segment_of}
use Rattle.pairs.specs.Lists.{Lists, Headers}
use Rattle.head.specs.Fields.{length_of}
use Rattle.message.specs.declared.body.What.{What}
use Rattle.message.specs.declared.body.What.TheVariants as what
use Rattle.head.specs.declared.head.Fault.{Fault}
use Rattle.message.proofs.CallerLaws.{all_there}
use Rattle.message.specs.Compared.{key_sought}
use Rattle.message.specs.ComparedLaws.{sought_inside, message_long}
use Rattle.message.specs.MessageLaws.{length_is}
use Rattle.message.specs.Numbers.{verdict_of}
use Rattle.message.specs.Reads.{message_of}
use Rattle.state.specs.declared.refusal.Refusal.{Refusal}
use Rattle.state.specs.Refusals.{of_fault}
use Rattle.turns.specs.Turns.{Box, Acted, acted, refused, updated, what_acts, message_acts, messages_act}
use Rattle.turns.specs.ActsLaws.{acts_as_lem}
use Rattle.turns.specs.Compared.{compared_in, reached, reached_by}
use Rattle.turns.specs.ComparedLaws.{not_both, number_refused}
use Rattle.turns.proofs.ReachedLaws.{fault_reached}
use Rattle.turns.proofs.MessagesLaws.{messages_next, messages_refused, messages_end, messages_over}

module _ (lists : Lists) (headers : Headers lists) (letter : ℕ) where
  -- ---- one message

  module _ (bytes : List ℕ) where
    inside : verdict_of (message_of lists letter bytes).what ≡ Ok tt → length_of bytes ≤ length bytes
    inside good = omega (arith, all_there lists letter bytes good, length_is lists letter bytes)

    one_fits : (k : ℕ) → k ≡ 1 → length_of bytes ≤ length bytes → 204 * compared_in k lists letter bytes ≤ 13 * length bytes
    one_fits k e h = rw e (omega (arith, message_long lists headers letter bytes))

    none_fits : (k : ℕ) → k ≡ 0 → 204 * compared_in k lists letter bytes ≤ 13 * length bytes
    none_fits k e = rw e (omega arith)

    -- one that is refused, with its own lookup or without
    module _ (box : Box) (i count k : ℕ) (cells : List ℕ) (r : Refusal) (stopped : reached count r ≡ i + k) where
      refused_fits : (w : Result What Fault) → (message_of lists letter bytes).what ≡ w → what_acts lists letter box i w cells ≡ refused r → 204 * compared_in k lists letter bytes ≤ 13 * length bytes
      refused_fits (Ok what.Heartbeat) e f = absurd (not_both (sym f))
      refused_fits (Ok (what.PassedOver number)) e f =
          let n = ap (reached count) (number_refused box i number (λ records. records) f) ∙ stopped in
          one_fits k (omega arith) (inside (ap verdict_of e))
      refused_fits (Ok (what.Update number form place)) e f =
          let n = ap (reached count) (number_refused box i number (updated lists (segment_of lists.contracts letter) place (subject_of form) form number cells) f) ∙ stopped in
          one_fits k (omega arith) (inside (ap verdict_of e))
      refused_fits (Err fault) e f =
          let same : of_fault fault i ≡ r = cc in
          let n = ap (reached count) same ∙ stopped in
          ⊎_elim
          (λ (h : (reached count (of_fault fault i) ≡ i) × (◌≡◌ {A = ℕ} (cond (key_sought fault) 1 0) 0)). none_fits k (omega arith))
          (λ (h : (reached count (of_fault fault i) ≡ i + 1) × (◌≡◌ {A = ℕ} (cond (key_sought fault) 1 0) 1)). one_fits k (omega arith) (sought_inside lists letter bytes fault e (sought (key_sought fault) h.1)))
          (fault_reached count i 1 fault)
        where
          sought : (t : Bool) → ◌≡◌ {A = ℕ} (cond t 1 0) 1 → t ≡ true
          sought true h = refl
          sought false h = absurd (omega arith)

  -- what has acted has no fault
  passes : (w : Result What Fault) (box : Box) (i : ℕ) (cells : List ℕ) {box' : Box} → what_acts lists letter box i w cells ≡ acted box' → verdict_of w ≡ Ok tt
  passes (Ok _) box i cells e = refl
  passes (Err fault) box i cells e = absurd (not_both e)

  -- ---- messages in turn

  pub all_fits : (count i : ℕ) (box : Box) (bytes : List ℕ) {done : Acted} → messages_act count lists letter i box bytes ≡ done
      → (k : ℕ) → reached_by (i + count) done ≡ i + k → 204 * compared_in k lists letter bytes ≤ 13 * length bytes
  all_fits zero i box bytes {done} e k n =
      let ended : reached_by (i + 0) done ≡ i + 0 =
      ⊎_elim (λ (h : length bytes ≤ 0). ap (reached_by (i + 0)) (sym e ∙ messages_end lists letter i box bytes (omega arith)))
      (λ (h : 0 < length bytes). ap (reached_by (i + 0)) (sym e ∙ messages_over lists letter i box bytes h)) (order (length bytes) 0) in
      none_fits bytes k (omega arith)
  all_fits (suc more) i box bytes {done} e k n =
      go (λ box' f j m. all_fits more (suc i) box' (drop (length_of bytes) bytes) f j m) (message_acts lists letter box i bytes) refl k n
    where
      go : ((box' : Box) → messages_act more lists letter (suc i) box' (drop (length_of bytes) bytes) ≡ done → (j : ℕ) → reached_by (suc i + more) done ≡ suc i + j
          → 204 * compared_in j lists letter (drop (length_of bytes) bytes) ≤ 13 * length (drop (length_of bytes) bytes))
          → (first : Acted) → message_acts lists letter box i bytes ≡ first → (k : ℕ) → reached_by (i + suc more) done ≡ i + k → 204 * compared_in k lists letter bytes ≤ 13 * length bytes
      go next (refused r) f k n =
          let done_is : done ≡ refused r = sym e ∙ messages_refused lists letter more i box bytes r f in
          refused_fits bytes box i (i + suc more) k (message_of lists letter bytes).cells r (sym (ap (reached_by (i + suc more)) done_is) ∙ n) (message_of lists letter bytes).what refl
          (sym (acts_as_lem lists letter bytes (message_of lists letter bytes) refl refl box i) ∙ f)
      go next (acted box') f zero n = none_fits bytes 0 refl
      go next (acted box') f (suc k) n =
          let there = inside bytes (passes (message_of lists letter bytes).what box i (message_of lists letter bytes).cells (sym (acts_as_lem lists letter bytes (message_of lists letter bytes) refl refl box i) ∙ f)) in
          let shift : suc i + more ≡ i + suc more = omega arith in
          let rest = next box' (sym (messages_next lists letter more i box bytes box' f) ∙ e) k (ap (λ (c : ℕ). reached_by c done) shift ∙ n ∙ omega arith) in
          omega (arith, message_long lists headers letter bytes, rest, length-drop (length_of bytes) bytes)
