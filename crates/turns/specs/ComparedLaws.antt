-- A message that passes has come to its lookup, if it has one; of one that is refused its refusal tells whether it has.
use Rattle.std.specs.Prelude.{ℕ, ◌≤◌, ◌≡◌, refl, Bool, true, false, cond, List, Ok, Err, Result}
use Rattle.std.proofs.Common.{sym, arith}
use Rattle.pairs.specs.Lists.{Lists, Headers}
use Rattle.sequence.specs.Gaps.{takes}
use Rattle.sequence.specs.Changes.{full}
use Rattle.sequence.specs.Row.{gaps_of}
use Rattle.message.specs.declared.body.What.{What}
use Rattle.head.specs.declared.head.Fault.{Fault}
use Rattle.message.specs.Compared.{message_compared, key_sought, so_far}
use Rattle.message.specs.ComparedLaws.{message_most}
use Rattle.state.specs.declared.refusal.Refusal.{Refusal}
use Rattle.state.specs.declared.refusal.Refusal.TheVariants.{Gaps}
use Rattle.turns.specs.Turns.{Box, acted, refused, number_acts, what_acts}

pub not_both : {refusal : Refusal} {box : Box} → refused refusal ≡ acted box → ⊥
not_both e = let z : ◌≡◌ {A = ℕ} 0 1 = cc in omega arith

-- a number is refused by 14 alone
pub number_refused : (box : Box) (i number : ℕ) (changed : List ℕ → List ℕ) {refusal : Refusal} → number_acts box i number changed ≡ refused refusal → Gaps i ≡ refusal
number_refused box i number changed {refusal} e = go (takes (gaps_of box.row) number) (full (gaps_of box.row) number) refl refl
  where
    go : (t f : Bool) → takes (gaps_of box.row) number ≡ t → full (gaps_of box.row) number ≡ f → Gaps i ≡ refusal
    go true true t f = let same : refused (Gaps i) ≡ refused refusal = rw (t, f) at e in cc
    go true false t f = absurd (not_both (sym (rw (t, f) at e)))
    go false f t g = absurd (not_both (sym (rw t at e)))

module _ (lists : Lists) (letter : ℕ) (box : Box) (i keys : ℕ) (cells : List ℕ) where
  pub reached_passed : (w : Result What Fault) {box' : Box} → what_acts lists letter box i w cells ≡ acted box' → so_far w keys ≡ keys
  reached_passed (Ok _) e = refl
  reached_passed (Err f) e = absurd (not_both e)

-- M-102: at most 13 keys a message, whatever becomes of it
so_far_few : (w : Result What Fault) (keys : ℕ) → so_far w keys ≤ keys
so_far_few (Ok _) keys = omega arith
so_far_few (Err f) keys = go (key_sought f)
  where
    go : (t : Bool) → cond t keys 0 ≤ keys
    go true = omega arith
    go false = omega arith

pub step_most : (lists : Lists) → Headers lists → (letter : ℕ) (bytes : List ℕ) (w : Result What Fault) {compared : ℕ} → compared ≡ so_far w (message_compared lists letter bytes) → compared ≤ 13
step_most lists headers letter bytes w e = omega (arith, e, so_far_few w (message_compared lists letter bytes), message_most lists headers letter bytes)
