-- Laws of a batch.
use Rattle.std.specs.Prelude.{ℕ, ◌≡◌, refl, List, [], ◌∷◌, ◌++◌}
use Rattle.std.proofs.Math.Path.{ap}
use Rattle.std.proofs.Common.{sym, ◌∙◌, arith, ltb-false}
use Rattle.std.proofs.Math.Option.{Option, none, some}
use Rattle.laws.specs.Rules.{first_broken, Hold}
use Rattle.laws.specs.RulesLaws.{front_holds, front_broken, hold_none, none_hold, each_append, of_broken}
use Rattle.state.specs.declared.answers.Judged.TheVariants.{Accepted, Refused}
use Rattle.state.specs.declared.refusal.Refusal.{Refusal}
use Rattle.state.specs.Answers.{judged_numbers}
use Rattle.state.specs.Refusals.{refusal_numbers}
use Rattle.state.specs.Memory.{Lent}
use Rattle.turns.specs.Compared.{reached, counted_numbers}
use Rattle.turns.specs.Turns.{Box, Acted, acted, refused, messages_act}
use Rattle.batch.specs.Batch.{batch_rules, batch_letter, count_of, batch_data}
use Rattle.batch.specs.Acts.{unless_broken, batch_acts, batch_numbers, box_of}
use Rattle.batch.specs.Good.{GoodFront}
use Rattle.state.specs.GoodState.{GoodState}
use Rattle.batch.specs.GoodLaws.{front_exact}
use Rattle.state.specs.StateLaws.{state_exact}
use Rattle.state.specs.State.{state_rules}
use Rattle.turns.specs.ComparedLaws.{not_both}
use Rattle.state.specs.RefusalsLaws.{never_behind}

module _ (lent : Lent) (batch : List ℕ) where
  -- what its messages do
  abbrev pub in_turn : Acted
  in_turn = messages_act (count_of batch) lent.lists (batch_letter batch) 0 (box_of lent (batch_letter batch)) (batch_data batch)

  -- a broken rule before the messages refuses the batch
  pub rule_refuses : (refusal : Refusal) → first_broken (state_rules lent ++ batch_rules batch) ≡ some refusal → batch_acts lent batch ≡ refused refusal
  unfolding batch_acts
  rule_refuses refusal e = ap (λ (o : Option Refusal). unless_broken o in_turn) e

  pub state_refuses : (refusal : Refusal) → first_broken (state_rules lent) ≡ some refusal → batch_acts lent batch ≡ refused refusal
  state_refuses refusal e = rule_refuses refusal (front_broken (state_rules lent) (batch_rules batch) refusal e)

  module _ (state : Hold (state_rules lent)) where
    pub front_refuses : (refusal : Refusal) → first_broken (batch_rules batch) ≡ some refusal → batch_acts lent batch ≡ refused refusal
    front_refuses refusal e = rule_refuses refusal (front_holds (state_rules lent) (batch_rules batch) state ∙ e)

    -- else its messages decide
    pub messages_decide : Hold (batch_rules batch)
        → batch_acts lent batch ≡ in_turn
    unfolding batch_acts
    messages_decide h =
        ap (λ (o : Option Refusal). unless_broken o in_turn) (front_holds (state_rules lent) (batch_rules batch) state ∙ hold_none (batch_rules batch) h)

    -- what is accepted is good, and so are its messages
    module _ (box : Box) (accepted : batch_acts lent batch ≡ acted box) where
      front_good : Hold (batch_rules batch)
      front_good = go (first_broken (batch_rules batch)) refl
        where
          go : (o : Option Refusal) → first_broken (batch_rules batch) ≡ o → Hold (batch_rules batch)
          go none e = none_hold (batch_rules batch) e
          go (some refusal) e = absurd (not_both (sym (front_refuses refusal e) ∙ accepted))

  module _ (box : Box) (accepted : batch_acts lent batch ≡ acted box) where
    state_holds : Hold (state_rules lent)
    state_holds = go (first_broken (state_rules lent)) refl
      where
        go : (o : Option Refusal) → first_broken (state_rules lent) ≡ o → Hold (state_rules lent)
        go none e = none_hold (state_rules lent) e
        go (some refusal) e = absurd (not_both (sym (state_refuses refusal e) ∙ accepted))

    pub good_state : GoodState lent
    good_state = (state_exact lent).0 state_holds

    pub good_front : GoodFront batch
    good_front = (front_exact batch).0 (front_good state_holds box accepted)

    pub messages_accepted : in_turn ≡ acted box
    messages_accepted = sym (messages_decide state_holds (front_good state_holds box accepted)) ∙ accepted

  -- M-102: no message has come to its lookup where a rule before the messages is broken; 4 is one of them where there are no messages
  pub front_reached : (refusal : Refusal) → first_broken (state_rules lent ++ batch_rules batch) ≡ some refusal → reached (count_of batch) refusal ≡ 0
  front_reached =
      of_broken (λ refusal. reached (count_of batch) refusal ≡ 0) (state_rules lent ++ batch_rules batch)
      (each_append (λ refusal. reached (count_of batch) refusal ≡ 0) (state_rules lent) (batch_rules batch) ((λ e. refl), ((λ e. refl), ((λ e. refl), ((λ e. refl), ((λ e. refl), tt))))) ((λ e. refl), ((λ e. refl), ((λ e. refl), ((λ e. refl), ((λ e. omega (arith, ltb-false 0 (count_of batch) e)), tt))))))

  pub front_numbers : (refusal : Refusal) → first_broken (state_rules lent ++ batch_rules batch) ≡ some refusal → batch_numbers lent batch ≡ refusal_numbers refusal ++ (0 ∷ [])
  front_numbers refusal e =
      let r = rule_refuses refusal e in
      let n = front_reached refusal e in
      rw (r, n)

-- an answer's numbers tell whether the batch was accepted
pub accepted_box : (a : Acted) (keys : ℕ) {taken old heartbeats compared : ℕ} → judged_numbers (Accepted taken old heartbeats compared) ≡ counted_numbers a keys → (box : Box) × (a ≡ acted box)
accepted_box (acted box) keys e = (box, refl)
accepted_box (refused refusal) keys e = absurd (never_behind refusal _ _ (sym e))

pub refused_is : (a : Acted) (keys : ℕ) (refusal : Refusal) (compared : ℕ) → judged_numbers (Refused refusal compared) ≡ counted_numbers a keys → (other : Refusal) × (a ≡ refused other)
refused_is (acted box) keys refusal compared e = absurd (never_behind refusal _ _ e)
refused_is (refused other) keys refusal compared e = (other, refl)
