-- Demand 3, "A call is refused for gaps exactly when no earlier rule refuses it and over 64 runs would stand".
use Prim.Native.Nat.{ℕ, zero, suc, ◌+◌, ◌≤◌}
use Rattle.std.specs.Prelude.{◌≡◌, refl, Bool, true, false, cond, ◌&&◌, List, ◌∷◌, ◌↔◌, leb, ltb, eqb, length, drop, Ok, Err, Result}
use Rattle.std.proofs.Common.{sym, subst, ◌∙◌, arith, ltb-true}
use Rattle.std.proofs.Math.Path.{ap}
use Rattle.std.proofs.Math.Option.{Option, none, some}
use Rattle.std.proofs.Math.Logic.{inl, inr, ⊎_elim}
use Rattle.laws.specs.Rules.{first_broken, Hold, Broken}
use Rattle.laws.specs.RulesLaws.{unlike, none_hold, hold_none, broken_some}
use Rattle.laws.specs.Choice.{clash, either}
use Rattle.lookup.specs.Lookup.{segment_of}
use Rattle.pairs.specs.Lists.{Lists}
use Rattle.sequence.specs.Gaps.{Gaps, most, takes}
use Rattle.sequence.specs.Changes.{full, runs_after}
use Rattle.sequence.specs.Row.{gaps_of}
use Rattle.message.specs.declared.body.What.{What}
use Rattle.message.specs.declared.body.What.TheVariants as what
use Rattle.head.specs.declared.head.Fault.{Fault}
use Rattle.head.specs.declared.head.Fault.TheVariants as fault
use Rattle.head.specs.Fields.{length_of}
use Rattle.message.specs.Good.{GoodMessage}
use Rattle.message.proofs.GoodLaws.{rules_exact, good_exact}
use Rattle.message.specs.Order.{message_rules}
use Rattle.message.proofs.OrderLaws.{fault_exact}
use Rattle.message.specs.Message.{Message}
use Rattle.message.specs.Reads.{message_of}
use Rattle.message.specs.Numbers.{verdict_of}
use Rattle.state.specs.declared.refusal.Refusal.{Refusal}
use Rattle.state.specs.declared.refusal.Refusal.TheVariants.{Size, Packed, Flag, Count, Gaps as GapsOver}
use Rattle.turns.specs.ActsLaws.{acts_as_lem}
use Rattle.turns.specs.Turns.{Box, Acted, acted, refused, number_acts, message_acts, messages_act}
use Rattle.batch.specs.Batch.{batch_rules, batch_letter, flag_of, size_of, count_of, batch_data}
use Rattle.batch.specs.Acts.{batch_acts, box_of}
use Rattle.state.specs.Memory.{Lent}
use Rattle.state.specs.State.{state_rules}
use Rattle.batch.specs.BatchLaws.{front_refuses, messages_decide}
use Rattle.batch.specs.GoodLaws.{front_exact}
use Rattle.batch.specs.ScratchLaws.{never_good}
use Rattle.state.specs.StateLaws.{state_exact}
use Rattle.turns.specs.ComparedLaws.{not_both}
use Rattle.turns.proofs.MessagesLaws.{messages_next, messages_refused}
use Rattle.state.specs.Refusals.{of_fault}
use Rattle.starting.specs.Start.{start_of}
use Rattle.history.specs.Past.{Event, came, wrote_off_in, taken_of, runs_standing}
use Rattle.history.proofs.SegmentLaws.{takes_new, after_standing, fits_standing}
use Rattle.history.proofs.DoesLaws.{stored_in, Does, is_bad, beats, passes, updates, does}
use Rattle.history.specs.Turn.{BoxFits}
use Rattle.history.proofs.TurnLaws.{taken_here, message_turns}
use Rattle.history.specs.Exactly.{came_next, OverAt, OverInBatch}
use Rattle.history.specs.Histories.{Reached}
use Rattle.history.proofs.HoldsLaws.{reached_holds, box_before}
use Rattle.history.specs.Machine.{is_numbered, comes_new, standing_by, sequence_number, TooMany}

-- ---- which refusals are 14

fault_not_gaps : (f : Fault) (k i : ℕ) → of_fault f k ≡ GapsOver i → ⊥
fault_not_gaps fault.Frame k i e = clash (cc)
fault_not_gaps fault.Code k i e = clash (cc)
fault_not_gaps fault.Trailer k i e = clash (cc)
fault_not_gaps fault.Length k i e = clash (cc)
fault_not_gaps fault.Checksum k i e = clash (cc)
fault_not_gaps fault.Numbering k i e = clash (cc)
fault_not_gaps (fault.Field row) k i e = clash (cc)
fault_not_gaps (fault.Range row) k i e = clash (cc)
fault_not_gaps fault.Contract k i e = clash (cc)

pub same_refusal : {a b : Refusal} → refused a ≡ refused b → a ≡ b
same_refusal e = cc

same_place : {k i : ℕ} → GapsOver k ≡ GapsOver i → k ≡ i
same_place e = cc

-- nor is what stands behind the last message
end_not_gaps : (box : Box) (i : ℕ) (t : Bool) → cond t (acted box) (refused Count) ≡ refused (GapsOver i) → ⊥
end_not_gaps box i true e = not_both (sym e)
end_not_gaps box i false e = let other : Count ≡ GapsOver i = same_refusal e in clash (cc)

-- a number is refused where it would be taken and over 64 runs would stand
number_fell : (box : Box) (k number : ℕ) (changed : List ℕ → List ℕ) (refusal : Refusal) → number_acts box k number changed ≡ refused refusal
    → (takes (gaps_of box.row) number ≡ true) × (full (gaps_of box.row) number ≡ true) × (GapsOver k ≡ refusal)
number_fell box k number changed refusal e =
    ⊎_elim (λ (t : takes (gaps_of box.row) number ≡ true).
    ⊎_elim (λ (f : full (gaps_of box.row) number ≡ true). (t, f, same_refusal (rw (t, f) at e)))
    (λ (f : full (gaps_of box.row) number ≡ false). absurd (not_both (sym (rw (t, f) at e))))
    (either (full (gaps_of box.row) number)))
    (λ (t : takes (gaps_of box.row) number ≡ false). absurd (not_both (sym (rw t at e))))
    (either (takes (gaps_of box.row) number))

-- ---- one message

-- a good message breaks no rule
pub good_unbroken : (lists : Lists) (letter : ℕ) (bytes : List ℕ) → GoodMessage lists letter bytes → (fault : Fault) → Broken (message_rules lists letter bytes) fault → ⊥
good_unbroken lists letter bytes good fault b =
    unlike (sym (broken_some (message_rules lists letter bytes) fault b) ∙ hold_none (message_rules lists letter bytes) ((rules_exact lists letter bytes).1 good))

module _ (lists : Lists) (starts : List ℕ) (letter s : ℕ) (listed : segment_of lists.contracts letter ≡ some s) where
  abbrev start : ℕ
  start = start_of starts s

  abbrev standing : List Event → ℕ
  standing past = runs_standing s start past

  too_many : {n : ℕ} → TooMany n → n ≤ most → ⊥
  too_many h l = omega arith

  pub box_standing : (past : List Event) (box : Box) → BoxFits lists starts s past box → standing past ≤ most
  box_standing past box f =
      subst (λ (n : ℕ). n ≤ most) (fits_standing start (taken_of s start past) (wrote_off_in s past) (gaps_of box.row) f.gaps_fit) f.gaps_fit.sound.few

  module _ (past : List Event) (box : Box) (f : BoxFits lists starts s past box) (k : ℕ) (bytes : List ℕ) where
    abbrev m : Message
    m = message_of lists letter bytes

    abbrev g : Gaps
    g = gaps_of box.row

    abbrev later : List Event
    later = came s m ∷ past

    -- a number that is refused
    numbered_over : is_numbered m.what ≡ true → takes g (sequence_number m) ≡ true → full g (sequence_number m) ≡ true → TooMany (standing later)
    numbered_over numbered t over =
        let earlier : List Message = taken_of s start past in
        let new : comes_new start earlier (wrote_off_in s past) m ≡ true = rw numbered (sym (takes_new start earlier (wrote_off_in s past) g f.gaps_fit (sequence_number m)) ∙ t) in
        let now : taken_of s start later ≡ m ∷ earlier = taken_here s start m past ∙ ap (λ (t : Bool). cond t (m ∷ earlier) earlier) new in
        let count : standing later ≡ length (runs_after g (sequence_number m)) =
        ap (λ (taken : List Message). standing_by start taken (wrote_off_in s past)) now ∙ sym (after_standing start earlier (wrote_off_in s past) g f.gaps_fit m)
        in
        subst TooMany (sym count) (ltb-true most (length (runs_after g (sequence_number m))) over)

    -- what becomes of message k: it is bad, or it acts and at most 64 runs stand, or over 64 would
    pub data Comes : Type 0 where
      bad : (fault : Fault) → message_acts lists letter box k bytes ≡ refused (of_fault fault k) → Broken (message_rules lists letter bytes) fault → Comes
      goes : (box' : Box) → message_acts lists letter box k bytes ≡ acted box' → GoodMessage lists letter bytes → BoxFits lists starts s later box' → Comes
      over : message_acts lists letter box k bytes ≡ refused (GapsOver k) → GoodMessage lists letter bytes → TooMany (standing later) → Comes

    numbered_comes : (is_numbered m.what ≡ true) × (verdict_of m.what ≡ Ok tt) → (changed : List ℕ → List ℕ)
        → message_acts lists letter box k bytes ≡ number_acts box k (sequence_number m) changed → Comes
    numbered_comes numbered changed is = go (message_acts lists letter box k bytes) refl
      where
        is_good : GoodMessage lists letter bytes
        is_good = (good_exact lists letter bytes).0 numbered.1

        go : (a : Acted) → message_acts lists letter box k bytes ≡ a → Comes
        go (acted box') h = goes box' h is_good (message_turns lists starts letter s listed past box f k bytes box' h).fits
        go (refused refusal) h =
            let fell = number_fell box k (sequence_number m) changed refusal (sym is ∙ h) in
            over (h ∙ ap refused (sym fell.2)) is_good (numbered_over numbered.0 fell.0 fell.1)

    pub comes : Comes
    comes = go (does lists letter s bytes listed)
      where
        go : Does lists letter s bytes → Comes
        go (is_bad fault e) =
            bad fault (acts_as_lem lists letter bytes m refl e box k) ((fault_exact lists letter bytes fault).0 e)
        go (beats e) =
            let h = acts_as_lem lists letter bytes m refl e box k in
            goes _ h ((good_exact lists letter bytes).0 (ap verdict_of e)) (message_turns lists starts letter s listed past box f k bytes _ h).fits
        go (passes numbered none_of is) = numbered_comes numbered (λ records. records) (is box k)
        go (updates slot numbered of_slot is u) = numbered_comes numbered (stored_in lists slot m) (is box k)

  -- ---- messages in turn

  pub over_exact : (count k : ℕ) (past : List Event) (box : Box) (bytes : List ℕ) (i : ℕ) → BoxFits lists starts s past box
      → messages_act count lists letter k box bytes ≡ refused (GapsOver i) ↔ OverAt count lists letter s start past k bytes i
  unfolding messages_act
  over_exact zero k past box bytes i f = (end_not_gaps box i (eqb (length bytes) 0), (λ w. absurd w))
  over_exact (suc more) k past box bytes i f =
      go (comes past box f k bytes) (λ box' fit. over_exact more (suc k) (came_next lists letter s bytes past) box' (drop (length_of bytes) bytes) i fit)
    where
      go : Comes past box f k bytes
          → ((box' : Box) → BoxFits lists starts s (came_next lists letter s bytes past) box'
          → messages_act more lists letter (suc k) box' (drop (length_of bytes) bytes) ≡ refused (GapsOver i) ↔ OverAt more lists letter s start (came_next lists letter s bytes past) (suc k) (drop (length_of bytes) bytes) i)
          → messages_act (suc more) lists letter k box bytes ≡ refused (GapsOver i) ↔ OverAt (suc more) lists letter s start past k bytes i
      go (bad fault acts broken) rest = (
        (λ e. absurd (fault_not_gaps fault k i (same_refusal (sym (messages_refused lists letter more k box bytes (of_fault fault k) acts) ∙ e)))),
        (λ w. absurd (good_unbroken lists letter bytes w.0 fault broken)),
      )
      go (goes box' acts good fit) rest =
          let few = box_standing (came_next lists letter s bytes past) box' fit in
          let next = messages_next lists letter more k box bytes box' acts in (
            (λ e. (good, inr (few, (rest box' fit).0 (sym next ∙ e)))),
            (λ w.
                ⊎_elim (λ (o : (i ≡ k) × TooMany (standing (came_next lists letter s bytes past))). absurd (too_many o.1 few))
                (λ (o : (standing (came_next lists letter s bytes past) ≤ most) × OverAt more lists letter s start (came_next lists letter s bytes past) (suc k) (drop (length_of bytes) bytes) i).
                next ∙ (rest box' fit).1 o.1)
                w.1),
          )
      go (over acts good many) rest =
          let stops = messages_refused lists letter more k box bytes (GapsOver k) acts in (
            (λ e. (good, inl (sym (same_place (same_refusal (sym stops ∙ e))), many))),
            (λ w.
                ⊎_elim (λ (o : (i ≡ k) × TooMany (standing (came_next lists letter s bytes past))). stops ∙ ap (λ (n : ℕ). refused (GapsOver n)) (sym o.0))
                (λ (o : (standing (came_next lists letter s bytes past) ≤ most) × OverAt more lists letter s start (came_next lists letter s bytes past) (suc k) (drop (length_of bytes) bytes) i).
                absurd (too_many many o.0))
                w.1),
          )

-- ---- a whole batch

-- no rule before the messages refuses 14
front_not_gaps : (batch : List ℕ) (i : ℕ) → first_broken (batch_rules batch) ≡ some (GapsOver i) → ⊥
front_not_gaps batch i e =
    go (leb 5 (length batch)) (ltb 0 (flag_of batch)) (leb (flag_of batch) 1) (leb (size_of batch) 32767 && eqb (length batch) (size_of batch + 5)) (ltb 0 (count_of batch)) e
  where
    go : (p q r t u : Bool)
        → cond p (cond q (cond r (cond t (cond u none (some Count)) (some Size)) (some Flag)) (some Packed)) (some Size) ≡ some (GapsOver i)
        → ⊥
    go false q r t u e = clash (cc)
    go true false r t u e = clash (cc)
    go true true false t u e = clash (cc)
    go true true true false u e = clash (cc)
    go true true true true false e = clash (cc)
    go true true true true true e = clash (cc)

-- where no segment has the letter the first message is bad
unlisted_not_gaps : (lists : Lists) (letter : ℕ) → segment_of lists.contracts letter ≡ none → (count : ℕ) (box : Box) (bytes : List ℕ) (i : ℕ) → messages_act count lists letter 0 box bytes ≡ refused (GapsOver i) → ⊥
unfolding messages_act
unlisted_not_gaps lists letter u zero box bytes i e = end_not_gaps box i (eqb (length bytes) 0) e
unlisted_not_gaps lists letter u (suc more) box bytes i e = go (message_of lists letter bytes).what refl
  where
    go : (w : Result What Fault) → (message_of lists letter bytes).what ≡ w → ⊥
    go (Err fault) f =
        fault_not_gaps fault 0 i
        (same_refusal
        (sym (messages_refused lists letter more 0 box bytes (of_fault fault 0) (acts_as_lem lists letter bytes (message_of lists letter bytes) refl f box 0)) ∙ e))
    go (Ok _) f = never_good lists letter u bytes (ap verdict_of f)

module _ {starts : List ℕ} {lent : Lent} {past : List Event} (r : Reached starts lent past) (batch : List ℕ) (i : ℕ) where
  abbrev letter : ℕ
  letter = batch_letter batch

  abbrev lists : Lists
  lists = lent.lists

  state : Hold (state_rules lent)
  state = (state_exact lent).1 (reached_holds r).state

  pub acts_over : batch_acts lent batch ≡ refused (GapsOver i) ↔ OverInBatch lists starts past batch i
  acts_over = (is_over, over_is)
    where
      is_over : batch_acts lent batch ≡ refused (GapsOver i) → OverInBatch lists starts past batch i
      is_over e = front (first_broken (batch_rules batch)) refl
        where
          listed : Hold (batch_rules batch) → (o : Option ℕ) → segment_of lists.contracts letter ≡ o → OverInBatch lists starts past batch i
          listed h none u =
              absurd (unlisted_not_gaps lists letter u (count_of batch) (box_of lent letter) (batch_data batch) i (sym (messages_decide lent batch state h) ∙ e))
          listed h (some s) l =
              record {
                front = (front_exact batch).0 h;
                segment = s;
                listed = l;
                over =
                    (over_exact lists starts letter s l (count_of batch) 0 past (box_of lent letter) (batch_data batch) i (box_before (reached_holds r) batch s l)).0
                    (sym (messages_decide lent batch state h) ∙ e);
              }

          front : (o : Option Refusal) → first_broken (batch_rules batch) ≡ o → OverInBatch lists starts past batch i
          front none h = listed (none_hold (batch_rules batch) h) (segment_of lists.contracts letter) refl
          front (some refusal) h =
              absurd (front_not_gaps batch i (h ∙ ap some (same_refusal (sym (front_refuses lent batch state refusal h) ∙ e))))

      over_is : OverInBatch lists starts past batch i → batch_acts lent batch ≡ refused (GapsOver i)
      over_is w =
          messages_decide lent batch state ((front_exact batch).1 w.front)
          ∙ (over_exact lists starts letter w.segment w.listed (count_of batch) 0 past (box_of lent letter) (batch_data batch) i
          (box_before (reached_holds r) batch w.segment w.listed)).1 w.over
