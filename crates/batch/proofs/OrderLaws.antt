-- A batch is refused by the first broken rule in document 01's order, and accepted exactly when it is good.
use Prim.Native.Nat.{ℕ, zero, suc, ◌<◌}
use Rattle.std.specs.Prelude.{◌≡◌, Bool, ◌↔◌, List, [], ◌∷◌, ◌++◌, leb, eqb, length, drop, Ok, Err, Result}
use Rattle.std.proofs.Math.Path.{refl}
use Rattle.std.proofs.Common.{ap, sym, ◌∙◌, ⊎_elim, arith}
use Rattle.std.proofs.Math.Bool.{true, false, cond}
use Rattle.std.proofs.Math.Logic.Iff
use Rattle.std.proofs.Math.Option.{Option, none, some}
use Rattle.laws.specs.Rules.{Rule as RuleOf, first_broken, Hold, Broken}
use Rattle.laws.specs.RulesLaws.{none_hold, hold_none, some_broken, broken_some, front_holds, front_broken, hold_append, unlike}
use Rattle.laws.specs.Tests.{leb_is, eqb_is}
use Rattle.lookup.specs.Lookup.{segment_of}
use Rattle.lookup.specs.LookupLaws.{segment_has}
use Rattle.pairs.specs.Lists.{Lists, Headers}
use Rattle.sequence.specs.Gaps.{Gaps, most}
use Rattle.sequence.specs.Row.{gaps_of}
use Rattle.sequence.specs.RowLaid.{sound_gap_row}
use Rattle.message.specs.declared.body.What.{What}
use Rattle.message.specs.declared.body.What.TheVariants as what
use Rattle.head.specs.declared.head.Fault.{Fault}
use Rattle.head.specs.Faults.{Head}
use Rattle.message.proofs.GoodLaws.{rules_exact}
use Rattle.head.specs.Fields.{length_of}
use Rattle.message.specs.Reads.{message_of}
use Rattle.message.specs.Numbers.{verdict_of}
use Rattle.message.specs.Order.{message_rules}
use Rattle.message.proofs.OrderLaws.{message_first}
use Rattle.head.specs.Rules.{first_fault}
use Rattle.state.specs.declared.refusal.Refusal.{Refusal}
use Rattle.state.specs.declared.refusal.Refusal.TheVariants.{Count, Gaps as GapsOver}
use Rattle.turns.specs.ActsLaws.{acts_as_lem}
use Rattle.turns.specs.Turns.{Box, Acted, acted, refused, message_acts, messages_act}
use Rattle.batch.specs.Batch.{batch_rules, batch_letter, count_of, batch_data}
use Rattle.batch.specs.Acts.{unless_broken, batch_acts, box_of}
use Rattle.state.specs.Memory.{Lent, gap_row_of_letter, gap_row_in}
use Rattle.state.specs.State.{state_rules}
use Rattle.slots.specs.Slots.{records_wanted}
use Rattle.batch.specs.BatchLaws.{in_turn}
use Rattle.batch.specs.Good.{gaps_after, GoodMessages, GoodBatch}
use Rattle.batch.specs.GoodLaws.{front_exact}
use Rattle.state.specs.StateLaws.{state_exact}
use Rattle.turns.proofs.MessagesLaws.{messages_next, messages_refused}
use Rattle.batch.specs.Order.{as_rules, messages_rules, all_rules, refusal_of}
use Rattle.state.specs.Refusals.{Rule, of_fault}
use Rattle.batch.specs.ScratchLaws.{never_good}
use Rattle.batch.specs.StepLaws.{Went, Fell, good_goes}

-- ---- the rules of one message

abbrev as_option : ℕ → Head → Option Refusal
as_option i (Ok _) = none
as_option i (Err fault) = some (of_fault fault i)

as_first : (i : ℕ) (rules : List (RuleOf Fault)) → first_broken (as_rules i rules) ≡ as_option i (first_fault rules)
as_first i [] = refl
as_first i (rule ∷ rules) = go rule.holds refl (as_first i rules)
  where
    go : (t : Bool) → rule.holds ≡ t → first_broken (as_rules i rules) ≡ as_option i (first_fault rules)
        → first_broken (as_rules i (rule ∷ rules)) ≡ as_option i (first_fault (rule ∷ rules))
    go true f rest = rw f rest
    go false f rest = rw f

as_hold : (i : ℕ) (rules : List (RuleOf Fault)) → Hold (as_rules i rules) ↔ Hold rules
as_hold i [] = ((λ h. tt), (λ h. tt))
as_hold i (rule ∷ rules) =
    let rest = as_hold i rules in
    ((λ h. (h.0, rest.0 h.1)), (λ h. (h.0, rest.1 h.1)))

-- ---- the messages in turn

module _ (lists : Lists) (letter : ℕ) where
  module _ (more i : ℕ) (gaps : Gaps) (bytes : List ℕ) where
    abbrev own : List Rule
    own = as_rules i (message_rules lists letter bytes)

    abbrev behind : List Rule
    behind =
        record { holds = leb (length (gaps_after gaps bytes).runs) most; refusal = GapsOver i }
        ∷ messages_rules more lists letter (suc i) (gaps_after gaps bytes) (drop (length_of bytes) bytes)

    own_first : (w : Result What Fault) → (message_of lists letter bytes).what ≡ w → first_broken own ≡ as_option i (verdict_of w)
    own_first w e = as_first i (message_rules lists letter bytes) ∙ ap (as_option i) (sym (message_first lists letter bytes) ∙ ap verdict_of e)

    -- a bad message, whatever the gaps are
    bad_first : (box : Box) (fault : Fault) → (message_of lists letter bytes).what ≡ Err fault
        → refusal_of (messages_act (suc more) lists letter i box bytes) ≡ first_broken (own ++ behind)
    bad_first box fault e =
        ap refusal_of (messages_refused lists letter more i box bytes (of_fault fault i) (acts_as_lem lists letter bytes (message_of lists letter bytes) refl e box i))
        ∙ sym (front_broken own behind (of_fault fault i) (own_first (Err fault) e))

  pub messages_first : Headers lists → (count i : ℕ) (box : Box) (bytes : List ℕ) → sound_gap_row box.row ≡ true
      → refusal_of (messages_act count lists letter i box bytes) ≡ first_broken (messages_rules count lists letter i (gaps_of box.row) bytes)
  unfolding messages_act
  messages_first headers zero i box bytes s = go (eqb (length bytes) 0)
    where
      go : (t : Bool) → refusal_of (cond t (acted box) (refused Count)) ≡ cond t none (some Count)
      go true = refl
      go false = refl
  messages_first headers (suc more) i box bytes s =
      go (λ box' sound. messages_first headers more (suc i) box' (drop (length_of bytes) bytes) sound) (message_of lists letter bytes).what refl
    where
      Behind : Type 0
      Behind =
          (box' : Box) → sound_gap_row box'.row ≡ true
          → refusal_of (messages_act more lists letter (suc i) box' (drop (length_of bytes) bytes)) ≡ first_broken (messages_rules more lists letter (suc i) (gaps_of box'.row) (drop (length_of bytes) bytes))

      gaps : Gaps
      gaps = gaps_of box.row

      Decided : Type 0
      Decided = refusal_of (messages_act (suc more) lists letter i box bytes) ≡ first_broken (own more i gaps bytes ++ behind more i gaps bytes)

      good : Behind → (w : Result What Fault) → (message_of lists letter bytes).what ≡ w → verdict_of w ≡ Ok tt → Decided
      good rest w e g =
          let holds = front_holds (own more i gaps bytes) (behind more i gaps bytes) (none_hold (own more i gaps bytes) (own_first more i gaps bytes w e ∙ ap (as_option i) g)) in
          ⊎_elim (λ (d : Went (records_wanted lists) box (message_acts lists letter box i bytes) (gaps_after (gaps_of box.row) bytes)).
          ap refusal_of (messages_next lists letter more i box bytes d.box d.acts)
          ∙ rest d.box d.sound
          ∙ ap (λ (gaps : Gaps). first_broken (messages_rules more lists letter (suc i) gaps (drop (length_of bytes) bytes))) d.gaps_are
          ∙ sym (holds ∙ rw d.few))
          (λ (d : Fell i (message_acts lists letter box i bytes) (gaps_after (gaps_of box.row) bytes)).
          ap refusal_of (messages_refused lists letter more i box bytes (GapsOver i) d.refuses) ∙ sym (holds ∙ rw d.many))
          (good_goes lists headers letter box i bytes (ap verdict_of e ∙ g) s)

      go : Behind → (w : Result What Fault) → (message_of lists letter bytes).what ≡ w → Decided
      go rest (Err fault) e = bad_first more i gaps bytes box fault e
      go rest (Ok what) e = good rest (Ok what) e refl

  -- where no segment has the letter the first message is bad
  unlisted_first : segment_of lists.contracts letter ≡ none → (count : ℕ) (box : Box) (gaps : Gaps) (bytes : List ℕ) → 0 < count
      → refusal_of (messages_act count lists letter 0 box bytes) ≡ first_broken (messages_rules count lists letter 0 gaps bytes)
  unlisted_first u zero box gaps bytes h = absurd (omega arith)
  unlisted_first u (suc more) box gaps bytes h = go (message_of lists letter bytes).what refl
    where
      go : (w : Result What Fault) → (message_of lists letter bytes).what ≡ w → refusal_of (messages_act (suc more) lists letter 0 box bytes) ≡ first_broken (messages_rules (suc more) lists letter 0 gaps bytes)
      go (Err fault) e = bad_first more 0 gaps bytes box fault e
      go (Ok _) e = absurd (never_good lists letter u bytes (ap verdict_of e))

  -- the rules hold exactly when the messages are good
  messages_exact : (count i : ℕ) (gaps : Gaps) (bytes : List ℕ) → Hold (messages_rules count lists letter i gaps bytes) ↔ GoodMessages count lists letter gaps bytes
  messages_exact zero i gaps bytes =
      let e = eqb_is (length bytes) 0 in
      ((λ h. e.0 h.0), (λ g. (e.1 g, tt)))
  messages_exact (suc more) i gaps bytes =
      let own = Iff.trans (as_hold i (message_rules lists letter bytes)) (rules_exact lists letter bytes) in
      let few = leb_is (length (gaps_after gaps bytes).runs) most in
      let rest = messages_exact more (suc i) (gaps_after gaps bytes) (drop (length_of bytes) bytes) in
      let parts = hold_append (as_rules i (message_rules lists letter bytes)) _ in (
        (λ h. let p = parts.0 h in (own.0 p.0, few.0 p.1.0, rest.0 p.1.1)),
        (λ g. parts.1 (own.1 g.0, (few.1 g.1, rest.1 g.2))),
      )

-- ---- a whole batch

module _ (lent : Lent) (batch : List ℕ) where
  abbrev letter : ℕ
  letter = batch_letter batch

  abbrev before : List Rule
  before = state_rules lent ++ batch_rules batch

  abbrev of_messages : List Rule
  of_messages = messages_rules (count_of batch) lent.lists letter 0 (gaps_of (gap_row_of_letter lent.lists letter lent.rows)) (batch_data batch)

  -- what the first broken rule answers is what the batch answers
  pub batch_first : refusal_of (batch_acts lent batch) ≡ first_broken (all_rules lent batch)
  unfolding batch_acts
  batch_first = go (first_broken before) refl
    where
      Decided : Type 0
      Decided = refusal_of (unless_broken (first_broken before) (in_turn lent batch)) ≡ first_broken (before ++ of_messages)

      row_sound : Hold before → (o : Option ℕ) → segment_of lent.lists.contracts letter ≡ o → refusal_of (in_turn lent batch) ≡ first_broken of_messages
      row_sound h none e =
          let front = (front_exact batch).0 ((hold_append (state_rules lent) (batch_rules batch)).0 h).1 in
          unlisted_first lent.lists letter e (count_of batch) (box_of lent letter) (gaps_of (gap_row_of_letter lent.lists letter lent.rows)) (batch_data batch) front.some_messages
      row_sound h (some segment) e =
          let state = (state_exact lent).0 ((hold_append (state_rules lent) (batch_rules batch)).0 h).0 in
          let there = segment_has lent.lists.contracts letter segment e in
          messages_first lent.lists letter state.headers (count_of batch) 0 (box_of lent letter) (batch_data batch)
          (rw (ap (gap_row_in lent.rows) e) (state.rows_sound segment there.0))

      go : (o : Option Refusal) → first_broken before ≡ o → Decided
      go none e =
          let h = none_hold before e in
          ap (λ (o : Option Refusal). refusal_of (unless_broken o (in_turn lent batch))) e
          ∙ row_sound h (segment_of lent.lists.contracts letter) refl
          ∙ sym (front_holds before of_messages h)
      go (some refusal) e =
          ap (λ (o : Option Refusal). refusal_of (unless_broken o (in_turn lent batch))) e ∙ sym (front_broken before of_messages refusal e)

  -- a refusal is answered exactly when its rule is broken and all rules before it hold
  pub refused_exact : (refusal : Refusal) → batch_acts lent batch ≡ refused refusal ↔ Broken (all_rules lent batch) refusal
  refused_exact refusal = (
    (λ e. some_broken (all_rules lent batch) refusal (sym batch_first ∙ ap refusal_of e)),
    (λ b. is (batch_acts lent batch) (batch_first ∙ broken_some (all_rules lent batch) refusal b)),
  )
    where
      is : (a : Acted) → refusal_of a ≡ some refusal → a ≡ refused refusal
      is (acted box) e = cc
      is (refused other) e = cc

  rules_good : Hold (all_rules lent batch) ↔ GoodBatch lent batch
  rules_good =
      let front = hold_append before of_messages in
      let both = hold_append (state_rules lent) (batch_rules batch) in
      let messages = messages_exact lent.lists letter (count_of batch) 0 (gaps_of (gap_row_of_letter lent.lists letter lent.rows)) (batch_data batch) in (
        (λ h.
            let p = front.0 h in
            let q = both.0 p.0 in
            record { state = (state_exact lent).0 q.0; front = (front_exact batch).0 q.1; messages = messages.0 p.1 }),
        (λ g. front.1 (both.1 ((state_exact lent).1 g.state, (front_exact batch).1 g.front), messages.1 g.messages)),
      )

  -- a batch is accepted exactly when it is good
  pub accepted_exact : ((box : Box) × (batch_acts lent batch ≡ acted box)) ↔ GoodBatch lent batch
  accepted_exact = (
    (λ a. rules_good.0 (none_hold (all_rules lent batch) (sym batch_first ∙ ap refusal_of a.1))),
    (λ g. is (batch_acts lent batch) refl (batch_first ∙ hold_none (all_rules lent batch) (rules_good.1 g))),
  )
    where
      is : (a : Acted) → batch_acts lent batch ≡ a → refusal_of (batch_acts lent batch) ≡ none → (box : Box) × (batch_acts lent batch ≡ acted box)
      is (acted box) e n = (box, e)
      is (refused refusal) e n = absurd (unlike (sym (ap refusal_of e) ∙ n))
