-- A batch is judged, after every history, as the machine judges it, and the machine judges a batch in one way.
use Prim.Native.Nat.{ℕ, zero, suc, ◌≤◌, ◌<◌}
use Rattle.std.specs.Prelude.{◌≡◌, Bool, not, cond, ◌&&◌, List, ◌↔◌, length, get_or, drop, Ok, Err, Result}
use Rattle.std.proofs.Math.Path.{refl}
use Rattle.std.proofs.Common.{sym, ap, subst, ◌∙◌, inr, arith}
use Rattle.std.proofs.Math.Bool.{true, false}
use Rattle.std.proofs.Math.Logic.{inl}
use Rattle.std.proofs.Math.Option.{Option, none, some}
use borrow.Author.Tests.{eqb-true, eqb-false}
use Rattle.std.proofs.Math.Dec.{eqb}
use Rattle.laws.specs.Rules.{Rule, first_broken, Hold, Broken}
use Rattle.laws.specs.RulesLaws.{unlike, none_hold, hold_none, some_broken, broken_some}
use Rattle.lookup.specs.Lookup.{segment_of}
use Rattle.pairs.specs.Lists.{Lists}
use Rattle.sequence.specs.Gaps.{most}
use Rattle.message.specs.declared.body.What.{What}
use Rattle.message.specs.declared.body.What.TheVariants as what
use Rattle.head.specs.declared.head.Fault.{Fault}
use Rattle.head.specs.Fields.{length_of}
use Rattle.message.specs.Good.{GoodMessage}
use Rattle.message.specs.Message.{Message}
use Rattle.message.specs.Reads.{message_of}
use Rattle.message.specs.Numbers.{verdict_of}
use Rattle.message.specs.Order.{message_rules}
use Rattle.message.proofs.OrderLaws.{fault_exact}
use Rattle.state.specs.declared.refusal.Refusal.{Refusal}
use Rattle.state.specs.declared.refusal.Refusal.TheVariants.{Count, Gaps}
use Rattle.state.specs.declared.answers.Judged.{Judged}
use Rattle.state.specs.Memory.{Lent}
use Rattle.state.specs.Refusals.{of_fault}
use Rattle.state.specs.State.{state_rules}
use Rattle.state.specs.StateLaws.{state_exact}
use Rattle.turns.specs.ActsLaws.{acts_as_lem}
use Rattle.turns.specs.Turns.{Box, Acted, acted, refused, messages_act}
use Rattle.turns.specs.Compared.{reached, counted_numbers}
use Rattle.turns.proofs.MessagesLaws.{messages_next, messages_refused}
use Rattle.batch.specs.Batch.{batch_rules, batch_letter, count_of, batch_data}
use Rattle.batch.specs.Acts.{batch_acts, batch_compared, box_of}
use Rattle.batch.specs.BatchLaws.{front_refuses, messages_decide, good_front, messages_accepted, accepted_box}
use Rattle.batch.specs.Good.{GoodFront}
use Rattle.batch.specs.GoodLaws.{front_exact}
use Rattle.batch.specs.LeftLaws.{is_listed}
use Rattle.batch.proofs.OrderLaws.{refused_exact}
use Rattle.batch.specs.Promises.{JudgedBatch}
use Rattle.batch.proofs.TookLaws.{judged_refused, compared_follows}
use Rattle.batch.specs.ScratchLaws.{never_good}
use Rattle.starting.specs.Start.{start_of}
use Rattle.history.specs.Machine.{Machine, TooMany, is_numbered, is_heartbeat, takes_in, in_segment, comes_to, AllGood, FirstRefused, counted, is_taken_for, is_old_for, GoodNow, Accepts, Refuses, in_front, in_turn_lem, compared_for, Judges, IsAccepted}
use Rattle.history.specs.Past.{Event, batch_messages, runs_standing, is_taken, is_old, how_many}
use Rattle.history.specs.Turn.{BoxFits}
use Rattle.history.specs.Exactly.{came_next, CountsCame}
use Rattle.history.specs.Step.{batch_answer}
use Rattle.history.proofs.CallsLaws.{judge_exactly}
use Rattle.history.specs.Histories.{Reached}
use Rattle.history.proofs.HoldsLaws.{reached_holds, box_before, batch_turned}
use Rattle.history.specs.Refines.{machine_of}
use Rattle.history.proofs.FullLaws.{good_unbroken, same_refusal, box_standing, Comes, bad, goes, over, comes}
use Rattle.history.proofs.MachineLaws.{comes_is, standing_is, counts_are}

-- ---- the machine judges in one way

few_or_many : {n : ℕ} → n ≤ most → TooMany n → ⊥
few_or_many h l = omega arith

-- messages that are all good are not refused
pub good_unrefused : (count letter k : ℕ) (bytes : List ℕ) (m : Machine) (r : Refusal) → AllGood count letter bytes m → FirstRefused count letter k bytes m r → ⊥
good_unrefused zero letter k bytes m r good refuses = omega (arith, good, refuses.0)
good_unrefused (suc more) letter k bytes m r good (inl w) = good_unbroken m.lists letter bytes good.0 w.0 w.1
good_unrefused (suc more) letter k bytes m r good (inr (g, inl w)) = few_or_many good.1 w.0
good_unrefused (suc more) letter k bytes m r good (inr (g, inr w)) =
    good_unrefused more letter (suc k) (drop (length_of bytes) bytes) (comes_to letter bytes m) r good.2 w.1

-- of rules in order one is broken first
pub one_broken : {A : Type 0} (rules : List (Rule A)) (a b : A) → Broken rules a → Broken rules b → a ≡ b
one_broken rules a b p q = let both : some a ≡ some b = sym (broken_some rules a p) ∙ broken_some rules b q in cc

-- messages are refused with one refusal
pub one_refusal : (count letter k : ℕ) (bytes : List ℕ) (m : Machine) (r s : Refusal) → FirstRefused count letter k bytes m r → FirstRefused count letter k bytes m s → r ≡ s
one_refusal zero letter k bytes m r s p q = p.1 ∙ sym q.1
one_refusal (suc more) letter k bytes m r s (inl p) (inl q) =
    p.2 ∙ ap (λ (f : Fault). of_fault f k) (one_broken (message_rules m.lists letter bytes) p.0 q.0 p.1 q.1) ∙ sym q.2
one_refusal (suc more) letter k bytes m r s (inl p) (inr q) = absurd (good_unbroken m.lists letter bytes q.0 p.0 p.1)
one_refusal (suc more) letter k bytes m r s (inr p) (inl q) = absurd (good_unbroken m.lists letter bytes p.0 q.0 q.1)
one_refusal (suc more) letter k bytes m r s (inr (g, inl p)) (inr (h, inl q)) = p.1 ∙ sym q.1
one_refusal (suc more) letter k bytes m r s (inr (g, inl p)) (inr (h, inr q)) = absurd (few_or_many q.0 p.0)
one_refusal (suc more) letter k bytes m r s (inr (g, inr p)) (inr (h, inl q)) = absurd (few_or_many p.0 q.0)
one_refusal (suc more) letter k bytes m r s (inr (g, inr p)) (inr (h, inr q)) =
    one_refusal more letter (suc k) (drop (length_of bytes) bytes) (comes_to letter bytes m) r s p.1 q.1

-- ---- messages in turn

some_length : (n : ℕ) → (n ≡ 0 → ⊥) → 0 < n
some_length zero h = absurd (h refl)
some_length (suc n) h = omega arith

module _ (lists : Lists) (starts : List ℕ) (letter s : ℕ) (listed : segment_of lists.contracts letter ≡ some s) where
  -- what the messages do is what the machine says of them
  abbrev Turns : ℕ → ℕ → List ℕ → List Event → Acted → Type 0
  Turns count k bytes past (acted box) = AllGood count letter bytes (machine_of lists starts past)
  Turns count k bytes past (refused r) = FirstRefused count letter k bytes (machine_of lists starts past) r

  turned : (more k : ℕ) (bytes : List ℕ) (past : List Event) → GoodMessage lists letter bytes → runs_standing s (start_of starts s) (came_next lists letter s bytes past) ≤ most
      → (a : Acted) → Turns more (suc k) (drop (length_of bytes) bytes) (came_next lists letter s bytes past) a → Turns (suc more) k bytes past a
  turned more k bytes past good few (acted box) h = (good, rw (comes_is lists starts letter s listed bytes past, standing_is lists starts letter s listed (came_next lists letter s bytes past)) few, rw (comes_is lists starts letter s listed bytes past) h)
  turned more k bytes past good few (refused r) h = inr (good, inr (rw (comes_is lists starts letter s listed bytes past, standing_is lists starts letter s listed (came_next lists letter s bytes past)) few, rw (comes_is lists starts letter s listed bytes past) h))

  turns_as : (count k : ℕ) (past : List Event) (box : Box) (bytes : List ℕ) → BoxFits lists starts s past box → Turns count k bytes past (messages_act count lists letter k box bytes)
  unfolding messages_act
  turns_as zero k past box bytes f = go (eqb (length bytes) 0) refl
    where
      go : (t : Bool) → eqb (length bytes) 0 ≡ t → Turns zero k bytes past (cond t (acted box) (refused Count))
      go true e = eqb-true (length bytes) 0 e
      go false e = (some_length (length bytes) (eqb-false (length bytes) 0 e), refl)
  turns_as (suc more) k past box bytes f =
      go (comes lists starts letter s listed past box f k bytes) (λ box' fit. turns_as more (suc k) (came_next lists letter s bytes past) box' (drop (length_of bytes) bytes) fit)
    where
      go : Comes lists starts letter s listed past box f k bytes
          → ((box' : Box) → BoxFits lists starts s (came_next lists letter s bytes past) box'
          → Turns more (suc k) (drop (length_of bytes) bytes) (came_next lists letter s bytes past) (messages_act more lists letter (suc k) box' (drop (length_of bytes) bytes)))
          → Turns (suc more) k bytes past (messages_act (suc more) lists letter k box bytes)
      go (bad fault acts broken) rest =
          rw (messages_refused lists letter more k box bytes (of_fault fault k) acts) (inl (fault, broken, refl))
      go (goes box' acts good fit) rest =
          rw (messages_next lists letter more k box bytes box' acts)
          (turned more k bytes past good (box_standing lists starts letter s listed (came_next lists letter s bytes past) box' fit)
          (messages_act more lists letter (suc k) box' (drop (length_of bytes) bytes)) (rest box' fit))
      go (over acts good many) rest =
          rw (messages_refused lists letter more k box bytes (Gaps k) acts)
          (inr (good, inl (rw (comes_is lists starts letter s listed bytes past, standing_is lists starts letter s listed (came_next lists letter s bytes past)) many, refl)))

-- where no segment has the letter the first message is bad
unlisted : (lists : Lists) (letter : ℕ) → segment_of lists.contracts letter ≡ none → (m : Machine) → m.lists ≡ lists → (count : ℕ) → 1 ≤ count → (box : Box) (bytes : List ℕ) (r : Refusal)
    → messages_act count lists letter 0 box bytes ≡ refused r → FirstRefused count letter 0 bytes m r
unlisted lists letter u m same zero some_messages box bytes r e = absurd (omega arith)
unlisted lists letter u m same (suc more) some_messages box bytes r e = go (message_of lists letter bytes).what refl
  where
    go : (w : Result What Fault) → (message_of lists letter bytes).what ≡ w → FirstRefused (suc more) letter 0 bytes m r
    go (Err fault) f =
        let stops = messages_refused lists letter more 0 box bytes (of_fault fault 0) (acts_as_lem lists letter bytes (message_of lists letter bytes) refl f box 0) in
        let both : refused (of_fault fault 0) ≡ refused r = sym stops ∙ e in
        inl (fault, rw same ((fault_exact lists letter bytes fault).0 f), sym (same_refusal both))
    go (Ok _) f = absurd (never_good lists letter u bytes (ap verdict_of f))

-- ---- a whole batch

-- a good front breaks no rule of 1 to 4
front_unbroken : (batch : List ℕ) (r : Refusal) → GoodFront batch → Broken (batch_rules batch) r → ⊥
front_unbroken batch r front b = unlike (sym (broken_some (batch_rules batch) r b) ∙ hold_none (batch_rules batch) ((front_exact batch).1 front))

-- a batch that is good is not refused
pub now_unrefused : (m : Machine) (batch : List ℕ) (r : Refusal) → GoodNow m batch → Refuses m batch r → ⊥
now_unrefused m batch r good (in_front b) = front_unbroken batch r good.front b
now_unrefused m batch r good (in_turn_lem front w) = good_unrefused (count_of batch) (batch_letter batch) 0 (batch_data batch) m r good.messages w

-- the machine refuses a batch in one way
one_refuses : (m : Machine) (batch : List ℕ) (r s : Refusal) → Refuses m batch r → Refuses m batch s → r ≡ s
one_refuses m batch r s (in_front p) (in_front q) = one_broken (batch_rules batch) r s p q
one_refuses m batch r s (in_front p) (in_turn_lem front q) = absurd (front_unbroken batch r front p)
one_refuses m batch r s (in_turn_lem front p) (in_front q) = absurd (front_unbroken batch s front q)
one_refuses m batch r s (in_turn_lem front p) (in_turn_lem front' q) = one_refusal (count_of batch) (batch_letter batch) 0 (batch_data batch) m r s p q

-- and judges it in one way
pub one_judges : (m : Machine) (batch : List ℕ) (a b : Judged) → Judges m batch a → Judges m batch b → a ≡ b
one_judges m batch (Judged.Accepted t o h c) (Judged.Accepted t' o' h' c') p q =
    let taken : t ≡ t' = p.0.taken_are ∙ sym q.0.taken_are in
    let old : o ≡ o' = p.0.old_are ∙ sym q.0.old_are in
    let beats : h ≡ h' = p.0.heartbeats_are ∙ sym q.0.heartbeats_are in
    let keys : c ≡ c' = p.1 ∙ sym q.1 in
    λ k. Judged.Accepted (taken k) (old k) (beats k) (keys k)
one_judges m batch (Judged.Accepted t o h c) (Judged.Refused r d) p q = absurd (now_unrefused m batch r p.0.good q.0)
one_judges m batch (Judged.Refused r d) (Judged.Accepted t o h c) p q = absurd (now_unrefused m batch r q.0.good p.0)
one_judges m batch (Judged.Refused r c) (Judged.Refused s d) p q =
    let same : r ≡ s = one_refuses m batch r s p.0 q.0 in
    let keys : c ≡ d = p.1 ∙ ap (λ (refusal : Refusal). compared_for m batch (reached (count_of batch) refusal)) same ∙ sym q.1 in
    λ k. Judged.Refused (same k) (keys k)

module _ {starts : List ℕ} {lent : Lent} {past : List Event} (r : Reached starts lent past) (batch : List ℕ) where
  abbrev letter : ℕ
  letter = batch_letter batch

  abbrev lists : Lists
  lists = lent.lists

  abbrev now : Machine
  now = machine_of lists starts past

  state : Hold (state_rules lent)
  state = (state_exact lent).1 (reached_holds r).state

  -- 01 "What the proof settles": the counts are those of the history
  pub counts : (taken old heartbeats compared : ℕ) → JudgedBatch lent batch (Judged.Accepted taken old heartbeats compared) → CountsCame lists starts past batch taken old heartbeats
  counts taken old heartbeats compared p =
      let did = accepted_box (batch_acts lent batch) _ p.answers in
      let l = is_listed lent batch did.0 did.1 in
      let turned = batch_turned (reached_holds r) batch did.0 did.1 l.0 l.1 in
      let numbers = p.answers ∙ ap (λ (a : Acted). counted_numbers a (batch_compared lists batch (batch_acts lent batch))) did.1 in
      record {
        segment = l.0;
        listed = l.1;
        taken_are = omega (arith, ap (λ (ns : List ℕ). get_or ns 1 0) numbers, turned.taken_are);
        old_are = omega (arith, ap (λ (ns : List ℕ). get_or ns 2 0) numbers, turned.old_are);
        heartbeats_are = omega (arith, ap (λ (ns : List ℕ). get_or ns 3 0) numbers, turned.heartbeats_are);
      }

  -- what the machine counts is what the past counts
  module _ (s : ℕ) (listed : segment_of lists.contracts letter ≡ some s) where
    abbrev first : ℕ
    first = start_of starts s

    taken_same : (before : List Event) (m : Message) → is_taken_for letter (machine_of lists starts before) m ≡ is_taken s first before m
    taken_same before m = ap (λ (o : Option ℕ). in_segment o false (λ i. takes_in (machine_of lists starts before) i m)) listed

    abbrev count : (Machine → Message → Bool) → ℕ
    count test = counted test (count_of batch) letter (batch_data batch) now

    count_same : (test : Machine → Message → Bool) (tests : List Event → Message → Bool) → ((before : List Event) (m : Message) → test (machine_of lists starts before) m ≡ tests before m)
        → count test ≡ how_many tests s (batch_messages lists batch) past
    count_same test tests same = counts_are lists starts letter s listed test tests same (count_of batch) (batch_data batch) past

  accepts : (t o h keys : ℕ) → JudgedBatch lent batch (Judged.Accepted t o h keys) → Accepts now batch t o h
  accepts t o h keys p =
      let did = accepted_box (batch_acts lent batch) _ p.answers in
      let c = counts t o h keys p in
      let s : ℕ = c.segment in
      let turns = turns_as lists starts letter s c.listed (count_of batch) 0 past (box_of lent letter) (batch_data batch) (box_before (reached_holds r) batch s c.listed) in
      record {
        good =
            record {
              front = good_front lent batch did.0 did.1;
              messages = subst (Turns lists starts letter s c.listed (count_of batch) 0 (batch_data batch) past) (messages_accepted lent batch did.0 did.1) turns;
            };
        taken_are = c.taken_are ∙ sym (count_same s c.listed (is_taken_for letter) (is_taken s (start_of starts s)) (taken_same s c.listed));
        old_are =
            c.old_are
            ∙ sym (count_same s c.listed (is_old_for letter) (is_old s (start_of starts s)) (λ before m. ap (λ (t : Bool). is_numbered m.what && not t) (taken_same s c.listed before m)));
        heartbeats_are = c.heartbeats_are ∙ sym (count_same s c.listed (λ before m. is_heartbeat m.what) (λ before m. is_heartbeat m.what) (λ before m. refl));
      }

  refuses : (q : Refusal) (keys : ℕ) → JudgedBatch lent batch (Judged.Refused q keys) → Refuses now batch q
  refuses q keys p = front (first_broken (batch_rules batch)) refl
    where
      fell : batch_acts lent batch ≡ refused q
      fell = (refused_exact lent batch q).1 ((judged_refused lent batch (Judged.Refused q keys) p q).0 (keys, refl))

      listed : Hold (batch_rules batch) → (o : Option ℕ) → segment_of lists.contracts letter ≡ o → Refuses now batch q
      listed h none u =
          let good = (front_exact batch).0 h in
          in_turn_lem good (unlisted lists letter u now refl (count_of batch) good.some_messages (box_of lent letter) (batch_data batch) q (sym (messages_decide lent batch state h) ∙ fell))
      listed h (some s) l =
          in_turn_lem ((front_exact batch).0 h)
          (subst (Turns lists starts letter s l (count_of batch) 0 (batch_data batch) past) (sym (messages_decide lent batch state h) ∙ fell)
          (turns_as lists starts letter s l (count_of batch) 0 past (box_of lent letter) (batch_data batch) (box_before (reached_holds r) batch s l)))

      front : (o : Option Refusal) → first_broken (batch_rules batch) ≡ o → Refuses now batch q
      front none h = listed (none_hold (batch_rules batch) h) (segment_of lists.contracts letter) refl
      front (some other) h =
          let same : other ≡ q = same_refusal (sym (front_refuses lent batch state other h) ∙ fell) in
          in_front (rw same at (some_broken (batch_rules batch) other h))

  judges : (answer : Judged) → JudgedBatch lent batch answer → Judges now batch answer
  judges (Judged.Accepted t o h keys) p = (accepts t o h keys p, compared_follows lent batch (Judged.Accepted t o h keys) p)
  judges (Judged.Refused q keys) p = (refuses q keys p, compared_follows lent batch (Judged.Refused q keys) p)

  -- a batch is judged exactly as the machine judges it
  pub judged_exactly : (answer : Judged) → JudgedBatch lent batch answer ↔ Judges now batch answer
  judged_exactly answer = (
    judges answer,
    (λ j.
        let promised : JudgedBatch lent batch (batch_answer lent batch) = (judge_exactly lent batch (batch_answer lent batch)).1 refl in
        subst (JudgedBatch lent batch) (one_judges now batch (batch_answer lent batch) answer (judges (batch_answer lent batch) promised) j) promised),
  )

  -- a batch is accepted exactly when it is good
  pub accepted_exactly : (answer : Judged) → JudgedBatch lent batch answer → IsAccepted answer ↔ GoodNow now batch
  accepted_exactly (Judged.Accepted t o h keys) p = ((λ yes. (accepts t o h keys p).good), (λ good. tt))
  accepted_exactly (Judged.Refused q keys) p = ((λ no. absurd no), (λ good. absurd (now_unrefused now batch q good (refuses q keys p))))
