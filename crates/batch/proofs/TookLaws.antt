-- What the promises of judging and taking a batch settle.
use Rattle.std.specs.Prelude.{ℕ, ◌+◌, ◌*◌, ◌≤◌, ◌≡◌, refl, ◌↔◌, List, ◌++◌, length}
use Rattle.std.proofs.Common.{ap, sym, ◌∙◌, arith}
use Rattle.std.proofs.Math.Option.{Option, none, some}
use Rattle.laws.specs.Rules.{first_broken, Broken}
use Rattle.laws.specs.RulesLaws.{none_hold, hold_append}
use Rattle.state.specs.declared.answers.Judged.{Judged}
use Rattle.state.specs.declared.answers.Judged.TheVariants.{Accepted, Refused}
use Rattle.state.specs.declared.refusal.Refusal.{Refusal}
use Rattle.state.specs.Answers.{judged_numbers}
use Rattle.turns.proofs.BoundLaws.{all_fits}
use Rattle.turns.specs.Compared.{compared_in, reached_by, counted_numbers, compared_of, reached_in}
use Rattle.turns.specs.Turns.{Box, Acted, acted, refused}
use Rattle.batch.specs.Batch.{batch_letter, batch_data, batch_rules, count_of}
use Rattle.batch.specs.Acts.{batch_acts, batch_compared, batch_numbers, answer_of, lent_after}
use Rattle.batch.specs.BatchLaws.{rule_refuses, messages_decide, front_reached, accepted_box, refused_is}
use Rattle.batch.specs.Good.{GoodBatch}
use Rattle.state.specs.GoodState.{GoodState}
use Rattle.batch.specs.LeftLaws.{all_counted, behind_left, state_left}
use Rattle.state.specs.Memory.{Lent, SameBehind}
use Rattle.batch.specs.Order.{all_rules}
use Rattle.batch.proofs.OrderLaws.{accepted_exact, refused_exact}
use Rattle.batch.specs.Promises.{JudgedBatch, TookBatch}
use Rattle.state.specs.AnswersLaws.{judged_told}
use Rattle.state.specs.State.{state_rules}
use Rattle.state.specs.StateLaws.{state_exact}

pub answer_numbers_lem : (compared : ℕ) (a : Acted) → judged_numbers (answer_of compared a) ≡ counted_numbers a compared
answer_numbers_lem compared (acted box) = refl
answer_numbers_lem compared (refused refusal) = refl

module _ (lent : Lent) (batch : List ℕ) where
  abbrev acts : Acted
  acts = batch_acts lent batch

  abbrev keys : ℕ
  keys = batch_compared lent.lists batch acts

  answer_is : (answer : Judged) → judged_numbers answer ≡ batch_numbers lent batch → answer ≡ answer_of keys acts
  answer_is answer e = judged_told answer (answer_of keys acts) (e ∙ sym (answer_numbers_lem keys acts))

  -- ---- one outcome

  pub one_judged : (a b : Judged) → JudgedBatch lent batch a → JudgedBatch lent batch b → a ≡ b
  one_judged a b p q = judged_told a b (p.answers ∙ sym q.answers)

  pub one_took : (a b : Judged) (lent' lent'' : Lent) → TookBatch lent batch a lent' → TookBatch lent batch b lent'' → (a ≡ b) × (lent' ≡ lent'')
  one_took a b lent' lent'' p q = (judged_told a b (p.answers ∙ sym q.answers), p.left ∙ sym q.left)

  -- judging answers what taking would
  pub judged_as_taken : (a b : Judged) (lent' : Lent) → JudgedBatch lent batch a → TookBatch lent batch b lent' → a ≡ b
  judged_as_taken a b lent' p q = judged_told a b (p.answers ∙ sym q.answers)

  -- ---- accepted exactly when the batch is good, refused by the first broken rule

  pub judged_good : (answer : Judged) → JudgedBatch lent batch answer
      → ((taken : ℕ) × (old : ℕ) × (heartbeats : ℕ) × (compared : ℕ) × (answer ≡ Accepted taken old heartbeats compared)) ↔ GoodBatch lent batch
  judged_good answer p = (
    (λ w. (accepted_exact lent batch).0 (accepted_box acts keys (ap judged_numbers (sym w.4) ∙ p.answers))),
    (λ g. let b = (accepted_exact lent batch).1 g in (b.0.taken, b.0.old, b.0.heartbeats, keys, answer_is answer p.answers ∙ ap (answer_of keys) b.1)),
  )

  pub judged_refused : (answer : Judged) → JudgedBatch lent batch answer
      → (refusal : Refusal) → ((compared : ℕ) × (answer ≡ Refused refusal compared)) ↔ Broken (all_rules lent batch) refusal
  judged_refused answer p refusal = (
    (λ w. (refused_exact lent batch refusal).0 (is acts w.0 (sym (answer_is answer p.answers) ∙ w.1))),
    (λ b. (keys, answer_is answer p.answers ∙ ap (answer_of keys) ((refused_exact lent batch refusal).1 b))),
  )
    where
      is : (a : Acted) (compared : ℕ) → answer_of keys a ≡ Refused refusal compared → a ≡ refused refusal
      is (acted box) compared e = cc
      is (refused other) compared e = cc

  -- ---- the keys compared

  keys_told : (answer : Judged) → JudgedBatch lent batch answer → (compared_of answer ≡ keys) × (reached_in (count_of batch) answer ≡ reached_by (count_of batch) acts)
  keys_told answer p = rw (answer_is answer p.answers) (go acts)
    where
      go : (a : Acted) → (compared_of (answer_of keys a) ≡ keys) × (reached_in (count_of batch) (answer_of keys a) ≡ reached_by (count_of batch) a)
      go (acted box) = (refl, refl)
      go (refused refusal) = (refl, refl)

  -- M-102: an accepted batch's count follows from its bytes and the lists alone, a refused one's from these and the place of its refusal
  pub compared_follows : (answer : Judged) → JudgedBatch lent batch answer
      → compared_of answer ≡ compared_in (reached_in (count_of batch) answer) lent.lists (batch_letter batch) (batch_data batch)
  compared_follows answer p =
      let told = keys_told answer p in
      told.0 ∙ ap (λ (n : ℕ). compared_in n lent.lists (batch_letter batch) (batch_data batch)) (sym told.1)

  -- M-102, the worst case: at most 13 keys for each 204 bytes of the data
  keys_few : 204 * keys ≤ 13 * length (batch_data batch)
  keys_few = go (first_broken (state_rules lent ++ batch_rules batch)) refl
    where
      go : (o : Option Refusal) → first_broken (state_rules lent ++ batch_rules batch) ≡ o → 204 * keys ≤ 13 * length (batch_data batch)
      go (some refusal) e = rw (rule_refuses lent batch refusal e, front_reached lent batch refusal e) (omega arith)
      go none e =
          let held = (hold_append (state_rules lent) (batch_rules batch)).0 (none_hold (state_rules lent ++ batch_rules batch) e) in
          let start : 0 + count_of batch ≡ count_of batch = omega arith in
          all_fits lent.lists ((state_exact lent).0 held.0).headers (batch_letter batch) (count_of batch) 0 _ (batch_data batch) (sym (messages_decide lent batch held.0 held.1))
          (reached_by (count_of batch) acts) (ap (λ (n : ℕ). reached_by n acts) start ∙ omega arith)

  pub compared_few : (answer : Judged) → JudgedBatch lent batch answer → 204 * compared_of answer ≤ 13 * length (batch_data batch)
  compared_few answer p = rw (keys_told answer p).0 keys_few

  -- ---- what is left

  -- a refused batch changes nothing
  pub refused_keeps : (refusal : Refusal) {compared : ℕ} (lent' : Lent) → TookBatch lent batch (Refused refusal compared) lent' → lent' ≡ lent
  refused_keeps refusal lent' t = let r = refused_is acts keys refusal _ t.answers in t.left ∙ ap (lent_after lent (batch_letter batch)) r.1

  -- and no batch writes past the cells wanted for state
  pub take_nothing_behind : (answer : Judged) (lent' : Lent) → TookBatch lent batch answer lent' → SameBehind lent lent'
  take_nothing_behind (Refused refusal compared) lent' t = rw (refused_keeps refusal lent' t) (record { rows_behind = refl; records_behind = refl })
  take_nothing_behind (Accepted taken old heartbeats compared) lent' t =
      let d = accepted_box acts keys t.answers in
      rw (t.left, d.1) (behind_left lent batch d.0 d.1)

  module _ (taken old heartbeats compared : ℕ) (lent' : Lent) (t : TookBatch lent batch (Accepted taken old heartbeats compared) lent') where
    did : (box : Box) × (acts ≡ acted box)
    did = accepted_box acts keys t.answers

    -- taken, old and heartbeats are all messages
    pub counts_all : taken + old + heartbeats ≡ count_of batch
    counts_all =
        let d = did in
        let same : Accepted taken old heartbeats compared ≡ Accepted d.0.taken d.0.old d.0.heartbeats keys = answer_is (Accepted taken old heartbeats compared) t.answers ∙ ap (answer_of keys) d.1 in
        let first : taken ≡ d.0.taken = cc in
        let second : old ≡ d.0.old = cc in
        let third : heartbeats ≡ d.0.heartbeats = cc in
        omega (arith, first, second, third, all_counted lent batch d.0 d.1)

    -- and the state is good again
    pub state_good : GoodState lent'
    state_good =
        let d = did in
        rw (t.left, d.1) (state_left lent batch d.0 d.1)
