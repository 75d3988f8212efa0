-- A batch that breaks a rule before its messages is refused; of any other its messages decide.
use Rattle.std.specs.Prelude.{ℕ, ◌-◌, ◌≤◌, ◌<◌, ◌≡◌, List, ◌++◌, length, take, drop, Result, Ok, Err}
use Rattle.std.proofs.Common.{ap, ap₂, sym, ◌∙◌, arith, length-drop}
use Rattle.laws.specs.Rules.{first_broken, Hold}
use Rattle.laws.specs.RulesLaws.{none_hold, hold_append}
use Rattle.wire.specs.Number.{number_at}
use Rattle.head.specs.Fields.{segment_letter_of}
use Rattle.state.specs.declared.answers.Judged.{Judged}
use Rattle.state.specs.declared.answers.Judged.TheVariants.{Refused}
use Rattle.state.specs.declared.refusal.Refusal.{Refusal}
use Rattle.state.specs.Memory.{Lent}
use Rattle.turns.specs.Turns.{refused}
use Rattle.batch.specs.Batch.{batch_rules, batch_letter, count_of, batch_data}
use Rattle.batch.specs.Acts.{batch_acts, batch_numbers, lent_after}
use Rattle.batch.specs.BatchLaws.{rule_refuses, messages_decide, front_numbers}
use Rattle.batch.specs.Good.{GoodFront}
use Rattle.state.specs.GoodState.{GoodState}
use Rattle.batch.specs.GoodLaws.{front_exact, rows_ready}
use Rattle.state.specs.Answers.{judged_numbers, checked_numbers, checked_by}
use Rattle.state.specs.AnswersLaws.{checked_refusal, checked_told}
use Rattle.state.specs.State.{state_rules}
use Rattle.turns.proofs.MessagesLaws.{rest_is}
use Rattle.batch.specs.Promises.{JudgedBatch, TookBatch}
use Rattle.batch.specs.Scratch.{DataReady, data_acts, data_numbers, JudgedData, TookData}
use Rattle.state.specs.StateLaws.{state_exact}

module _ (lent : Lent) (batch : List ℕ) (checked : Result (Unit {0}) Refusal) (is : checked_numbers checked ≡ checked_by (first_broken (state_rules lent ++ batch_rules batch))) where
  first : first_broken (state_rules lent ++ batch_rules batch) ≡ checked_refusal checked
  first = sym (checked_told checked (first_broken (state_rules lent ++ batch_rules batch)) is)

  module _ (refusal : Refusal) (e : checked ≡ Err refusal) where
    refuses : batch_acts lent batch ≡ refused refusal
    refuses = rule_refuses lent batch refusal (first ∙ ap checked_refusal e)

    -- before the first lookup
    none_compared : judged_numbers (Refused refusal 0) ≡ batch_numbers lent batch
    none_compared = sym (front_numbers lent batch refusal (first ∙ ap checked_refusal e))

    pub refused_judged : JudgedBatch lent batch (Refused refusal 0)
    refused_judged = record { answers = none_compared }

    pub refused_took : TookBatch lent batch (Refused refusal 0) lent
    refused_took =
        record {
          answers = none_compared;
          left = sym (ap (lent_after lent (batch_letter batch)) refuses);
        }

  module _ (e : checked ≡ Ok tt) where
    held : Hold (state_rules lent) × Hold (batch_rules batch)
    held = (hold_append (state_rules lent) (batch_rules batch)).0 (none_hold (state_rules lent ++ batch_rules batch) (first ∙ ap checked_refusal e))

    pub checked_state : GoodState lent
    checked_state = (state_exact lent).0 held.0

    pub checked_front : GoodFront batch
    checked_front = (front_exact batch).0 held.1

    -- the data, as they are cut off
    abbrev bytes : List ℕ
    bytes = take (length batch - 5) (drop 5 batch)

    bytes_are : bytes ≡ batch_data batch
    bytes_are = rest_is batch 5 checked_front.begun

    pub data_short : length bytes ≤ 32767
    data_short = rw bytes_are (simp length-drop (omega (arith, checked_front.whole, checked_front.small)))

    -- with the count, as it is read
    module _ (count : ℕ) (read : count ≡ number_at 2 batch 3) where
      count_is : count ≡ count_of batch
      unfolding count_of
      count_is = read

      pub data_ready : count < 65536 → DataReady lent.lists lent.rows count
      data_ready few =
          record {
            headers = checked_state.headers;
            rows_ready = rows_ready lent checked_state;
            some_messages = omega (arith, count_is, checked_front.some_messages);
            few = few;
          }

      same : data_acts lent bytes count ≡ batch_acts lent batch
      same = rw (count_is, bytes_are) (sym (messages_decide lent batch held.0 held.1))

      same_numbers : data_numbers lent bytes count ≡ batch_numbers lent batch
      same_numbers = rw (same, count_is, bytes_are)

      module _ (answer : Judged) where
        pub judged_batch : JudgedData lent.lists lent.rows bytes count answer → JudgedBatch lent batch answer
        judged_batch j = record { answers = j.answers lent.records ∙ same_numbers }

        pub took_batch_lem : (lent' : Lent) → TookData lent bytes count answer lent' → TookBatch lent batch answer lent'
        took_batch_lem lent' t =
            record {
              answers = t.answers ∙ same_numbers;
              left = t.left ∙ ap₂ (lent_after lent) (ap segment_letter_of bytes_are) same;
            }
