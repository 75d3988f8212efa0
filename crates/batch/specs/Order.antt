-- All rules of a batch in document 01's order.
use Rattle.std.specs.Prelude.{ℕ, zero, suc, List, [], ◌∷◌, ◌++◌, leb, eqb, length, drop}
use Rattle.std.proofs.Math.Option.{Option, none, some}
use Rattle.pairs.specs.Lists.{Lists}
use Rattle.laws.specs.Rules.{Rule as RuleOf}
use Rattle.sequence.specs.Gaps.{Gaps, most}
use Rattle.sequence.specs.Row.{gaps_of}
use Rattle.head.specs.declared.head.Fault.{Fault}
use Rattle.head.specs.Fields.{length_of}
use Rattle.message.specs.Order.{message_rules}
use Rattle.state.specs.declared.refusal.Refusal.{Refusal}
use Rattle.state.specs.declared.refusal.Refusal.TheVariants.{Count, Gaps as GapsOver}
use Rattle.turns.specs.Turns.{Acted, acted, refused}
use Rattle.batch.specs.Batch.{count_of, batch_data, batch_letter, batch_rules}
use Rattle.state.specs.Memory.{Lent, gap_row_of_letter}
use Rattle.state.specs.State.{state_rules}
use Rattle.batch.specs.Good.{gaps_after}
use Rattle.state.specs.Refusals.{Rule, of_fault}

-- 01, the order of checks: the rules of message i: 5 to 13
abbrev pub as_rules : ℕ → List (RuleOf Fault) → List Rule
as_rules i [] = []
as_rules i (rule ∷ rules) = record { holds = rule.holds; refusal = of_fault rule.refusal i } ∷ as_rules i rules

-- 01, the order of checks: message by message, each in the order 5 to 14; last, bytes left over (4)
abbrev pub messages_rules : ℕ → Lists → ℕ → ℕ → Gaps → List ℕ → List Rule
messages_rules zero lists letter i gaps bytes = record { holds = eqb (length bytes) 0; refusal = Count } ∷ []
messages_rules (suc more) lists letter i gaps bytes =
    as_rules i (message_rules lists letter bytes)
    ++ (record { holds = leb (length (gaps_after gaps bytes).runs) most; refusal = GapsOver i }
    ∷ messages_rules more lists letter (suc i) (gaps_after gaps bytes) (drop (length_of bytes) bytes))

-- 01, the order of checks: 16 for either list, 15, 18, then the batch's own, then the messages'
abbrev pub all_rules : Lent → List ℕ → List Rule
all_rules lent batch =
    (state_rules lent ++ batch_rules batch)
    ++ messages_rules (count_of batch) lent.lists (batch_letter batch) 0 (gaps_of (gap_row_of_letter lent.lists (batch_letter batch) lent.rows)) (batch_data batch)

-- 01, the table of refusals: the refusal, where there is one
abbrev pub refusal_of : Acted → Option Refusal
refusal_of (acted box) = none
refusal_of (refused refusal) = some refusal
