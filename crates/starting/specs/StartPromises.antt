-- What a start and putting the list without pairs promise: the answer, and every lent cell afterwards.
use Rattle.std.specs.Prelude.{ℕ, ◌≡◌, List, [], ◌∷◌, length, Result}
use Rattle.std.proofs.lemmas.List.Edits.{sets}
use Rattle.laws.specs.Rules.{first_broken}
use Rattle.state.specs.declared.refusal.Refusal.{Refusal}
use Rattle.pairs.specs.NoSpreads.{no_spreads}
use Rattle.state.specs.Answers.{started_numbers, written_numbers, answered, left_by}
use Rattle.state.specs.Memory.{Lent}
use Rattle.starting.specs.StartActs.{start_broken, lent_started}
use Rattle.starting.specs.NoSpreadsRules.{no_spreads_rules}

-- 01 "What may be asked": start. "Sequence and gaps": each listed segment begins at its start number; no contract has a record
pub record StartedBox (lent : Lent) (starts : List ℕ) (answer : Result (Unit {0}) Refusal) (lent' : Lent) : Type 0 where
  pub answers : started_numbers answer ≡ answered (start_broken lent starts) []
  pub left : lent' ≡ left_by (start_broken lent starts) lent (lent_started lent starts)

-- M-100: the spread list without pairs for a contract list's segments, at the front of `out`; 16, then 15
pub record PutNoSpreads (list out : List ℕ) (answer : Result ℕ Refusal) (out' : List ℕ) : Type 0 where
  pub answers : written_numbers answer ≡ answered (first_broken (no_spreads_rules list (length out))) (length (no_spreads list) ∷ [])
  pub left : out' ≡ left_by (first_broken (no_spreads_rules list (length out))) out (sets out 0 (no_spreads list))
