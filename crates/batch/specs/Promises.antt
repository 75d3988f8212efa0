-- What each public call promises: its answer, and every lent cell afterwards.
use Rattle.std.specs.Prelude.{ℕ, ◌≡◌, List}
use Rattle.state.specs.declared.answers.Judged.{Judged}
use Rattle.state.specs.Answers.{judged_numbers}
use Rattle.state.specs.Memory.{Lent}
use Rattle.batch.specs.Batch.{batch_letter}
use Rattle.batch.specs.Acts.{batch_acts, batch_numbers, lent_after}

-- 01 "What may be asked": judging answers what taking would; M-102: the keys compared too
pub record JudgedBatch (lent : Lent) (batch : List ℕ) (answer : Judged) : Type 0 where
  pub answers : judged_numbers answer ≡ batch_numbers lent batch

-- 01 "What may be asked": take a batch. It answers how many messages were taken, old and heartbeats; a refusal leaves all lent
-- memory as before; M-102: either has the keys compared with it
pub record TookBatch (lent : Lent) (batch : List ℕ) (answer : Judged) (lent' : Lent) : Type 0 where
  pub answers : judged_numbers answer ≡ batch_numbers lent batch
  pub left : lent' ≡ lent_after lent (batch_letter batch) (batch_acts lent batch)
