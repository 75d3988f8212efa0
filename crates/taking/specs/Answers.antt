-- Words of inner contracts only: no promise of a public call reaches them, so that whoever reads those may skip this file. What
-- this crate's function answers, as the paper's numbers.
use Rattle.std.specs.Prelude.{Result, Ok, Err, ℕ, List}
use Rattle.sequence.specs.Answers.{one_taken, one_old, refused_gaps}
use Rattle.taking.specs.declared.Taken.{Taken}
use Rattle.taking.specs.declared.Full.{Full}

-- 01 "What may be asked": of one number, how many were taken and old; or 14
abbrev pub taken_numbers : Result Taken Full → List ℕ
taken_numbers (Ok Taken.Taken) = one_taken
taken_numbers (Ok Taken.Old) = one_old
taken_numbers (Err _) = refused_gaps
