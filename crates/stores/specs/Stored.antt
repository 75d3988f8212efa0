-- 01 "Sequence and gaps": which update a record is.
use Rattle.std.specs.Prelude.{ℕ, cond, List, ◌∷◌, ltb, get_or}
use Rattle.std.proofs.lemmas.List.Edits.{sets}

-- 01 "Sequence and gaps": an update taken replaces its contract's record at its level only if its number is greater than the
-- record's
abbrev pub stored : ℕ → ℕ → List ℕ → List ℕ → List ℕ
stored at number cells records = cond (ltb (get_or records at 0) number) (sets records at (number ∷ cells)) records
