-- 01, its first paragraph: a record for each listed contract. They are kept in list order over all segments.
use Rattle.std.specs.Prelude.{ℕ, ◌+◌, ◌<◌, List}
use Rattle.files.specs.File.{segments_of, count_at, contracts_before}

-- 01 "The contract list": contract k of segment i is listed
pub record ContractListed (list : List ℕ) (i k : ℕ) : Type 0 where
  pub segment : i < segments_of list
  pub place : k < count_at list i

-- lent memory: behind the records of all segments before its own, and of the contracts before it
abbrev pub contract_among : List ℕ → ℕ → ℕ → ℕ
contract_among list i k = contracts_before list i + k
