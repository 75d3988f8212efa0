-- Every listed contract has a record of its own.
use Rattle.std.specs.Prelude.{ℕ, ◌+◌, ◌≤◌, ◌<◌, ◌≡◌, List}
use Rattle.std.proofs.Common.{ap, ⊎_elim, arith}
use Rattle.laws.specs.Order.{three}
use Rattle.files.specs.BelowLaws.{sum_reaches}
use Rattle.files.specs.File.{segments_of, count_at, contracts_before, contracts_of}
use Rattle.files.specs.FileLaws.{before_sum, before_reaches}
use Rattle.files.specs.Records.{ContractListed, contract_among}

module _ (list : List ℕ) where
  -- a record is one of those kept
  pub record_kept : (i k : ℕ) → ContractListed list i k → contract_among list i k < contracts_of list
  record_kept i k h = omega (arith, h.place, before_reaches list i h.segment)

  -- the records of a segment end before those of a later one begin
  segments_apart : (i j : ℕ) → i < j → j < segments_of list → contracts_before list i + count_at list i ≤ contracts_before list j
  segments_apart i j h l = rw (before_sum list i (omega arith), before_sum list j (omega arith)) (sum_reaches (count_at list) j i h)

  -- two contracts have two records
  pub records_apart : (i k j l : ℕ) → ContractListed list i k → ContractListed list j l → contract_among list i k ≡ contract_among list j l → (i ≡ j) × (k ≡ l)
  records_apart i k j l h g e =
      ⊎_elim (λ (m : i < j). absurd (omega (arith, h.place, segments_apart i j m g.segment)))
      (⊎_elim (λ (m : j < i). absurd (omega (arith, g.place, segments_apart j i m h.segment)))
      (λ (m : i ≡ j). (m, omega (arith, ap (contracts_before list) m))))
      (three i j)
