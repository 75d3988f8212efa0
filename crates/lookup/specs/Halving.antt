-- M-102: the rule of halving, over any row of keys. `stands k` says how the key sought stands to key k of the row.
use Rattle.std.specs.Prelude.{ℕ, zero, suc, ◌+◌, ◌-◌, ◌/◌}
use Rattle.std.proofs.Math.Option.{Option, none, some}
use Rattle.std.specs.declared.cmp.Ordering.{Ordering}
use Rattle.std.specs.declared.cmp.Ordering.TheVariants.{Less, Equal, Greater}

-- M-102: the place found, and the number of keys compared
pub record Halved : Type 0 where
  pub place : Option ℕ
  pub compared : ℕ

-- M-102: one key more was compared
abbrev pub one_more : Halved → Halved
one_more h = record { place = h.place; compared = h.compared + 1 }

-- M-102: of n keys left (here m + 1), the first of which is key `low`, compare the one with (n - 1) / 2, rounded down, below
-- it; stop on a match, else go on in the half where the key belongs. Each time fewer keys are left, so n turns are enough
unfoldable pub halved_in : ℕ → (ℕ → Ordering) → ℕ → ℕ → Halved
halved_in zero stands low n = record { place = none; compared = 0 }
halved_in (suc turns) stands low zero = record { place = none; compared = 0 }
halved_in (suc turns) stands low (suc m) =
    elim (stands (low + m / 2)) [
      | Equal ↦ record { place = some (low + m / 2); compared = 1 }
      | Less ↦ one_more (halved_in turns stands low (m / 2))
      | Greater ↦ one_more (halved_in turns stands (low + m / 2 + 1) (m - m / 2))
    ]

-- M-102: n keys from key `low` on
abbrev pub halved_from : (ℕ → Ordering) → ℕ → ℕ → Halved
halved_from stands low n = halved_in n stands low n

-- M-102: a row of n keys
abbrev pub halved : (ℕ → Ordering) → ℕ → Halved
halved stands n = halved_from stands 0 n

-- M-102: the binary digits of n: none of 0, and one more than half of it has. n turns are enough
abbrev pub digits_in : ℕ → ℕ → ℕ
digits_in zero n = 0
digits_in (suc turns) zero = 0
digits_in (suc turns) (suc m) = digits_in turns (suc m / 2) + 1

-- M-102: the binary digits of n
abbrev pub digits : ℕ → ℕ
digits n = digits_in n n
