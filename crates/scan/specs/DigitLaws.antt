-- The value of digits, grown by a digit and filled up with noughts.
use Rattle.std.specs.Prelude.{◌≡◌, ℕ, ◌+◌, ◌-◌, ◌*◌, ◌^◌, ◌≤◌, List, ◌∷◌, length}
use Rattle.std.proofs.Common.{add_assoc, add-mul, add-sub_of_le, mul_assoc, mul_comm, pow-suc, pow-add}
use Rattle.decimal.specs.Denotes.{value}
use Rattle.scan.specs.Parts.{followed}

-- one digit and then the rest, or all of them at once
pub followed_cons : (n d : ℕ) (ds : List ℕ) → followed (n * 10 + d) ds ≡ followed n (d ∷ ds)
followed_cons n d ds = simp (pow-suc, add-mul, mul_assoc, add_assoc, mul_comm 10 (10 ^ length ds))

-- the places that the digits leave out are noughts
pub followed_scaled : (n places : ℕ) (ds : List ℕ) → length ds ≤ places
    → followed n ds * 10 ^ (places - length ds) ≡ n * 10 ^ places + value ds * 10 ^ (places - length ds)
followed_scaled n places ds h = rw (add-mul, mul_assoc, ← pow-add, add-sub_of_le h)
