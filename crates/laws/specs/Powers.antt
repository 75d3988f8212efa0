-- Powers of ten.
use Rattle.std.specs.Prelude.{ℕ, suc, ◌/◌, ◌^◌, ◌<◌, ◌≡◌}
use Rattle.std.proofs.Math.Nat.{one-le-pow, div-div-eq-div-mul, pow-succ'}
use Rattle.std.proofs.Common.{pow-suc, lit<}

pub ten_pos : (k : ℕ) → 0 < 10 ^ k
ten_pos k = one-le-pow k 10 (lit< tt)

-- a tenth first or last, of n divided by a power of ten
pub tenth_first : (n k : ℕ) → n / 10 / 10 ^ k ≡ n / 10 ^ suc k
tenth_first n k = rw (div-div-eq-div-mul, pow-succ')

pub tenth_last : (n k : ℕ) → n / 10 ^ k / 10 ≡ n / 10 ^ suc k
tenth_last n k = rw (div-div-eq-div-mul, pow-suc)
