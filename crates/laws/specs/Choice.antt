-- Choices by a test, and answers that differ.
use Rattle.std.specs.Prelude.{ℕ, ◌≡◌, refl, Bool, true, false, cond, ◌⊎◌}
use Rattle.std.proofs.Common.{inl, inr, arith}
use Rattle.std.proofs.Math.Option.{none, some}

-- a choice between one thing and the same
pub cond_same {ℓ} : {A : Type ℓ} (b : Bool) (x : A) → cond b x x ≡ x
cond_same true x = refl
cond_same false x = refl

-- for `cc`, which proves equations alone: two answers that differ
pub clash : ◌≡◌ {A = ℕ} 0 1 → ⊥
clash e = omega arith

pub never : {k : ℕ} → none ≡ some k → ⊥
never e = clash (cc)

pub either : (t : Bool) → (t ≡ true) ⊎ (t ≡ false)
either true = inl refl
either false = inr refl
