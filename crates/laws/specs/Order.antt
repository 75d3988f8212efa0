-- Two numbers stand in one order or the other: the split that a proof goes by.
use Rattle.std.specs.Prelude.{ℕ, zero, suc, ◌+◌, ◌-◌, ◌≤◌, ◌<◌, ◌≡◌, ◌⊎◌}
use Rattle.std.proofs.Common.{subst, inl, inr, ⊎_elim, add-one, arith}
use Rattle.std.proofs.Math.Decide.{dec_le}

pub order : (a b : ℕ) → (a ≤ b) ⊎ (b < a)
order a b = go (dec_le a b)
  where
    go : Dec (a ≤ b) → (a ≤ b) ⊎ (b < a)
    go (yes h) = inl h
    go (no h) = inr (omega arith)

-- equal or not
pub same : (a b : ℕ) → (a ≡ b) ⊎ (a ≡ b → ⊥)
same a b = go (order a b) (order b a)
  where
    go : (a ≤ b) ⊎ (b < a) → (b ≤ a) ⊎ (a < b) → (a ≡ b) ⊎ (a ≡ b → ⊥)
    go (inl h) (inl k) = inl (omega arith)
    go (inl h) (inr k) = inr (λ e. omega arith)
    go (inr h) (inl k) = inr (λ e. omega arith)
    go (inr h) (inr k) = inr (λ e. omega arith)

-- a number above zero by the one below it
pub one_below : (k : ℕ) → 0 < k → k ≡ suc (k - 1)
one_below k h = omega arith

-- below, above or equal
pub three : (a b : ℕ) → (a < b) ⊎ ((b < a) ⊎ (a ≡ b))
three a b = go (order a b) (order b a)
  where
    go : (a ≤ b) ⊎ (b < a) → (b ≤ a) ⊎ (a < b) → (a < b) ⊎ ((b < a) ⊎ (a ≡ b))
    go (inl h) (inl k) = inr (inr (omega arith))
    go (inl h) (inr k) = inl k
    go (inr h) k = inr (inl h)

-- where each number but the last of those below n stands in a transitive relation to the next, every one stands in it to
-- all behind it
module _ (R : ℕ → ℕ → Type 0) (trans : (a b c : ℕ) → R a b → R b c → R a c) where
  pub climbs : (n : ℕ) → ((k : ℕ) → k + 1 < n → R k (k + 1)) → (j k : ℕ) → j < k → k < n → R j k
  climbs n step j zero h l = absurd (omega arith)
  climbs n step j (suc k) h l =
      let next : R k (suc k) = subst (R k) (add-one k) (step k (omega arith)) in
      ⊎_elim (λ (m : k ≤ j). let here : k ≡ j = omega arith in subst (λ (i : ℕ). R i (suc k)) here next)
      (λ (m : j < k). trans j k (suc k) (climbs n step j k m (omega arith)) next)
      (order k j)
