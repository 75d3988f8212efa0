-- What is asked of every number below another, as it computes: a test of all, the first that passes.
use Rattle.std.specs.Prelude.{ℕ, zero, suc, Bool, true, cond, ◌&&◌}
use Rattle.std.proofs.Math.Option.{Option, none, some}

-- a word of our own: every number below n passes
abbrev pub all_below : ℕ → (ℕ → Bool) → Bool
all_below zero p = true
all_below (suc n) p = all_below n p && p n

-- a word of our own: the first of two that is there
abbrev pub or_else : Option ℕ → Option ℕ → Option ℕ
or_else none other = other
or_else (some i) other = some i

-- a word of our own: the first number below n that passes
abbrev pub first_below : ℕ → (ℕ → Bool) → Option ℕ
first_below zero p = none
first_below (suc n) p = or_else (first_below n p) (cond (p n) (some n) none)
