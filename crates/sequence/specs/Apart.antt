-- Runs from a number on up to highest that ascend with no two touching, as facts.
use Rattle.std.specs.Prelude.{ℕ, ◌+◌, ◌≤◌, List, [], ◌∷◌}
use Rattle.sequence.specs.Runs.{Run}

-- 01 "Sequence and gaps": runs with no two touching, each a first and a last number, inside start to highest
pub data Apart (highest : ℕ) : ℕ → List Run → Type 0 where
  none : {from : ℕ} → Apart highest from []
  next : {from : ℕ} (r : Run) {rs : List Run} → from ≤ r.first → r.first ≤ r.last → r.last ≤ highest → Apart highest (r.last + 2) rs → Apart highest from (r ∷ rs)
