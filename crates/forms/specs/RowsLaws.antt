-- Laws of rows, whatever the form.
use Rattle.std.specs.Prelude.{ℕ, zero, suc, ◌+◌, ◌<◌, ◌≡◌, List, [], ◌∷◌, length, get_or, take}
use Rattle.std.proofs.Common.{arith}
use Rattle.forms.specs.declared.rows.Row.{Row}
use Rattle.forms.specs.declared.rows.Row.TheVariants.{Key}
use Rattle.forms.specs.Rows.{total}

-- one row more
pub total_suc : (each : Row → ℕ) (rows : List Row) (i : ℕ) → i < length rows
    → total each (take (suc i) rows) ≡ total each (take i rows) + each (get_or rows i (Key 0))
total_suc each [] i h = absurd (omega arith)
total_suc each (row ∷ rows) zero h = omega arith
total_suc each (row ∷ rows) (suc i) h = omega (arith, total_suc each rows i (omega arith))
