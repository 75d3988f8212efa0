-- A price difference through what it holds, its cell and its value.
use Rattle.std.specs.Prelude.{◌≡◌, refl, Bool, true, false, cond, Option, Some, None}
use Rattle.std.proofs.Common.{arith, ne_eqb}
use Rattle.decimal.specs.Denotes.{below_zero}
use Rattle.decimal.specs.declared.Held.{Held}
use Rattle.decimal.specs.declared.Held.TheVariants.{Nothing, Units, Below}
use Rattle.layout.specs.CellsLaws.{MayHold, sided_so}
use Rattle.quote.specs.NumberLaws.{IsNumber}
use Rattle.amount.specs.declared.difference.Difference.{Difference}
use Rattle.spread.specs.Spread.{difference_of, plain_zero}
use Rattle.spread.specs.Shows.{held_difference}

held_difference_lem : (h : Held) → MayHold true h → held_difference (difference_of h) ≡ h
held_difference_lem Nothing may = refl
held_difference_lem (Units n) may = refl
held_difference_lem (Below n) may = simp (ne_eqb n 0 (λ e. omega (arith, may.1)))

may_difference : (d : Option Difference) → MayHold true (held_difference d)
may_difference None = tt
may_difference (Some amount) = sided_so amount.0 amount.1

difference_held : (d : Option Difference) → difference_of (held_difference d) ≡ plain_zero d
difference_held None = refl
difference_held (Some amount) = go (below_zero amount.0 amount.1)
  where
    go : (below : Bool) → difference_of (cond below (Below amount.1) (Units amount.1)) ≡ Some (record { 0 = below; 1 = amount.1 })
    go true = refl
    go false = refl

pub difference_number : IsNumber true difference_of held_difference plain_zero
difference_number = record { held_of_lem = held_difference_lem; may_hold = may_difference; of_held = difference_held }
