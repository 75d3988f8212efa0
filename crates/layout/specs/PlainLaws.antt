-- The laws of a value: what it gives back, and where it is the cell of the same number.
use Rattle.std.specs.Prelude.{ℕ, ◌+◌, ◌-◌, ◌≤◌, ◌<◌, ◌≡◌, refl, Bool, true, false}
use Rattle.std.proofs.lemmas.Bool.{false≢true}
use Rattle.std.proofs.Common.{⊎_elim, arith, lt-ltb, le-ltb, ne_eqb}
use Rattle.laws.specs.Order.{order, same}
use Rattle.decimal.specs.declared.Held.{Held}
use Rattle.decimal.specs.declared.Held.TheVariants.{Nothing, Units, Below}
use Rattle.layout.specs.Cells.{Small, cell_of}
use Rattle.layout.specs.CellsLaws.{MayHold}
use Rattle.layout.specs.Plain.{no_value, minus_value, no_room, value_of, held_of}

-- where the row has no sign, what a value stands for gives the value back
pub value_back_lem : (value : ℕ) → value_of false (held_of false value) ≡ value
value_back_lem value =
    ⊎_elim (λ (h : value ≡ no_value). rw h)
    (λ (h : value ≡ no_value → ⊥). simp (ne_eqb value no_value h))
    (same value no_value)

-- a number's value stands for it, if the number is no amount that no value stands for
pub held_back : (signed : Bool) (held : Held) → MayHold signed held → (value_of signed held ≡ no_room → ⊥) → held_of signed (value_of signed held) ≡ held
held_back signed Nothing may small = refl
held_back false (Units n) may small =
    ⊎_elim (λ (h : n ≡ no_value). absurd (small (rw h)))
    (λ (h : n ≡ no_value → ⊥). simp (ne_eqb n no_value h))
    (same n no_value)
held_back true (Units n) may small =
    ⊎_elim (λ (h : minus_value ≤ n). absurd (small (simp (le-ltb n minus_value h))))
    (λ (h : n < minus_value). simp (lt-ltb n minus_value h, ne_eqb n no_value (λ e. omega arith)))
    (order minus_value n)
held_back false (Below n) may small = absurd (false≢true may.0)
held_back true (Below n) may small =
    ⊎_elim (λ (h : minus_value - 1 ≤ n). absurd (small (simp (le-ltb n (minus_value - 1) h))))
    (λ (h : n < minus_value - 1).
    let off : minus_value + n - minus_value ≡ n = omega arith in
    simp (lt-ltb n (minus_value - 1) h, ne_eqb (minus_value + n) no_value (λ e. omega arith), le-ltb (minus_value + n) minus_value (omega arith), off, ne_eqb n 0 (λ e. omega (arith, may.1))))
    (order (minus_value - 1) n)

-- the value of an amount that is in some kind's range is its cell
pub has_value : (signed : Bool) (held : Held) → Small held → value_of signed held ≡ cell_of held
has_value signed Nothing h = refl
has_value false (Units n) h = simp (ne_eqb n no_value (λ e. omega arith))
has_value true (Units n) h = simp (lt-ltb n minus_value (omega arith))
has_value signed (Below n) h = simp (lt-ltb n (minus_value - 1) (omega arith))
