-- The laws of a cell's meaning.
use Rattle.std.specs.Prelude.{ℕ, ◌+◌, ◌-◌, ◌<◌, ◌≡◌, refl, Bool, true, false, cond, not, eqb, ltb}
use Rattle.std.proofs.lemmas.Bool.{false≢true, eqb-false}
use Rattle.std.proofs.Common.{arith, le-leb, lt-ltb, le-ltb, ne_eqb}
use Rattle.decimal.specs.declared.Held.{Held}
use Rattle.decimal.specs.declared.Held.TheVariants.{Nothing, Units, Below}
use Rattle.layout.specs.Cells.{none, minus, sided, side_in, held_in, Small, cell_of, byte_in}

-- a number that a row with a sign, or one without, may hold: only a sign puts it below zero, and minus zero is zero
abbrev pub MayHold : Bool → Held → Type 0
MayHold signed Nothing = Unit {0}
MayHold signed (Units n) = Unit {0}
MayHold signed (Below n) = (signed ≡ true) × (0 < n)

-- no number is on both sides of zero
pub zero_sided : (below : Bool) → sided below 0 ≡ Units 0
zero_sided true = refl
zero_sided false = refl

pub sided_so : (below : Bool) (n : ℕ) → MayHold true (sided below n)
sided_so false n = tt
sided_so true n = go (eqb n 0) refl
  where
    go : (b : Bool) → eqb n 0 ≡ b → MayHold true (cond (not b) (Below n) (Units n))
    go true e = tt
    go false e = (refl, omega (arith, eqb-false n 0 e))

-- what a cell holds is such a number
pub holds_so : (signed : Bool) (cell : ℕ) → MayHold signed (held_in signed cell)
holds_so signed cell = whole signed (eqb cell none)
  where
    part : (b : Bool) → MayHold true (cond b (Units cell) (sided true (cell - minus)))
    part true = tt
    part false = sided_so true (cell - minus)

    whole : (signed : Bool) (b : Bool) → MayHold signed (cond b Nothing (cond signed (side_in cell) (Units cell)))
    whole signed true = tt
    whole false false = tt
    whole true false = part (ltb cell minus)

-- what was put in a cell is read from it
pub stored_held : (signed : Bool) (held : Held) → MayHold signed held → Small held → held_in signed (cell_of held) ≡ held
stored_held signed Nothing may small = refl
stored_held false (Units n) may small = simp (ne_eqb n none (λ e. omega arith))
stored_held true (Units n) may small = simp (lt-ltb n minus (omega arith), ne_eqb n none (λ e. omega arith))
stored_held false (Below n) may small = absurd (false≢true may.0)
stored_held true (Below n) may small =
    let off : minus + n - minus ≡ n = omega arith in
    simp (ne_eqb (minus + n) none (λ e. omega arith), le-ltb (minus + n) minus (omega arith), off, ne_eqb n 0 (λ e. omega (arith, may.1)))

pub byte_back : (byte : ℕ) → byte < 256 → byte_in byte ≡ byte
byte_back byte h = simp (le-leb byte 255 (omega arith))
