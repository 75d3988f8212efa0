-- the field as it was up to i, and behind that the digits of the places passed; what is left is the number without them
use Rattle.std.specs.Prelude.{ℕ, ◌-◌, ◌/◌, ◌^◌, ◌≡◌, List, ◌++◌, length, take}
use Rattle.print.specs.WriteSteps.{digits_in}
use Rattle.print.proofs.text.put_digits.Given as goal

-- the field once all places from i on are filled
unfoldable pub filled_from : ℕ → ℕ → List ℕ → List ℕ
filled_from n i field = take i field ++ digits_in n (length field - i)

abbrev pub invariant-loop-i : goal.invariant-loop-i
invariant-loop-i l = (l.left ≡ l.n / 10 ^ (length l.initial.field - l.i)) × (l.field ≡ filled_from l.n l.i l.initial.field)
