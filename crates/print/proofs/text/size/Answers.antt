-- `size` counts the digits by the largest power of ten in the number: zero has one digit, as one has.
use Rattle.std.proofs.Common.{ℕ, ◌≡◌, ◌≤◌, ◌<◌, max, ap, sym, ◌∙◌, ⊎_elim, arith}
use Rattle.std.proofs.Math.Nat.{max-eq_left}
use Rattle.laws.specs.Order.{order}
use Rattle.print.specs.Write.{size}
use Rattle.print.specs.WriteDigitLaws.{size_one, size_power}
use Rattle.print.proofs.text.size.Goals as goal

same : (n m : ℕ) → m ≡ max n 1 → size m ≡ size n
same n m e = ⊎_elim
    (λ (h : 1 ≤ n). ap size (e ∙ max-eq_left h))
    (λ (h : n < 1). size_one m (omega (arith, e)) ∙ sym (size_one n (omega arith)))
    (order 1 n)

pub returns : goal.returns
returns c =
    omega (
      arith,
      same c.args.n c.max.result c.max.ensures,
      size_power c.ilog10.result c.max.result c.ilog10.ensures.power_le c.ilog10.ensures.next_power_gt,
    )
