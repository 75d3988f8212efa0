-- The sum is that of the counts passed, which fits, since a list has less than 65,536 segments of less than 65,536 contracts each.
use Rattle.std.proofs.Common.{ℕ, ◌<◌, min, ◌≡◌, ap, ◌∙◌, arith, get_or}
use Rattle.files.specs.File.{sum_below, segments_of, count_at, contracts_before}
use Rattle.files.specs.BelowLaws.{sum_under}
use Rattle.files.specs.FileLaws.{segments_under, count_under}
use Rattle.files.proofs.header.contracts_before.Goals as goal

pub overflow_add-sum : goal.overflow_add-sum
overflow_add-sum c =
    let l = c.args.list.now in
    let byte : (j : ℕ) → get_or l j 0 < 256 = λ j. (c.type_inv.list j).fits in
    let sum = sum_under (count_at l) c.loop-i.i 65535 (λ j h. omega (arith, count_under l byte j)) in
    omega (arith, sum, segments_under l byte, count_under l byte c.loop-i.i)

pub returns : goal.returns
unfolding contracts_before
returns c =
    let l = c.args.list.now in
    let all : c.loop-i.i ≡ min c.args.segment (segments_of l) = omega arith in
    c.loop-i.invariant ∙ ap (λ (k : ℕ). sum_below k (count_at l)) all
