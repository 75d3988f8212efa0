-- `front_size`: a minus is one character, and no number of 64 bits has more than twenty digits.
use Rattle.std.proofs.Common.{◌<◌, ◌^◌, arith}
use Rattle.print.specs.WriteDigitLaws.{size_least}
use Rattle.print.proofs.text.front_size.Goals as goal

pub overflow_add-result : goal.overflow_add-result
overflow_add-result c =
    let small : c.args.n < 10 ^ 20 = omega arith in
    omega (arith, size_least 20 c.args.n (omega arith) small)
