-- The test is the one of the definition, and so is each side.
use Rattle.accumulator.specs.Accumulator.{bit_step}
use Rattle.std.proofs.Common.{eq-eqb, ne_eqb}
use Rattle.accumulator.proofs.steps.bit_step.Goals as goal

pub returns-then-acc-bit : goal.returns-then-acc-bit
unfolding bit_step
returns-then-acc-bit c = simp (eq-eqb _ _ c.if-acc-bit.true) c.wrapping_add_u16-doubled.ensures.value

pub returns-else-acc-bit : goal.returns-else-acc-bit
unfolding bit_step
returns-else-acc-bit c = simp (ne_eqb _ _ c.if-acc-bit.false, c.wrapping_add_u16-doubled.ensures.value)
