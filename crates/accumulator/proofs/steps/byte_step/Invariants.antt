use Rattle.std.proofs.Common.{◌≡◌, ◌-◌, ◌≤◌}
use Rattle.accumulator.specs.Accumulator.{bits, bit_steps, byte_step}
use Rattle.accumulator.specs.StepsLaws.{AtTop}
use Rattle.accumulator.proofs.steps.byte_step.Given as goal

abbrev pub invariant-loop-k : goal.invariant-loop-k
invariant-loop-k l =
    (l.k ≤ 8) × AtTop l.byte l.k l.d × (bit_steps l.a (bits (8 - l.k) l.byte) ≡ byte_step l.acc l.byte)
