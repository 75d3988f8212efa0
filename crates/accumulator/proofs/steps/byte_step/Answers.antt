-- The loop's invariant: the byte's bits that are left stand at the top of `d`, and their steps from `a` give the byte's.
use Rattle.std.proofs.Common.{ℕ, ◌+◌, ◌-◌, sym, refl, ap, ◌∙◌, arith}
use Rattle.accumulator.specs.Accumulator.{bits, bit_steps, byte_step}
use Rattle.accumulator.specs.StepsLaws.{doubled_top, one_bit}
use Rattle.accumulator.proofs.steps.byte_step.Goals as goal

pub loop-k-init : goal.loop-k-init
unfolding byte_step
loop-k-init c = (omega arith, omega arith, refl)

pub loop-k-preserved : goal.loop-k-preserved
loop-k-preserved c =
    let at_top = c.loop-k.invariant.1 in
    let byte = c.args.byte in
    let k = c.loop-k.k in
    let d = c.loop-k.d in
    (omega arith, c.wrapping_add_u16-d.ensures.value ∙ doubled_top byte k d (omega arith) at_top, ap (λ (a : ℕ). bit_steps a (bits (8 - (k + 1)) byte)) c.bit_step-a.ensures ∙ sym (one_bit byte k d (omega arith) at_top c.loop-k.a) ∙ c.loop-k.invariant.2)
