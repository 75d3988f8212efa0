-- Only 15 is told in runs, and only where the gap rows lent are too few.
use Rattle.std.proofs.Common.{ℕ, ◌*◌, ◌≡◌, refl, sym, ap, ◌∙◌, [], arith, get_or, eqb, false}
use Rattle.files.specs.FileLaws.{segments_under}
use Rattle.state.specs.declared.refusal.Refusal.{Refusal}
use Rattle.state.specs.declared.refusal.Refusal.TheVariants.{Size, Packed, Flag, Count, Frame, Code, Trailer, Length, Checksum, Numbering, Field, Range, Contract, Gaps, Memory, List as ListOf, NoGap, State}
use Rattle.state.specs.Refusals.{refusal_numbers}
use Rattle.runs.specs.Wanted.{in_runs, runs_wanted}
use Rattle.runs.specs.WantedLaws.{in_runs_short, in_runs_enough, in_runs_other}
use Rattle.runs.proofs.refusal.in_runs.Goals as goal

-- no other refusal is 15
others : (r : Refusal) → ((cells : ℕ) → r ≡ Memory cells → ⊥) → eqb (get_or (refusal_numbers r) 0 0) 15 ≡ false
others Size h = refl
others Packed h = refl
others Flag h = refl
others Count h = refl
others (Frame message) h = refl
others (Code message) h = refl
others (Trailer message) h = refl
others (Length message) h = refl
others (Checksum message) h = refl
others (Numbering message) h = refl
others (Field message row) h = refl
others (Range message row) h = refl
others (Contract message) h = refl
others (Gaps message) h = refl
others (Memory wanted) h = absurd (h wanted refl)
others ListOf h = refl
others NoGap h = refl
others State h = refl

pub overflow_mul-wanted : goal.overflow_mul-wanted
overflow_mul-wanted c = omega (arith, c.segments-wanted.ensures, segments_under c.args.list.now (λ j. (c.type_inv.list j).fits))

pub returns-then-lent-wanted : goal.returns-then-lent-wanted
returns-then-lent-wanted c =
    let a = c.args in
    let wanted : runs_wanted a.list.now ≡ 66 * c.segments-wanted.result = rw c.segments-wanted.ensures in
    sym
    (ap (λ (r : Refusal). in_runs a.list.now a.lent (refusal_numbers r)) c.in-Memory.is
    ∙ in_runs_short a.list.now a.lent _ [] (omega (arith, wanted, c.if-lent-wanted.true))
    ∙ ap (λ (n : ℕ). refusal_numbers (Memory n)) wanted)

pub returns-else-lent-wanted : goal.returns-else-lent-wanted
returns-else-lent-wanted c =
    let a = c.args in
    let wanted : runs_wanted a.list.now ≡ 66 * c.segments-wanted.result = rw c.segments-wanted.ensures in
    sym (in_runs_enough a.list.now a.lent (refusal_numbers a.refusal) (omega (arith, wanted, c.if-lent-wanted.false)))

pub returns-in_default : goal.returns-in_default
returns-in_default c =
    let a = c.args in
    sym (in_runs_other a.list.now a.lent (refusal_numbers a.refusal) (others a.refusal c.in_default.not-Memory))
