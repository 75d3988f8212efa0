-- `put_digits` puts the digits from the last place on: the field as it was up to a place, and behind that the digits of the places
-- passed; what is left is the number without them.
use Rattle.std.specs.Prelude.{ℕ, zero, suc, ◌≤◌, ◌<◌, ◌-◌, ◌/◌, ◌%◌, ◌^◌, ◌≡◌, List, length, set}
use Rattle.std.proofs.Common.{◌∙◌, append-nil, div-one, sub-one, arith}
use Rattle.std.proofs.Math.Nat.{sub_self, sub-zero}
use Rattle.std.proofs.Math.Seq.{take-length}
use Rattle.decimal.specs.Denotes.{digit_char}
use Rattle.laws.specs.Powers.{tenth_last}
use Rattle.laws.specs.Lists.{set_before}
use Rattle.print.specs.WriteSteps.{digits_in}
use Rattle.print.proofs.text.put_digits.Invariants.{filled_from}
use Rattle.print.proofs.text.put_digits.Goals as goal

filled_none : (n : ℕ) (field : List ℕ) → field ≡ filled_from n (length field) field
unfolding filled_from
filled_none n field = rw (sub_self, take-length field, append-nil)

filled_more : (n i : ℕ) (field : List ℕ) → 0 < i → i ≤ length field →
    set (filled_from n i field) (i - 1) (digit_char (n / 10 ^ (length field - i) % 10)) ≡ filled_from n (i - 1) field
unfolding filled_from
filled_more n zero field p h = absurd (omega arith)
filled_more n (suc i) field p h =
    let more : length field - i ≡ suc (length field - suc i) = omega arith in
    rw (sub-one (suc i), more)
    (set_before field (digits_in n (length field - suc i)) i (digit_char (n / 10 ^ (length field - suc i) % 10)) h)

pub loop-i-init : goal.loop-i-init
loop-i-init c = (rw (sub_self, div-one), filled_none c.args.n c.args.field.now)

pub loop-i-preserved : goal.loop-i-preserved
loop-i-preserved c =
    let field = c.args.field.now in
    let i = c.loop-i.i in
    let more : length field - (i - 1) ≡ suc (length field - i) = omega arith in (
      rw (c.loop-i.invariant.0, more, tenth_last),
      rw (c.loop-i.invariant.1, c.loop-i.invariant.0) (filled_more c.args.n i field c.loop-i-test.true (omega arith)),
    )

pub returns : goal.returns
unfolding filled_from
returns c =
    let none : c.loop-i.i ≡ 0 = omega arith in
    c.loop-i.invariant.1 ∙ rw (none, sub-zero)
