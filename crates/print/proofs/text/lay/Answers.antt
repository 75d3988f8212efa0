-- `lay` lays out the sign and the whole part's digits, and where there are places the point and the digits behind it. A field that
-- is too narrow for the whole part, or for all of it, is not written.
-- once the whole part, and its size with the sign, are known: what becomes of the field
use Rattle.std.specs.Prelude.{ℕ, suc, ◌+◌, ◌-◌, ◌/◌, ◌%◌, ◌^◌, ◌≤◌, ◌<◌, ◌≡◌, Bool, List, ◌∷◌, ◌++◌, length, Ok, Err}
use Rattle.std.proofs.Common.{sym, ap, ◌∙◌, append_assoc, arith, length-append}
use Rattle.decimal.specs.Denotes.{point, sign}
use Rattle.print.specs.Write.{size, text_of, signed_text, Wrote, in_field}
use Rattle.print.specs.WriteSteps.{digits_in, behind_in, front_in, whole_in}
use Rattle.print.specs.WriteLaws.{chars_length, narrow, fitting, wrote_refused, wrote_filled}
use Rattle.print.specs.WriteStepsLaws.{text_unpointed, text_pointed, text_longer, front_signed, front_length}
use Rattle.decimal.specs.declared.FieldFault.TheVariants.{OutOfRange}
use Rattle.print.proofs.text.lay.Goals as goal

module _
    (field : List ℕ)
    (minus : Bool)
    (n behind front count : ℕ)
    (before-point : front ≡ n / 10 ^ behind)
    (counted : count ≡ length (sign minus) + size front) where
  abbrev own : List ℕ
  own = signed_text minus behind n

  front-is : front_in minus front count ≡ sign minus ++ digits_in front (size front)
  front-is = rw counted (front_signed minus front (size front))

  front_long : length (front_in minus front count) ≡ count
  front_long = front_length minus front count (omega arith)

  no_room : length field < count → Wrote (in_field (length field) own) field (Err OutOfRange) field
  no_room h =
      wrote_refused field
      (narrow (length field) own (rw length-append (omega (arith, text_longer behind n, ap size before-point))))

  whole-fits : behind ≡ 0 → count ≤ length field → (after : List ℕ) → after ≡ whole_in minus front count (length field) →
      Wrote (in_field (length field) own) field (Ok tt) after
  whole-fits none room after e =
      let unsigned : text_of behind n ≡ digits_in front (size front) = rw before-point (text_unpointed behind n none) in
      let text : own ≡ front_in minus front count = ap (λ (t : List ℕ). sign minus ++ t) unsigned ∙ sym front-is in
      rw text (wrote_filled field (fitting (length field) (front_in minus front count) (rw front_long room)) e)

  module _ (bare : 0 < behind → 0 < n % 10) (some : behind ≡ 0 → ⊥) where
    places : 0 < behind
    places = omega arith

    text : own ≡ front_in minus front count ++ (point ∷ digits_in n behind)
    text =
        let unsigned : text_of behind n ≡ digits_in front (size front) ++ (point ∷ digits_in n behind) =
        rw before-point (text_pointed behind n places (bare places)) in
        ap (λ (t : List ℕ). sign minus ++ t) unsigned ∙ rw (front-is, append_assoc)

    text-long : length own ≡ count + suc behind
    text-long = rw (text, length-append, front_long, chars_length behind n)

    no-room-behind : length field - count ≤ behind → Wrote (in_field (length field) own) field (Err OutOfRange) field
    no-room-behind h = wrote_refused field (narrow (length field) own (omega (arith, text-long)))

    pointed-fits : (at : ℕ) → at + suc behind ≡ length field → count ≤ at → (after : List ℕ) →
        after ≡ whole_in minus front count at ++ behind_in point n (length field - at) →
        Wrote (in_field (length field) own) field (Ok tt) after
    pointed-fits at place room after e =
        let spaces : at - count ≡ length field - length own = omega (arith, text-long) in
        let left : length field - at - 1 ≡ behind = omega arith in
        wrote_filled field (fitting (length field) own (omega (arith, text-long)))
        (e ∙ rw (front_long, append_assoc, spaces, left, ← text))

pub returns-then-width-count : goal.returns-then-width-count
returns-then-width-count c = no_room _ c.args.minus _ _ _ _ c.whole-front.ensures c.front_size-count.ensures c.if-width-count.true

pub returns-then-behind-eq0 : goal.returns-then-behind-eq0
returns-then-behind-eq0 c =
    whole-fits _ c.args.minus _ _ _ _ c.whole-front.ensures c.front_size-count.ensures
    c.if-behind-eq0.true c.if-width-count.false _ c.put_whole.ensures

pub returns-then-width-count-2 : goal.returns-then-width-count-2
returns-then-width-count-2 c =
    no-room-behind _ c.args.minus _ _ _ _ c.whole-front.ensures c.front_size-count.ensures c.requires c.if-behind-eq0.false c.if-width-count-2.true

pub returns : goal.returns
returns c =
    let parts = c.split_at_mut-before.ensures in
    let at = length c.args.field.now - c.args.behind - 1 in
    let room : c.front_size-count.result ≤ at = omega arith in
    let behind : length c.split_at_mut-before.result.1.now ≡ length c.args.field.now - at = omega (arith, parts.back_len) in
    pointed-fits _ c.args.minus _ _ _ _ c.whole-front.ensures c.front_size-count.ensures c.requires
    c.if-behind-eq0.false at (omega arith) room _
    (rw (c.put_whole-2.ensures, c.put_behind.ensures, parts.front_len, behind))
