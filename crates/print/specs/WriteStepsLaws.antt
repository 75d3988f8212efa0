-- The text as the writer's steps lay it out.
use Rattle.std.specs.Prelude.{ℕ, zero, suc, ◌+◌, ◌/◌, ◌%◌, ◌^◌, ◌<◌, ◌≤◌, ◌≡◌, Bool, true, false, List, ◌∷◌, ◌++◌, map, length, set}
use Rattle.std.proofs.Common.{append-nil, zero-add, sub-one, arith}
use Rattle.std.proofs.Math.Nat.{add-sub_cancel_left}
use Rattle.decimal.specs.Denotes.{point, digit_char, pointed, sign}
use Rattle.laws.specs.Powers.{tenth_first}
use Rattle.print.specs.Write.{last_digits, size, digits, text_of}
use Rattle.print.specs.WriteDigitLaws.{last_zero, last_digit}
use Rattle.print.specs.WriteLaws.{chars_length, text_length}
use Rattle.print.specs.WriteSteps.{digits_in, behind_in, front_in}

with_fraction : {fraction fraction' : List ℕ} (whole : ℕ) → fraction ≡ fraction' →
    map digit_char (digits whole) ++ pointed fraction ≡ map digit_char (digits whole) ++ pointed fraction'
with_fraction whole e = rw e

-- a zero at the last place behind the point is needless
pub text_tens : (places n : ℕ) → n % 10 ≡ 0 → text_of (suc places) n ≡ text_of places (n / 10)
unfolding text_of
text_tens places n h =
    rw tenth_first (with_fraction (n / 10 ^ suc places) (last_zero places n h))

-- with no places there is no point
pub text_unpointed : (places n : ℕ) → places ≡ 0 → text_of places n ≡ map digit_char (digits (n / 10 ^ places))
unfolding text_of
text_unpointed zero n p = append-nil _
text_unpointed (suc places) n p = absurd (omega arith)

-- and where the last place has a digit other than zero, all of them stand behind it
pub text_pointed : (places n : ℕ) → 0 < places → 0 < n % 10 →
    text_of places n ≡ map digit_char (digits (n / 10 ^ places)) ++ (point ∷ map digit_char (last_digits places n))
unfolding text_of
text_pointed zero n p h = absurd (omega arith)
text_pointed (suc places) n p h = with_fraction (n / 10 ^ suc places) (last_digit places n h)

-- a text is at least as long as its whole part
pub text_longer : (places n : ℕ) → size (n / 10 ^ places) ≤ length (text_of places n)
text_longer places n = omega (arith, text_length places n)

-- a character in the place of the first digit
pub first_behind : (first n width : ℕ) → 0 < width → set (digits_in n width) 0 first ≡ behind_in first n width
first_behind first n zero h = absurd (omega arith)
first_behind first n (suc width) h = rw sub-one

-- the sign, and all digits behind it
pub front_signed : (minus : Bool) (n count : ℕ) → front_in minus n (length (sign minus) + count) ≡ sign minus ++ digits_in n count
front_signed true n count = rw add-sub_cancel_left
front_signed false n count = rw zero-add

pub front_length : (minus : Bool) (n count : ℕ) → length (sign minus) ≤ count → length (front_in minus n count) ≡ count
front_length true n count h = rw chars_length (omega arith)
front_length false n count h = chars_length count n
