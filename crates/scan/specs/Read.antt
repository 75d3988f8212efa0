-- How a number in text is read, a character at a time: 01 "Numbers in text".
use Rattle.std.specs.Prelude.{ℕ, ◌+◌, ◌-◌, ◌*◌, ◌^◌, Bool, true, false, cond, not, List, [], ◌∷◌, ◌==◌, nat_le, Ok, Err}
use Rattle.decimal.specs.Denotes.{space, point, minus_char, digit_char, below_zero}
use Rattle.decimal.specs.declared.Kind.{Kind}
use Rattle.decimal.specs.declared.FieldFault.TheVariants.{Malformed, OutOfRange}
use Rattle.decimal.specs.declared.Held.{Held}
use Rattle.decimal.specs.declared.Held.TheVariants.{Nothing, Units, Below}
use Rattle.scan.specs.Answers.{Number}

-- 01 "Numbers in text": what was read so far. An amount counts the place of the last digit read; before it stands whether a minus
-- did (M-100), behind it how many digits follow the point
pub data State : Type 0 where
  -- nothing but spaces
  Before : State
  -- a minus
  Minus : State
  -- digits
  Whole : Bool → ℕ → State
  -- a point behind digits
  Pointed : Bool → ℕ → State
  -- digits behind the point
  Fraction : Bool → ℕ → ℕ → State
  -- spaces behind the last digit
  Behind : Bool → ℕ → ℕ → State
  -- what no number begins with
  Bad : State

-- 01 "Numbers in text": the characters '0' to '9'
abbrev pub is_digit : ℕ → Bool
is_digit c = cond (nat_le (digit_char 0) c) (nat_le c (digit_char 9)) false

-- 01 "Numbers in text": spaces stand before the first digit, there before its minus (M-100), and behind the last
abbrev pub on_space : State → State
on_space Before = Before
on_space Minus = Bad
on_space (Whole minus n) = Behind minus n 0
on_space (Pointed minus n) = Bad
on_space (Fraction minus n k) = Behind minus n k
on_space (Behind minus n k) = Behind minus n k
on_space Bad = Bad

-- M-100: one minus stands before the first digit, where the kind has a sign
abbrev pub on_minus : Kind → State → State
on_minus kind Before = cond kind.signed Minus Bad
on_minus kind Minus = Bad
on_minus kind (Whole minus n) = Bad
on_minus kind (Pointed minus n) = Bad
on_minus kind (Fraction minus n k) = Bad
on_minus kind (Behind minus n k) = Bad
on_minus kind Bad = Bad

-- 01 "Numbers in text": a point stands behind the whole part, where the kind has places behind one
abbrev pub on_point : Kind → State → State
on_point kind Before = Bad
on_point kind Minus = Bad
on_point kind (Whole minus n) = cond (not (kind.places == 0)) (Pointed minus n) Bad
on_point kind (Pointed minus n) = Bad
on_point kind (Fraction minus n k) = Bad
on_point kind (Behind minus n k) = Bad
on_point kind Bad = Bad

-- 01 "Numbers in text": a digit begins the whole part or the fraction, or is one more of it
abbrev pub on_digit : State → ℕ → State
on_digit Before d = Whole false d
on_digit Minus d = Whole true d
on_digit (Whole minus n) d = Whole minus (n * 10 + d)
on_digit (Pointed minus n) d = Fraction minus (n * 10 + d) 1
on_digit (Fraction minus n k) d = Fraction minus (n * 10 + d) (k + 1)
on_digit (Behind minus n k) d = Bad
on_digit Bad d = Bad

-- 01 "Numbers in text": one character more: by the character first, then by what was read before it
unfoldable pub step : Kind → State → ℕ → State
step kind s c =
    cond (c == space) (on_space s)
    (cond (c == minus_char) (on_minus kind s)
    (cond (c == point) (on_point kind s) (cond (is_digit c) (on_digit s (c - digit_char 0)) Bad)))

-- 01 "Numbers in text": the characters of a text in turn, from what was read before them
unfoldable pub walk : Kind → State → List ℕ → State
walk kind s [] = s
walk kind s (c ∷ text) = walk kind (step kind s c) text

-- 01, the table's row 12: an amount of the kind's unit, or over the largest
abbrev pub in_range : Kind → ℕ → Number
in_range kind n = cond (nat_le n kind.most) (Ok (Units n)) (Err OutOfRange)

-- 01, the table's row 12: n of the unit of the k-th place behind the point: so many of the kind's unit, or too fine
abbrev pub ranged : Kind → ℕ → ℕ → Number
ranged kind n k = cond (nat_le k kind.places) (in_range kind (n * 10 ^ (kind.places - k))) (Err OutOfRange)

-- M-100: so many units, below zero or not
abbrev pub sided : Bool → ℕ → Held
sided below n = cond below (Below n) (Units n)

-- M-100: what a number is behind a minus, or behind none: an amount is below zero or not, by its sign
abbrev pub behind_sign : Bool → Held → Held
behind_sign minus Nothing = Nothing
behind_sign minus (Units n) = sided (below_zero minus n) n
behind_sign minus (Below n) = Below n

-- M-100: what a text is behind a minus, or behind none
abbrev pub with_sign : Bool → Number → Number
with_sign minus (Ok held) = Ok (behind_sign minus held)
with_sign minus (Err fault) = Err fault

-- 01 "Numbers in text": what the text is, by what was read when it ends
abbrev pub answer : Kind → State → Number
answer kind Before = Ok Nothing
answer kind Minus = Err Malformed
answer kind (Whole minus n) = with_sign minus (ranged kind n 0)
answer kind (Pointed minus n) = Err Malformed
answer kind (Fraction minus n k) = with_sign minus (ranged kind n k)
answer kind (Behind minus n k) = with_sign minus (ranged kind n k)
answer kind Bad = Err Malformed

-- 01 "Numbers in text": what a text is as a number of that kind
unfoldable pub read_as : Kind → List ℕ → Number
read_as kind text = answer kind (walk kind Before text)
