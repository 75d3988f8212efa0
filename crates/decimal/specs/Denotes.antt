-- What a number in text means: 01 "Numbers in text". A text is its characters' codes, a digit is its value, 0 to 9.
use Rattle.std.specs.Prelude.{ℕ, ◌+◌, ◌-◌, ◌*◌, ◌^◌, ◌<◌, ◌≤◌, ◌≡◌, Bool, true, cond, not, ◌&&◌, List, [], ◌∷◌, ◌++◌, map, eqb, length, replicate}
use Rattle.decimal.specs.declared.Kind.{Kind}

-- 01 "Numbers in text": the character of a space
abbrev pub space : ℕ
space = 32

-- 01 "Numbers in text": the character of a point
abbrev pub point : ℕ
point = 46

-- M-100: the character of a minus
abbrev pub minus_char : ℕ
minus_char = 45

-- 01 "Numbers in text": the character of a digit: '0' and so many above it
abbrev pub digit_char : ℕ → ℕ
digit_char d = 48 + d

-- 01 "Numbers in text": the value of digits by place: each counts ten for every digit behind it
abbrev pub value : List ℕ → ℕ
value [] = 0
value (d ∷ ds) = d * 10 ^ length ds + value ds

-- 01 "Numbers in text": each is a decimal digit
abbrev pub Digits : List ℕ → Type 0
Digits [] = Unit {0}
Digits (d ∷ ds) = (d < 10) × Digits ds

-- 01 "Numbers in text": the fraction as it stands in a text: a point and one or more digits, or nothing
abbrev pub pointed : List ℕ → List ℕ
pointed [] = []
pointed (d ∷ ds) = point ∷ map digit_char (d ∷ ds)

-- M-100: the sign as it stands in a text: one minus, or nothing
abbrev pub sign : Bool → List ℕ
sign minus = cond minus (minus_char ∷ []) []

-- M-100: whether so many units are below zero: behind a minus they are, but minus zero is zero
abbrev pub below_zero : Bool → ℕ → Bool
below_zero minus n = minus && not (eqb n 0)

-- 01 "Numbers in text": spaces, one or more digits, optionally a point and one or more digits where the kind has a
-- point, spaces. A kind has a point where it has places behind one. M-100: one minus may stand before the first digit where the
-- kind has a sign.
pub record Shape (kind : Kind) (text : List ℕ) : Type 0 where
  pub before : ℕ
  pub minus : Bool
  pub whole : List ℕ
  pub fraction : List ℕ
  pub behind : ℕ
  pub some_digit : 0 < length whole
  pub whole_digits : Digits whole
  pub fraction_digits : Digits fraction
  pub may_minus : minus ≡ true → kind.signed ≡ true
  pub may_point : 0 < length fraction → 0 < kind.places
  pub laid_out :
      text ≡ replicate before space ++ (sign minus ++ (map digit_char whole ++ (pointed fraction ++ replicate behind space)))

-- 01 "Numbers in text": how many of the kind's unit a text of that shape counts: the places that the fraction leaves out are
-- zeros
abbrev pub units : {kind : Kind} {text : List ℕ} → Shape kind text → ℕ
units {kind} s = value s.whole * 10 ^ kind.places + value s.fraction * 10 ^ (kind.places - length s.fraction)

-- 01 "Numbers in text": no more digits behind the point than the kind has places
abbrev pub FineEnough : {kind : Kind} {text : List ℕ} → Shape kind text → Type 0
FineEnough {kind} s = length s.fraction ≤ kind.places

-- demand 2: this text denotes this many units, below zero or not
pub record Denotes (kind : Kind) (text : List ℕ) (below : Bool) (n : ℕ) : Type 0 where
  pub shape : Shape kind text
  pub fine : FineEnough shape
  pub amount : n ≡ units shape
  pub side : below ≡ below_zero shape.minus n

-- 01 "Numbers in text": all spaces means "none"
abbrev pub AllSpaces : List ℕ → Type 0
AllSpaces text = text ≡ replicate (length text) space
