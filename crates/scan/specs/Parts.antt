-- Words of inner contracts only: what a part of the walk passes, what the rest of a text makes of it, and no amount above a ceiling.
use Rattle.std.specs.Prelude.{◌≡◌, ℕ, ◌+◌, ◌-◌, ◌*◌, ◌^◌, ◌<◌, ◌≤◌, min, Bool, true, false, cond, not, ◌&&◌, ◌⊎◌, List, ◌++◌, map, length, drop, replicate, ◌==◌, nat_lt, slice_index, Err}
use Rattle.decimal.specs.Denotes.{space, point, digit_char, value, Digits}
use Rattle.decimal.specs.declared.Kind.{Kind}
use Rattle.scan.specs.Answers.{Number}
use Rattle.scan.specs.Read.{State, Before, Minus, Behind, walk, answer, with_sign}
use Rattle.decimal.specs.declared.FieldFault.TheVariants.{Malformed}
use Rattle.scan.specs.declared.text.Walked.{Walked}

-- a word of our own: all amounts from the cell of all ones on are one: over every largest amount
abbrev pub cap : ℕ → ℕ
cap n = min n (2 ^ 64 - 1)

-- a word of our own: the answer whether a number is over the ceiling
pub record TellsOver (n : ℕ) (answer : Bool) : Type 0 where
  pub full : answer ≡ true → 2 ^ 64 ≤ n
  pub room : answer ≡ false → n < 2 ^ 64

-- a word of our own: n, and the digits behind it
abbrev pub followed : ℕ → List ℕ → ℕ
followed n ds = n * 10 ^ length ds + value ds

-- a word of our own: a character that is no space
abbrev pub NoSpace : ℕ → Type 0
NoSpace c = c ≡ space → ⊥

-- a word of our own: a character before '0' or behind '9'
abbrev pub NoDigit : ℕ → Type 0
NoDigit c = (c < digit_char 0) ⊎ (digit_char 9 < c)

-- a word of our own: what a character counts: a digit its value, any other more
pub record CountsAs (c d : ℕ) : Type 0 where
  pub digit : d < 10 → c ≡ digit_char d
  pub other : 9 < d → NoDigit c

-- a word of our own: these characters were passed, from one place to another; where the text goes on there, it is with another
-- sort of character
pub record Passed (Other : ℕ → Type 0) (text chars : List ℕ) (from at : ℕ) : Type 0 where
  pub counted : at ≡ from + length chars
  pub passed : drop from text ≡ chars ++ drop at text
  pub stops : at < length text → Other (slice_index text at)

-- a word of our own: all spaces from a place on were passed
abbrev pub PassedSpaces : List ℕ → ℕ → ℕ → Type 0
PassedSpaces text from at = (k : ℕ) × Passed NoSpace text (replicate k space) from at

-- a word of our own: all digits from a place on were passed, each one more behind the amount, up to the ceiling
pub record PassedDigits (text : List ℕ) (from n : ℕ) (to : Walked) : Type 0 where
  pub digits : List ℕ
  pub are_digits : Digits digits
  pub passed : Passed NoDigit text (map digit_char digits) from to.at
  pub grown : cap to.amount ≡ cap (followed n digits)

-- a word of our own: a point stands at the place, and the kind has one
unfoldable pub point_at : ℕ → List ℕ → ℕ → Bool
point_at places text at = cond (nat_lt at (length text)) (not (places == 0) && slice_index text at == point) false

-- a word of our own: what a text is, by what was read of it and its rest
abbrev pub read_on : Kind → State → List ℕ → Number
read_on kind s rest = answer kind (walk kind s rest)

-- a word of our own: what was read before the first digit, where that may stand: a minus, or nothing but spaces
abbrev pub begun : Bool → State
begun minus = cond minus Minus Before

-- a word of our own: nothing but a digit may stand at the place, after a minus or after none
abbrev pub WantsDigit : Kind → List ℕ → ℕ → Bool → Type 0
WantsDigit kind text at minus = (at < length text → NoDigit (slice_index text at)) → read_on kind (begun minus) (drop at text) ≡ Err Malformed

-- a word of our own: what the text is by its rest from the first digit on, but for the sign: whichever was read before
abbrev pub Unsigned : Kind → List ℕ → ℕ → Number → Type 0
Unsigned kind text first r =
    (minus : Bool) → WantsDigit kind text first minus
    → with_sign minus r ≡ read_on kind (begun minus) (drop first text)

-- a word of our own: what the text is by its rest behind the last digit, but for the sign
abbrev pub UnsignedBehind : Kind → ℕ → ℕ → List ℕ → Number → Type 0
UnsignedBehind kind amount digits rest r =
    (minus : Bool) → with_sign minus r ≡ read_on kind (Behind minus amount digits) rest
