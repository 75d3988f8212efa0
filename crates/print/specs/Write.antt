-- How a number is written: 01 "Numbers in text", the writer. A text is its characters' codes, a digit is its value, 0 to 9.
use Rattle.std.specs.Prelude.{ℕ, zero, suc, ◌-◌, ◌/◌, ◌%◌, ◌^◌, ◌≡◌, Bool, cond, not, ◌&&◌, ◌||◌, List, [], ◌∷◌, ◌++◌, map, leb, ltb, length, replicate, Result, Ok, Err}
use Rattle.laws.specs.Refused.{field_no, range_no}
use Rattle.decimal.specs.Denotes.{space, digit_char, pointed, sign, below_zero, Denotes}
use Rattle.decimal.specs.declared.Kind.{Kind}
use Rattle.decimal.specs.declared.FieldFault.{FieldFault}
use Rattle.decimal.specs.declared.FieldFault.TheVariants.{Malformed, OutOfRange}

-- 01 "Numbers in text": the digits of n at its last k places, the highest place first
abbrev pub last_digits : ℕ → ℕ → List ℕ
last_digits zero n = []
last_digits (suc k) n = n / 10 ^ k % 10 ∷ last_digits k n

-- 01 "Numbers in text": how many digits a number has, with no needless zero in front: one below ten, and from there on one
-- more than its tens have; so many steps are enough
unfoldable pub size_in : ℕ → ℕ → ℕ
size_in zero n = 1
size_in (suc steps) n = let more = suc (size_in steps (n / 10)) in cond (ltb n 10) 1 more

-- 01 "Numbers in text": how many digits a number has, with no needless zero in front
unfoldable pub size : ℕ → ℕ
unfolding size_in
size n = size_in n n

-- 01 "Numbers in text": a number's digits, with no needless zero in front
abbrev pub digits : ℕ → List ℕ
digits n = last_digits (size n) n

-- 01 "Numbers in text": a digit and those kept behind it: a zero with none behind it is needless
abbrev pub kept : ℕ → List ℕ → List ℕ
kept zero [] = []
kept (suc d) [] = suc d ∷ []
kept d (e ∷ es) = d ∷ e ∷ es

-- 01 "Numbers in text": digits with no needless zero at the end
abbrev pub trimmed : List ℕ → List ℕ
trimmed [] = []
trimmed (d ∷ ds) = kept d (trimmed ds)

-- 01 "Numbers in text": the shortest text of n units, with no needless zeros and no point for a whole number
unfoldable pub text_of : ℕ → ℕ → List ℕ
text_of places n = map digit_char (digits (n / 10 ^ places)) ++ pointed (trimmed (last_digits places n))

-- M-100: the same behind its sign: a minus stands directly before the digits
abbrev pub signed_text : Bool → ℕ → ℕ → List ℕ
signed_text minus places n = sign minus ++ text_of places n

-- 01 "Numbers in text": what becomes of a field: the characters that fill it, or a refusal
pub data Written : Type 0 where
  filled : List ℕ → Written
  refused : Written

-- 01, the table's row 12: RANGE
abbrev pub range : ℕ
range = range_no

-- 01 "Numbers in text": spaces in front, up to the width
abbrev pub spaced : ℕ → List ℕ → List ℕ
spaced width text = replicate (width - length text) space ++ text

-- 01, the table's row 12: a text in a field of that width; 12 where it doesn't fit
abbrev pub in_field : ℕ → List ℕ → Written
in_field width text = cond (leb (length text) width) (filled (spaced width text)) refused

-- M-100: whether the kind has numbers on that side of zero
abbrev pub has_side : Kind → Bool → Bool
has_side kind below = not below || kind.signed

-- 01, the table's row 12: so many units of that kind in a field of that width; 12 where they are on a side of zero that the kind
-- has not (M-100), over the largest amount, or their text doesn't fit. M-100: minus zero is written as zero
abbrev pub written_as : Kind → ℕ → Bool → ℕ → Written
written_as kind width below n =
    let minus = below_zero below n in
    cond (has_side kind minus && leb n kind.most) (in_field width (signed_text minus kind.places n)) refused

-- 01 "Numbers in text": "none" is all spaces
abbrev pub blank_text : ℕ → List ℕ
blank_text width = replicate width space

-- 01, the table's row 12, "in the writer also no text fits": no text of that width denotes n units, on their side of zero
abbrev pub NoText : Kind → ℕ → Bool → ℕ → Type 0
NoText kind width below n = (text : List ℕ) → length text ≡ width → Denotes kind text (below_zero below n) n → ⊥

-- 01, the table's row 12: the number of a refusal, 0 where there is none, by what is to be written
abbrev pub refusal : Written → ℕ
refusal (filled text) = 0
refusal refused = range

-- 01, the table's row 12: the writer's answer: the text fills the field, or what is wrong with the number
abbrev pub Put : Type 0
Put = Result (Unit {0}) FieldFault

-- 01, the table's rows 11 and 12: the number of the writer's answer
abbrev pub put_number : Put → ℕ
put_number (Ok done) = 0
put_number (Err Malformed) = field_no
put_number (Err OutOfRange) = range

-- 01 "What may be asked": the field afterwards: a refusal leaves it as it was
abbrev pub field_after : Written → List ℕ → List ℕ
field_after (filled text) field = text
field_after refused field = field

-- 01 "What may be asked": the writer's answer, and the lent field: a refusal leaves it as it was
pub record Wrote (w : Written) (before : List ℕ) (answer : Put) (after : List ℕ) : Type 0 where
  pub answers : put_number answer ≡ refusal w
  pub leaves : after ≡ field_after w before
