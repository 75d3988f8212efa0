-- Words of inner contracts only: what a step of the writer promises to the next.
use Rattle.std.specs.Prelude.{ℕ, ◌-◌, ◌%◌, ◌<◌, ◌≡◌, Bool, cond, List, ◌∷◌, map}
use Rattle.decimal.specs.Denotes.{minus_char, digit_char}
use Rattle.print.specs.Write.{last_digits, spaced, text_of}

-- a word of our own: n units of a kind with so many places, as fewer units of a kind with fewer places: the text is the
-- same, and no zero behind its point is needless
pub record Stripped (places n places' n' : ℕ) : Type 0 where
  pub same_text : text_of places' n' ≡ text_of places n
  pub no_zero : 0 < places' → 0 < n' % 10

-- a word of our own: a part of the field, filled whole by the last digits of n
abbrev pub digits_in : ℕ → ℕ → List ℕ
digits_in n width = map digit_char (last_digits width n)

-- a word of our own: a part of the field, filled by a character and digits behind it
abbrev pub behind_in : ℕ → ℕ → ℕ → List ℕ
behind_in first n width = first ∷ digits_in n (width - 1)

-- a word of our own: a part of the field, filled whole by the sign and digits
abbrev pub front_in : Bool → ℕ → ℕ → List ℕ
front_in minus n width = cond minus (behind_in minus_char n width) (digits_in n width)

-- a word of our own: a part of the field, filled by so many characters of the sign and digits, and spaces in front
abbrev pub whole_in : Bool → ℕ → ℕ → ℕ → List ℕ
whole_in minus n count width = spaced width (front_in minus n count)
