-- How long a text is, when a field is filled and when it is refused, and what the writer promises then.
use Rattle.std.specs.Prelude.{ℕ, ◌+◌, ◌/◌, ◌^◌, ◌<◌, ◌≤◌, ◌≡◌, refl, Bool, true, false, List, map, ◌⊎◌, length, cond, ◌==◌, Ok, Err}
use Rattle.std.proofs.Common.{arith, length-append, le-leb}
use Rattle.std.proofs.lemmas.List.{length-replicate, length-map}
use Rattle.std.proofs.lemmas.Bool.{lt-leb}
use Rattle.laws.specs.Refused.{field_no}
use Rattle.laws.specs.Tests.{and_false}
use Rattle.laws.specs.Told.{told}
use Rattle.decimal.specs.Denotes.{digit_char, pointed, below_zero, Denotes, AllSpaces}
use Rattle.print.specs.Write.{last_digits, size, trimmed, text_of, signed_text, Written, filled, refused, spaced, in_field, has_side, written_as, blank_text, NoText, Put, put_number, Wrote}
use Rattle.decimal.specs.declared.Kind.{Kind}
use Rattle.decimal.specs.declared.FieldFault.TheVariants.{Malformed, OutOfRange}
use Rattle.print.specs.WriteDigitLaws.{length_last}

-- the digits at the last k places, as characters
pub chars_length : (k n : ℕ) → length (map digit_char (last_digits k n)) ≡ k
chars_length k n = rw (length-map, length_last)

pub text_length : (places n : ℕ) →
    length (text_of places n) ≡ size (n / 10 ^ places) + length (pointed (trimmed (last_digits places n)))
unfolding text_of
text_length places n = rw (length-append, chars_length)

-- ---- the field is filled, or it is refused

module _ (kind : Kind) (width : ℕ) (below : Bool) (n : ℕ) where
  pub sideless : has_side kind (below_zero below n) ≡ false → written_as kind width below n ≡ refused
  sideless e = rw e

  pub over : kind.most < n → written_as kind width below n ≡ refused
  over h = rw (lt-leb n kind.most h, and_false)

  pub within : has_side kind (below_zero below n) ≡ true → n ≤ kind.most
      → written_as kind width below n ≡ in_field width (signed_text (below_zero below n) kind.places n)
  within e h = rw (e, le-leb n kind.most h)

module _ (width : ℕ) (text : List ℕ) where
  pub narrow : width < length text → in_field width text ≡ refused
  narrow h = rw (lt-leb (length text) width h)

  pub fitting : length text ≤ width → in_field width text ≡ filled (spaced width text)
  fitting h = rw (le-leb (length text) width h)

  pub spaced_length : length text ≤ width → length (spaced width text) ≡ width
  spaced_length h = rw (length-append, length-replicate) (omega arith)

-- a text that fills the width and denotes n on its side of zero, and n is not over the largest
pub record Right (kind : Kind) (width : ℕ) (below : Bool) (n : ℕ) (text : List ℕ) : Type 0 where
  pub full : length text ≡ width
  pub means : Denotes kind text (below_zero below n) n
  pub side : has_side kind (below_zero below n) ≡ true
  pub small : n ≤ kind.most

-- 01, the table's row 12: why a number is refused
abbrev pub Refused : Kind → ℕ → Bool → ℕ → Type 0
Refused kind width below n = (kind.most < n) ⊎ NoText kind width below n

-- ---- the promise

pub wrote_refused : {w : Written} (before : List ℕ) → w ≡ refused → Wrote w before (Err OutOfRange) before
wrote_refused before e = rw e (record { answers = refl; leaves = refl })

pub wrote_filled : {w : Written} {text : List ℕ} (before : List ℕ) {after : List ℕ} → w ≡ filled text → after ≡ text →
    Wrote w before (Ok tt) after
wrote_filled before e filling = rw e (record { answers = refl; leaves = filling })

-- the answer by its number
abbrev put_of : ℕ → Put
put_of n = cond (n == 0) (Ok tt) (cond (n == field_no) (Err Malformed) (Err OutOfRange))

put_back : (r : Put) → put_of (put_number r) ≡ r
put_back (Ok done) = refl
put_back (Err Malformed) = refl
put_back (Err OutOfRange) = refl

pub put_number_apart : (a b : Put) → put_number a ≡ put_number b → a ≡ b
put_number_apart = told put_number put_of put_back

-- ---- none

pub none_spaces : (width : ℕ) → AllSpaces (blank_text width)
none_spaces width = rw length-replicate
