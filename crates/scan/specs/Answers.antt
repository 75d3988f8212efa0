-- What the answers of reading mean: 01 "Numbers in text", and rows 11 and 12 of its table.
use Rattle.std.specs.Prelude.{ℕ, ◌<◌, ◌≤◌, true, false, ◌⊎◌, List, [], ◌∷◌, Result, Ok, Err}
use Rattle.laws.specs.Refused.{field_no, range_no}
use Rattle.decimal.specs.Denotes.{Shape, units, FineEnough, Denotes, AllSpaces}
use Rattle.decimal.specs.declared.Kind.{Kind}
use Rattle.decimal.specs.declared.FieldFault.{FieldFault}
use Rattle.decimal.specs.declared.FieldFault.TheVariants.{Malformed, OutOfRange}
use Rattle.decimal.specs.declared.Held.{Held}
use Rattle.decimal.specs.declared.Held.TheVariants.{Nothing, Units, Below}

-- 01 "Numbers in text": what a text is as a number of a kind: a number, or what is wrong with the text
abbrev pub Number : Type 0
Number = Result Held FieldFault

-- 01, the table's row 12: too fine or too large
abbrev pub Beyond : (kind : Kind) {text : List ℕ} → Shape kind text → Type 0
Beyond kind s = (FineEnough s → ⊥) ⊎ (kind.most < units s)

-- demand 2: what each answer says of the text
abbrev pub Says : Kind → List ℕ → Number → Type 0
Says kind text (Ok Nothing) = AllSpaces text
Says kind text (Ok (Units n)) = Denotes kind text false n × (n ≤ kind.most)
Says kind text (Ok (Below n)) = Denotes kind text true n × (n ≤ kind.most)
Says kind text (Err Malformed) = (AllSpaces text → ⊥) × (Shape kind text → ⊥)
Says kind text (Err OutOfRange) = (s : Shape kind text) × Beyond kind s

-- 01, the table's rows 11 and 12: the number of an answer, 0 where the text is accepted, and the amount; M-100: and 1 where it is
-- below zero
abbrev pub number_numbers : Number → List ℕ
number_numbers (Ok Nothing) = 0 ∷ []
number_numbers (Ok (Units n)) = 0 ∷ n ∷ []
number_numbers (Ok (Below n)) = 0 ∷ n ∷ 1 ∷ []
number_numbers (Err Malformed) = field_no ∷ []
number_numbers (Err OutOfRange) = range_no ∷ []
