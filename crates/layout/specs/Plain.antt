-- A number as a plain one: the value that a host is told and hands in, and that a writer writes a row from. Any amount has one, in
-- range or not: the writer judges it at its row, and makes no cell of it.
use Rattle.std.specs.Prelude.{ℕ, ◌+◌, ◌^◌, ◌-◌, Bool, true, cond, List, [], ◌∷◌, eqb, leb, ltb, get_or, drop}
use Rattle.decimal.specs.declared.Held.{Held}
use Rattle.decimal.specs.declared.Held.TheVariants.{Nothing, Units, Below}
use Rattle.forms.specs.declared.rows.Row.{Row}
use Rattle.forms.specs.declared.rows.Row.TheVariants.{Key, MarketType, Status, Price, Quantity, Turnover, Difference}
use Rattle.layout.specs.Cells.{sided}

-- the host's header: what a value holds for "none"
abbrev pub no_value : ℕ
no_value = 2 ^ 64 - 1

-- the host's header: the minus of a price difference's value is its top bit
abbrev pub minus_value : ℕ
minus_value = 2 ^ 63

-- the host's header: the value of an amount that has none of its own: it is as far out of every kind's range
abbrev pub no_room : ℕ
no_room = no_value - 1

-- the host's header: a number's value is the number of its units, and all ones for none; below zero it has the minus beside them,
-- where the kind has a sign
abbrev pub value_of : Bool → Held → ℕ
value_of signed Nothing = no_value
value_of signed (Units n) = cond signed (cond (ltb n minus_value) n no_room) (cond (eqb n no_value) no_room n)
value_of signed (Below n) = cond (ltb n (minus_value - 1)) (minus_value + n) no_room

-- the host's header: the number that a value stands for; minus zero is zero
abbrev pub held_of : Bool → ℕ → Held
held_of signed value =
    cond (eqb value no_value) Nothing (cond signed (cond (ltb value minus_value) (Units value) (sided true (value - minus_value))) (Units value))

-- the host's header: the letter that a value stands for: its byte; any larger number counts as 0
abbrev pub letter_of : ℕ → ℕ
letter_of value = cond (leb value 255) value 0

-- 01 "The message", M-100: a value as its row sees it: a key's text has none, and minus zero is zero
abbrev pub seen_value : Row → ℕ → ℕ
seen_value (Key width) value = 0
seen_value (MarketType markets) value = letter_of value
seen_value Status value = letter_of value
seen_value (Price width) value = value
seen_value (Quantity width) value = value
seen_value (Turnover width) value = value
seen_value (Difference width) value = value_of true (held_of true value)

-- 01 "The message": values as rows see them, one a row
abbrev pub seen_values : List Row → List ℕ → List ℕ
seen_values [] values = []
seen_values (row ∷ rows) values = seen_value row (get_or values 0 0) ∷ seen_values rows (drop 1 values)
