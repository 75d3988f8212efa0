-- The text of a written number: 01 "Numbers in text", the writer uses the shortest text, spaces in front.
use Rattle.std.specs.Prelude.{ℕ, ◌+◌, ◌≤◌, ◌≡◌, Bool, List, ◌++◌, length, replicate}
use Rattle.decimal.specs.Denotes.{space, pointed, sign, below_zero, Denotes, AllSpaces}
use Rattle.decimal.specs.declared.Kind.{Kind}
use Rattle.decimal.specs.Kinds.{price, quantity, turnover, difference}
use Rattle.forms.specs.declared.rows.Row.{Row}
use Rattle.forms.specs.declared.rows.Row.TheVariants.{Key, MarketType, Status, Price, Quantity, Turnover, Difference}
use Rattle.written.specs.WrittenRefusals.{Value, letter, nothing, amount}

-- 01 "Numbers in text", M-100: spaces, and behind them characters that denote the amount on its side of zero, minus zero being zero;
-- those of every text that denotes it are as many or more, its spaces apart and its minus counted
pub record Shortest (kind : Kind) (minus : Bool) (n : ℕ) (field : List ℕ) : Type 0 where
  pub spaces : ℕ
  pub characters : List ℕ
  pub laid_out : field ≡ replicate spaces space ++ characters
  pub means : Denotes kind field (below_zero minus n) n
  pub no_shorter : (text : List ℕ) (d : Denotes kind text (below_zero minus n) n)
      → length characters ≤ length (sign d.shape.minus) + (length d.shape.whole + length (pointed d.shape.fraction))

-- 01 "Numbers in text": the field of a number: the shortest text, and "none" is all spaces
abbrev pub FieldOf : Kind → Value → List ℕ → Type 0
FieldOf kind (letter byte) field = Unit {0}
FieldOf kind nothing field = AllSpaces field
FieldOf kind (amount minus n) field = Shortest kind minus n field

-- 01 "Numbers in text": the field of a row whose value is a number, by its kind
abbrev pub NumberField : Row → Value → List ℕ → Type 0
NumberField (Key width) value field = Unit {0}
NumberField (MarketType markets) value field = Unit {0}
NumberField Status value field = Unit {0}
NumberField (Price width) value field = FieldOf price value field
NumberField (Quantity width) value field = FieldOf quantity value field
NumberField (Turnover width) value field = FieldOf turnover value field
NumberField (Difference width) value field = FieldOf difference value field
