-- The kinds of number: 01 "Numbers in text". A kind is as the code has it: how many digits may stand behind the point, of which the
-- last counts the kind's unit, the largest amount of that unit, and whether a minus may stand before the first digit.
use Rattle.std.specs.Prelude.{true, false}
use Rattle.decimal.specs.declared.Kind.{Kind}

-- 01 "Numbers in text": a price counts ten-millionths
abbrev pub price : Kind
price = record { places = 7; most = 999_999_999_999_999_999; signed = false }

-- 01 "Numbers in text": a quantity counts contracts or units, with no point
abbrev pub quantity : Kind
quantity = record { places = 0; most = 999_999_999_999; signed = false }

-- 01 "Numbers in text": turnover counts hundredths
abbrev pub turnover : Kind
turnover = record { places = 2; most = 999_999_999_999_999_999; signed = false }

-- M-100: a price difference: it may carry a minus, and its range is the price's on both sides of zero
abbrev pub difference : Kind
difference = record { places = price.places; most = price.most; signed = true }
