-- M-100: texts with a sign and without, worked by hand, evaluated by the definition.
use Rattle.std.specs.Prelude.{◌≡◌, ℕ, List, [], ◌∷◌, map, refl, Ok, Err}
use Rattle.laws.specs.Texts.{codes}
use Rattle.decimal.specs.Kinds.{price, quantity, turnover, difference}
use Rattle.decimal.specs.declared.Kind.{Kind}
use Rattle.scan.specs.Read.{read_as, step, walk}
use Rattle.decimal.specs.declared.FieldFault.TheVariants.{Malformed, OutOfRange}
use Rattle.decimal.specs.declared.Held.TheVariants.{Nothing, Units, Below}
use Rattle.scan.specs.Answers.{Number}

-- M-100: a kind and a text; and what the text is
abbrev Case : Type 0
Case = Kind × List ℕ × Number

-- M-100: one minus directly before the first digit, minus zero, the range on both sides of zero; the other kinds have no sign
abbrev pub cases : List Case
cases =
    (difference, codes "  -5 ", Ok (Below 50_000_000))
    ∷ (difference, codes "5", Ok (Units 50_000_000))
    ∷ (difference, codes "-007.5", Ok (Below 75_000_000))
    ∷ (difference, codes "-0", Ok (Units 0))
    ∷ (difference, codes "-0.00", Ok (Units 0))
    ∷ (difference, codes "-0.0000001", Ok (Below 1))
    ∷ (difference, codes "   ", Ok Nothing)
    ∷ (difference, codes "-", Err Malformed)
    ∷ (difference, codes "- 5", Err Malformed)
    ∷ (difference, codes "--5", Err Malformed)
    ∷ (difference, codes "-.5", Err Malformed)
    ∷ (difference, codes "5-", Err Malformed)
    ∷ (difference, codes "5 -", Err Malformed)
    ∷ (difference, codes "5.-5", Err Malformed)
    ∷ (difference, codes "+5", Err Malformed)
    ∷ (difference, codes "-99999999999.9999999", Ok (Below 999_999_999_999_999_999))
    ∷ (difference, codes "-100000000000", Err OutOfRange)
    ∷ (difference, codes "-0.00000000", Err OutOfRange)
    ∷ (difference, codes "-100000000000-", Err Malformed)
    ∷ (price, codes "5", Ok (Units 50_000_000))
    ∷ (price, codes "-5", Err Malformed)
    ∷ (price, codes "-0", Err Malformed)
    ∷ (quantity, codes "-5", Err Malformed)
    ∷ (turnover, codes "-5", Err Malformed)
    ∷ []

pub read_cases : map (λ (c : Case). read_as c.0 c.1) cases ≡ map (λ (c : Case). c.2) cases
unfolding read_as walk step
read_cases = refl
