-- 01 "Cases": P14, with amounts worked by hand beside it, evaluated by the definition.
use Rattle.std.specs.Prelude.{ℕ, ◌≡◌, refl, Bool, true, false, List, [], ◌∷◌, map}
use Rattle.laws.specs.Texts.{codes}
use Rattle.decimal.specs.Kinds.{price, quantity, turnover, difference}
use Rattle.print.specs.Write.{written_as, size_in, size, text_of, Written, filled, refused}
use Rattle.decimal.specs.declared.Kind.{Kind}

-- 01 "Cases": a kind, a width, whether below zero, units; and what becomes of the field
abbrev Case : Type 0
Case = Kind × ℕ × Bool × ℕ × Written

-- 01 "Cases": P14 is the first; the others are worked by hand
abbrev pub cases : List Case
cases =
    (price, 17, false, 999_999_999_999_999_999, refused)
    ∷ (price, 18, false, 999_999_999_999_999_999, refused)
    ∷ (price, 19, false, 999_999_999_999_999_999, filled (codes "99999999999.9999999"))
    ∷ (price, 20, false, 1_000_000_000_000_000_000, refused)
    ∷ (price, 17, false, 999_999_999_999_999_900, filled (codes "99999999999.99999"))
    ∷ (price, 17, false, 1_002_500_000, filled (codes "           100.25"))
    ∷ (price, 17, false, 5_000_000, filled (codes "              0.5"))
    ∷ (price, 17, false, 1, filled (codes "        0.0000001"))
    ∷ (price, 17, false, 0, filled (codes "                0"))
    ∷ (price, 2, false, 5_000_000, refused)
    ∷ (price, 0, false, 0, refused)
    ∷ (quantity, 12, false, 999_999_999_999, filled (codes "999999999999"))
    ∷ (quantity, 13, false, 1_000_000_000_000, refused)
    ∷ (quantity, 12, false, 100, filled (codes "         100"))
    ∷ (turnover, 8, false, 1_000, filled (codes "      10"))
    ∷ (turnover, 8, false, 1_010, filled (codes "    10.1"))
    ∷ (turnover, 8, false, 1_001, filled (codes "   10.01"))
    ∷ (price, 17, true, 0, filled (codes "                0"))
    ∷ (price, 17, true, 1, refused)
    ∷ (difference, 17, true, 0, filled (codes "                0"))
    ∷ (difference, 17, true, 5_000_000, filled (codes "             -0.5"))
    ∷ (difference, 17, false, 5_000_000, filled (codes "              0.5"))
    ∷ (difference, 19, true, 999_999_999_999_999_999, refused)
    ∷ (difference, 20, true, 999_999_999_999_999_999, filled (codes "-99999999999.9999999"))
    ∷ (difference, 20, true, 1_000_000_000_000_000_000, refused)
    ∷ (difference, 3, true, 1_000_000_000, refused)
    ∷ (difference, 4, true, 1_000_000_000, filled (codes "-100"))
    ∷ []

pub written_cases : map (λ (c : Case). written_as c.0 c.1 c.2 c.3) cases ≡ map (λ (c : Case). c.4) cases
unfolding text_of size size_in
written_cases = refl
