-- M-102, worked: how many keys a lookup compares among a few, and what a batch answers of its lookups.
use Rattle.std.specs.Prelude.{ℕ, zero, suc, ◌+◌, ◌*◌, ◌≡◌, refl, cond, List, [], ◌∷◌, map, ltb, eqb}
use Rattle.std.specs.declared.cmp.Ordering.{Ordering}
use Rattle.std.specs.declared.cmp.Ordering.TheVariants.{Less, Equal, Greater}
use Rattle.lookup.specs.Halving.{halved_in, halved}

-- a word of our own: a row of keys that are 1, 3, 5 and so on; how a number stands to key k of it
abbrev stands_at : ℕ → ℕ → Ordering
stands_at sought k = cond (ltb sought (2 * k + 1)) Less (cond (eqb sought (2 * k + 1)) Equal Greater)

-- a word of our own: the numbers from n on, so many
abbrev from : ℕ → ℕ → List ℕ
from n zero = []
from n (suc more) = n ∷ from (n + 1) more

-- M-102: the keys compared among n of them: with a number below all, with the first, with one between it and the second, and so on
abbrev compared_among : ℕ → List ℕ
compared_among n = map (λ sought. (halved (stands_at sought) n).compared) (from 0 (2 * n + 1))

-- by hand: none, one, two, three, four and seven keys
pub compared_among_lem : map compared_among (0 ∷ 1 ∷ 2 ∷ 3 ∷ 4 ∷ 7 ∷ [])
    ≡ (0 ∷ [])
    ∷ (1 ∷ 1 ∷ 1 ∷ [])
    ∷ (1 ∷ 1 ∷ 2 ∷ 2 ∷ 2 ∷ [])
    ∷ (2 ∷ 2 ∷ 2 ∷ 1 ∷ 2 ∷ 2 ∷ 2 ∷ [])
    ∷ (2 ∷ 2 ∷ 2 ∷ 1 ∷ 2 ∷ 2 ∷ 3 ∷ 3 ∷ 3 ∷ [])
    ∷ (3 ∷ 3 ∷ 3 ∷ 2 ∷ 3 ∷ 3 ∷ 3 ∷ 1 ∷ 3 ∷ 3 ∷ 3 ∷ 2 ∷ 3 ∷ 3 ∷ 3 ∷ [])
    ∷ []
unfolding halved_in
compared_among_lem = refl
