-- Runs of numbers: 01 "Sequence and gaps".
use Rattle.std.specs.Prelude.{ℕ, zero, suc, ◌+◌, Bool, false, not, cond, ◌&&◌, ◌||◌, List, [], ◌∷◌, leb, get_or}

infix 68 ◌to◌
-- 01 "Sequence and gaps": "runs, each a first and a last number"
pub record Run : Type 0 where
  pub first : ℕ
  pub last : ℕ

-- 01 "Sequence and gaps": a run by its first and its last number
abbrev pub ◌to◌ : ℕ → ℕ → Run
a to b = record { first = a; last = b }

-- a word of our own: a run of a list by its place
abbrev pub run : List Run → ℕ → Run
run rs i = get_or rs i (0 to 0)

-- 01 "Sequence and gaps": a run names the numbers from its first to its last
abbrev pub names : Run → ℕ → Bool
names r k = leb r.first k && leb k r.last

-- 01 "Sequence and gaps": a number is missing where a run names it
abbrev pub missing : List Run → ℕ → Bool
missing [] k = false
missing (r ∷ rs) k = names r k || missing rs k

-- 01 "Sequence and gaps": how many runs a set of numbers makes: as many as it has numbers, below a bound, whose next is not in
-- it
abbrev pub runs_in : (ℕ → Bool) → ℕ → ℕ
runs_in held zero = 0
runs_in held (suc n) = cond (held n && not (held (suc n))) 1 0 + runs_in held n
