-- What may be looked up in a list: the segment of a letter, and the place of a key in its segment.
use Rattle.std.specs.Prelude.{ℕ, List, eqb}
use Rattle.std.proofs.Math.Option.{Option}
use Rattle.files.specs.declared.habit.Habit.{Habit}
use Rattle.std.specs.declared.cmp.Ordering.{Ordering}
use Rattle.files.specs.Below.{first_below}
use Rattle.files.specs.File.{segments_of, letter_at, count_at, key_by}
use Rattle.files.specs.Habits.{contracts}
use Rattle.lookup.specs.Halving.{Halved, halved}
use Rattle.files.specs.Keys.{order_of}

-- 01 "The contract list": the first segment that has a letter (in a sound list it is the only one)
unfoldable pub segment_of : List ℕ → ℕ → Option ℕ
segment_of list letter = first_below (segments_of list) (λ i. eqb (letter_at list i) letter)

-- 01 "The contract list": how a key stands to key k of segment i
abbrev pub stands_to : Habit → List ℕ → ℕ → List ℕ → ℕ → Ordering
stands_to habit list i key k = order_of key (key_by habit list i k)

-- M-102: a key is looked up in segment i by halving, whatever the bodies hold
unfoldable pub lookup : Habit → List ℕ → ℕ → List ℕ → Halved
lookup habit list i key = halved (stands_to habit list i key) (count_at list i)

-- M-102: the place found in a contract list
abbrev pub place_in : List ℕ → ℕ → List ℕ → Option ℕ
place_in list i key = (lookup contracts list i key).place
