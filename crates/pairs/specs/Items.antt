-- What is listed, contracts and pairs, each in its house file: 01 "The contract list", M-100.
use Rattle.std.specs.Prelude.{ℕ, List}
use Rattle.files.specs.declared.habit.Habit.{Habit}
use Rattle.files.specs.Habits as habits
use Rattle.pairs.specs.Habits as pair_habits
use Rattle.pairs.specs.Lists.{Lists}
use Rattle.forms.specs.declared.forms.Item.{Item}
use Rattle.forms.specs.declared.forms.Item.TheVariants.{Contract, Pair}

-- 01 "The contract list", M-100: contracts are listed in the one file, pairs in the other
abbrev pub file_of : Item → Lists → List ℕ
file_of Contract lists = lists.contracts
file_of Pair lists = lists.pairs

-- 01 "The contract list", M-100: the habit of that file
abbrev pub habit_of : Item → Habit
habit_of Contract = habits.contracts
habit_of Pair = pair_habits.pairs
