-- The habit of the spread list.
use Rattle.files.specs.declared.habit.Habit.{Habit}

-- M-100: "The key is two 39-byte contract keys", "with 0 to 1,024 spreads a segment"
abbrev pub pairs : Habit
pairs = record { key = 78; fewest = 0; most = 1024 }
