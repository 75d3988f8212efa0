-- The habit of the contract list. A habit is as the code has it: the bytes of a key, and how few and how many keys a segment may have.
use Rattle.files.specs.declared.habit.Habit.{Habit}

-- 01 "The contract list": 39-byte keys, a count of 1 to 4,096
abbrev pub contracts : Habit
contracts = record { key = 39; fewest = 1; most = 4096 }
