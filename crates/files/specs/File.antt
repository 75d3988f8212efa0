-- 01 "The contract list": a house file as it is laid out, of any habit. Numbers are big endian, and past the end every byte reads as zero.
use Rattle.std.specs.Prelude.{ℕ, ◌+◌, ◌*◌, min, zero, suc, List, take, drop}
use Rattle.wire.specs.Number.{number_at}
use Rattle.files.specs.declared.habit.Habit.{Habit}
use Rattle.files.specs.Habits.{contracts}

-- a word of our own: what the numbers below n give, added up
abbrev pub sum_below : ℕ → (ℕ → ℕ) → ℕ
sum_below zero f = 0
sum_below (suc n) f = sum_below n f + f n

-- 01 "The contract list": 2 bytes for the number of segments
unfoldable pub segments_of : List ℕ → ℕ
segments_of list = number_at 2 list 0

-- 01 "The contract list": then 8 bytes for each
abbrev pub entry_at : ℕ → ℕ
entry_at i = 2 + 8 * i

-- 01 "The contract list": of a segment's 8 bytes the first is its letter
unfoldable pub letter_at : List ℕ → ℕ → ℕ
letter_at list i = number_at 1 list (entry_at i)

-- 01 "The contract list": then a zero byte
unfoldable pub zero_at : List ℕ → ℕ → ℕ
zero_at list i = number_at 1 list (entry_at i + 1)

-- 01 "The contract list": then the count (2 bytes)
unfoldable pub count_at : List ℕ → ℕ → ℕ
count_at list i = number_at 2 list (entry_at i + 2)

-- 01 "The contract list": then the offset (4)
unfoldable pub offset_at : List ℕ → ℕ → ℕ
offset_at list i = number_at 4 list (entry_at i + 4)

-- 01 "The contract list": a key of so many bytes from a place on, as far as the file goes
unfoldable pub key_from : ℕ → List ℕ → ℕ → List ℕ
key_from size list at = take size (drop at list)

-- 01 "The contract list": key k of segment i stands in its body, behind the k keys before it
abbrev pub key_at : Habit → List ℕ → ℕ → ℕ → ℕ
key_at habit list i k = offset_at list i + habit.key * k

-- 01 "The contract list": key k of segment i
abbrev pub key_by : Habit → List ℕ → ℕ → ℕ → List ℕ
key_by habit list i k = key_from habit.key list (key_at habit list i k)

-- 01 "The contract list": key k of segment i of a contract list
abbrev pub listed_key : List ℕ → ℕ → ℕ → List ℕ
listed_key = key_by contracts

-- 01 "The contract list": the contracts of all segments before segment i; of a spread list, the pairs
unfoldable pub contracts_before : List ℕ → ℕ → ℕ
contracts_before list i = sum_below (min i (segments_of list)) (count_at list)

-- 01 "The contract list": the contracts of all segments; of a spread list, the pairs
abbrev pub contracts_of : List ℕ → ℕ
contracts_of list = contracts_before list (segments_of list)
