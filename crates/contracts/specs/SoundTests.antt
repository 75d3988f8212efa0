-- The tests of a house file, as they compute: `header_exact` (HeaderLaws) and `sound_exact` (SoundLaws) say that they hold exactly
-- where the rules of `Sound` do.
use Rattle.std.specs.Prelude.{ℕ, zero, suc, ◌+◌, ◌*◌, Bool, true, false, ◌&&◌, ◌||◌, List, leb, ltb, eqb, length}
use Rattle.wire.specs.Bytes.{all_printable}
use Rattle.files.specs.declared.habit.Habit.{Habit}
use Rattle.std.specs.declared.cmp.Ordering.{Ordering}
use Rattle.std.specs.declared.cmp.Ordering.TheVariants.{Less, Equal, Greater}
use Rattle.files.specs.Below.{all_below}
use Rattle.files.specs.File.{segments_of, entry_at, letter_at, zero_at, count_at, offset_at, key_by, contracts_before}
use Rattle.files.specs.Habits.{contracts}
use Rattle.files.specs.Keys.{order_of}
use Rattle.contracts.specs.Sound.{letter_d, letter_f, letter_t, most_segments}

-- a word of our own: n is not under `low` and not above `high`
abbrev pub within : ℕ → ℕ → ℕ → Bool
within low high n = leb low n && leb n high

-- 01 "The contract list", M-104: letters are D, F or T
abbrev pub is_letter : ℕ → Bool
is_letter letter = eqb letter letter_d || eqb letter letter_f || eqb letter letter_t

-- 01 "The contract list": each letter but the first stands above the one before it
abbrev pub letter_ascends : List ℕ → ℕ → Bool
letter_ascends list zero = true
letter_ascends list (suc i) = ltb (letter_at list i) (letter_at list (suc i))

-- 01 "The contract list": where the body of segment i begins, with no hole behind the contents and the bodies before it
abbrev pub body_at : Habit → List ℕ → ℕ → ℕ
body_at habit list i = entry_at (segments_of list) + habit.key * contracts_before list i

-- 01 "The contract list": letter, zero byte, count and offset of segment i
unfoldable pub entry_sound : Habit → List ℕ → ℕ → Bool
entry_sound habit list i =
    is_letter (letter_at list i) && letter_ascends list i && eqb (zero_at list i) 0 && within habit.fewest habit.most (count_at list i) && eqb (offset_at list i) (body_at habit list i)

-- 01 "The contract list": strictly ascending, so that the same is not below
abbrev pub is_below : Ordering → Bool
is_below Less = true
is_below Equal = false
is_below Greater = false

-- 01 "The contract list": each key but the first of its segment stands above the one before it
abbrev pub key_ascends : Habit → List ℕ → ℕ → ℕ → Bool
key_ascends habit list i zero = true
key_ascends habit list i (suc k) = is_below (order_of (key_by habit list i k) (key_by habit list i (suc k)))

-- 01 "The contract list": key k of segment i
unfoldable pub key_sound : Habit → List ℕ → ℕ → ℕ → Bool
key_sound habit list i k = all_printable (key_by habit list i k) && key_ascends habit list i k

-- 01 "The contract list": every key of segment i
unfoldable pub body_sound : Habit → List ℕ → ℕ → Bool
body_sound habit list i = all_below (count_at list i) (key_sound habit list i)

-- 01, the table's row 16, of calls after start: true exactly when `HeaderBy` holds
unfoldable pub header_sound_by : Habit → List ℕ → Bool
header_sound_by habit list =
    within 1 most_segments (segments_of list) && (all_below (segments_of list) (entry_sound habit list) && eqb (length list) (body_at habit list (segments_of list)))

-- 01, the table's row 16, of start: true exactly when `SoundBy` holds
unfoldable pub sound_by : Habit → List ℕ → Bool
sound_by habit list = header_sound_by habit list && all_below (segments_of list) (body_sound habit list)

-- 01, the table's row 16, of calls after start: a contract list
abbrev pub header_sound : List ℕ → Bool
header_sound = header_sound_by contracts

-- 01, the table's row 16, of start: a contract list
abbrev pub sound : List ℕ → Bool
sound = sound_by contracts
