-- 01 "The contract list": what a sound house file is, rule by rule.
use Rattle.std.specs.Prelude.{ℕ, ◌+◌, ◌*◌, ◌≤◌, ◌<◌, ◌≡◌, ◌⊎◌, List, length, get_or}
use Rattle.wire.specs.Bytes.{lowest_byte, highest_byte}
use Rattle.files.specs.declared.habit.Habit.{Habit}
use Rattle.std.specs.declared.cmp.Ordering.TheVariants.{Less}
use Rattle.files.specs.File.{segments_of, entry_at, letter_at, zero_at, count_at, offset_at, key_by}
use Rattle.files.specs.Habits.{contracts}
use Rattle.files.specs.Keys.{order_of}

-- 01 "The contract list", M-104: 1 to 3 segments
abbrev pub most_segments : ℕ
most_segments = 3

-- 01 "The contract list", M-104: letters are D, F or T
abbrev pub letter_d : ℕ
letter_d = 68

-- 01 "The contract list", M-104: letters are D, F or T
abbrev pub letter_f : ℕ
letter_f = 70

-- 01 "The contract list", M-104: letters are D, F or T
abbrev pub letter_t : ℕ
letter_t = 84

-- 01 "The contract list", M-104: what may be a segment's letter
abbrev pub Letter : ℕ → Type 0
Letter letter = (letter ≡ letter_d) ⊎ (letter ≡ letter_f) ⊎ (letter ≡ letter_t)

-- 01, the table's row 16: the short check of the calls after start: the rules for all that stands before the bodies, and for
-- the size
pub record HeaderBy (habit : Habit) (list : List ℕ) : Type 0 where
  pub some_segments : 1 ≤ segments_of list
  pub few_segments : segments_of list ≤ most_segments
  pub letters : (i : ℕ) → i < segments_of list → Letter (letter_at list i)
  pub letters_ascend : (i : ℕ) → i + 1 < segments_of list → letter_at list i < letter_at list (i + 1)
  pub zero_bytes : (i : ℕ) → i < segments_of list → zero_at list i ≡ 0
  -- how many keys a segment may have
  pub enough_keys : (i : ℕ) → i < segments_of list → habit.fewest ≤ count_at list i
  pub few_keys : (i : ℕ) → i < segments_of list → count_at list i ≤ habit.most
  -- contents first, then the bodies without holes, and the file ends with the last
  pub first_body : offset_at list 0 ≡ entry_at (segments_of list)
  pub next_body : (i : ℕ) → i + 1 < segments_of list → offset_at list (i + 1) ≡ offset_at list i + habit.key * count_at list i
  pub file_ends : (i : ℕ) → i + 1 ≡ segments_of list → length list ≡ offset_at list i + habit.key * count_at list i

-- 01, the table's row 16: the short check of a contract list
abbrev pub Header : List ℕ → Type 0
Header = HeaderBy contracts

-- 01, the table's row 16: "after start only its header, counts, offsets and size are looked at": two lists that are the same in
-- these: of one size, and with the same bytes before the bodies
pub record SameContents (list other : List ℕ) : Type 0 where
  pub size : length list ≡ length other
  pub contents : (j : ℕ) → j < entry_at (segments_of list) → get_or list j 0 ≡ get_or other j 0

-- 01, the table's row 16: the full check of start: the keys' bytes, and their order within a segment
pub record SoundBy (habit : Habit) (list : List ℕ) : Type 0 where
  pub header : HeaderBy habit list
  pub key_bytes_lem : (i k b : ℕ) → i < segments_of list → k < count_at list i → b < habit.key
      → (lowest_byte ≤ get_or (key_by habit list i k) b 0) × (get_or (key_by habit list i k) b 0 ≤ highest_byte)
  pub keys_ascend : (i k : ℕ) → i < segments_of list → k + 1 < count_at list i → order_of (key_by habit list i k) (key_by habit list i (k + 1)) ≡ Less

-- 01, the table's row 16: the full check of a contract list
abbrev pub SoundList : List ℕ → Type 0
SoundList = SoundBy contracts
