-- 16 after start: two house files of one size that begin with the same contents pass the short check both or neither, whatever
-- their bodies hold.
use Prim.Native.Nat.{ℕ, zero, suc, ◌+◌, ◌*◌, ◌^◌, ◌≤◌, ◌<◌, min}
use Rattle.std.specs.Prelude.{◌≡◌, refl, List}
use Rattle.std.proofs.Math.Path.{ap}
use Rattle.std.proofs.Common.{ap₂, ◌∙◌, arith}
use Rattle.wire.specs.Number.{number_at}
use Rattle.files.specs.declared.habit.Habit.{Habit}
use Rattle.files.specs.File.{sum_below, segments_of, entry_at, letter_at, zero_at, count_at, offset_at, contracts_before}
use Rattle.files.specs.BelowLaws.{all_same, sum_same}
use Rattle.contracts.specs.Sound.{SameContents}
use Rattle.contracts.specs.SoundTests.{letter_ascends, entry_sound, header_sound_by}

module _ (habit : Habit) (list other : List ℕ) (same : SameContents list other) where
  number_same : (width at : ℕ) → at + width ≤ entry_at (segments_of list) → number_at width list at ≡ number_at width other at
  number_same zero at h = refl
  number_same (suc w) at h =
      ap₂ (λ (b n : ℕ). b * 256 ^ w + n) (same.contents at (omega arith)) (number_same w (at + 1) (omega arith))

  pub segments_same : segments_of list ≡ segments_of other
  unfolding segments_of
  segments_same = number_same 2 0 (omega arith)

  pub letter_same : (i : ℕ) → i < segments_of list → letter_at list i ≡ letter_at other i
  unfolding letter_at
  letter_same i h = number_same 1 (entry_at i) (omega arith)

  zero_same : (i : ℕ) → i < segments_of list → zero_at list i ≡ zero_at other i
  unfolding zero_at
  zero_same i h = number_same 1 (entry_at i + 1) (omega arith)

  count_same : (i : ℕ) → i < segments_of list → count_at list i ≡ count_at other i
  unfolding count_at
  count_same i h = number_same 2 (entry_at i + 2) (omega arith)

  offset_same : (i : ℕ) → i < segments_of list → offset_at list i ≡ offset_at other i
  unfolding offset_at
  offset_same i h = number_same 4 (entry_at i + 4) (omega arith)

  before_same : (i : ℕ) → contracts_before list i ≡ contracts_before other i
  unfolding contracts_before
  before_same i =
      sum_same (count_at list) (count_at other) (min i (segments_of list)) (λ j h. count_same j (omega arith))
      ∙ ap (λ (n : ℕ). sum_below (min i n) (count_at other)) segments_same

  ascends_same : (i : ℕ) → i < segments_of list → letter_ascends list i ≡ letter_ascends other i
  ascends_same zero h = refl
  ascends_same (suc i) h = rw (letter_same i (omega arith), letter_same (suc i) h)

  entry_same : (i : ℕ) → i < segments_of list → entry_sound habit list i ≡ entry_sound habit other i
  unfolding entry_sound
  entry_same i h = rw (letter_same i h, ascends_same i h, zero_same i h, count_same i h, offset_same i h, segments_same, before_same i)

  pub bodies_unread : header_sound_by habit list ≡ header_sound_by habit other
  unfolding header_sound_by
  bodies_unread =
      let n : ℕ = segments_of list in
      let entries = all_same (entry_sound habit list) (entry_sound habit other) n entry_same in
      rw (entries, before_same n, segments_same, same.size)
