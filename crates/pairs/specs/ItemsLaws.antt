-- Both house files in one.
use Rattle.std.specs.Prelude.{ℕ, ◌≤◌, ◌<◌, ◌≡◌, refl}
use Rattle.std.proofs.Common.{arith}
use Rattle.files.specs.File.{segments_of}
use Rattle.pairs.specs.Lists.{Lists, Headers, SoundLists}
use Rattle.contracts.specs.Sound.{HeaderBy, SoundBy}
use Rattle.forms.specs.declared.forms.Item.{Item}
use Rattle.forms.specs.declared.forms.Item.TheVariants.{Contract, Pair}
use Rattle.forms.specs.Forms.{key_bytes_of}
use Rattle.pairs.specs.Items.{file_of, habit_of}

-- a key of the file is as long as the key of a message
pub key_size : (item : Item) → (habit_of item).key ≡ key_bytes_of item
key_size Contract = refl
key_size Pair = refl

-- a segment has few keys
pub habit_few : (item : Item) {n : ℕ} → n ≤ (habit_of item).most → n < 65536
habit_few Contract h = omega arith
habit_few Pair h = omega arith

-- what passes the check of start passes that of the calls after it
pub sound_headers : {lists : Lists} → SoundLists lists → Headers lists
sound_headers s = record { contracts_header = s.contracts_sound.header; pairs_header = s.pairs_sound.header }

module _ (lists : Lists) where
  pub header_of : Headers lists → (item : Item) → HeaderBy (habit_of item) (file_of item lists)
  header_of h Contract = h.contracts_header
  header_of h Pair = h.pairs_header.header

  pub segments_of_lem : Headers lists → (item : Item) → segments_of (file_of item lists) ≡ segments_of lists.contracts
  segments_of_lem h Contract = refl
  segments_of_lem h Pair = h.pairs_header.segments_same

  pub sound_of : SoundLists lists → (item : Item) → SoundBy (habit_of item) (file_of item lists)
  sound_of s Contract = s.contracts_sound
  sound_of s Pair = s.pairs_sound.pairs_sound
