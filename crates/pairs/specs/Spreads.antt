-- M-100: the spread list, "a second house file of the same habit" beside the contract list: what a sound one is, rule by rule.
use Rattle.std.specs.Prelude.{ℕ, ◌<◌, ◌≡◌, List, take, drop}
use Rattle.files.specs.File.{segments_of, letter_at, count_at, key_by, listed_key}
use Rattle.files.specs.Habits.{contracts}
use Rattle.pairs.specs.Habits.{pairs}
use Rattle.contracts.specs.Sound.{HeaderBy, SoundBy}

-- M-100: "after start as little of it is looked at as of that list": the rules for all that stands before the bodies, and for the
-- size
pub record SpreadHeader (list spreads : List ℕ) : Type 0 where
  pub header : HeaderBy pairs spreads
  -- "It names the contract list's segments in their order"
  pub segments_same : segments_of spreads ≡ segments_of list
  pub letters_same : (i : ℕ) → i < segments_of spreads → letter_at spreads i ≡ letter_at list i

-- M-100: pair k of segment i
abbrev pub pair_at : List ℕ → ℕ → ℕ → List ℕ
pair_at = key_by pairs

-- M-100: "The key is two 39-byte contract keys": the first
abbrev pub first_half : List ℕ → List ℕ
first_half pair = take contracts.key pair

-- M-100: "The key is two 39-byte contract keys": the second
abbrev pub second_half : List ℕ → List ℕ
second_half pair = drop contracts.key pair

-- 01 "The contract list": a key is one of segment i
abbrev pub ListedIn : List ℕ → ℕ → List ℕ → Type 0
ListedIn list i key = (j : ℕ) × (j < count_at list i) × (listed_key list i j ≡ key)

-- M-100: the full check of start: the pairs' bytes and their order, and "both halves of each pair must be listed for that segment"
pub record SoundSpreads (list spreads : List ℕ) : Type 0 where
  pub header : SpreadHeader list spreads
  pub pairs_sound : SoundBy pairs spreads
  pub first_listed : (i k : ℕ) → i < segments_of spreads → k < count_at spreads i → ListedIn list i (first_half (pair_at spreads i k))
  pub second_listed : (i k : ℕ) → i < segments_of spreads → k < count_at spreads i → ListedIn list i (second_half (pair_at spreads i k))
