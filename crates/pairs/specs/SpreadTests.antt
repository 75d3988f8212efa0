-- The tests of a spread list, as they compute: `spread_header_exact` and `spreads_exact` (SpreadLaws) say that they hold exactly where
-- the rules of `Spreads` do.
use Rattle.std.specs.Prelude.{ℕ, Bool, true, false, ◌&&◌, List, eqb}
use Rattle.std.proofs.Math.Option.{Option, none, some}
use Rattle.files.specs.Below.{all_below}
use Rattle.files.specs.File.{segments_of, letter_at, count_at}
use Rattle.pairs.specs.Habits.{pairs}
use Rattle.lookup.specs.Lookup.{place_in}
use Rattle.contracts.specs.SoundTests.{body_sound, header_sound_by}
use Rattle.pairs.specs.Spreads.{pair_at, first_half, second_half}

-- M-100: segment i has the contract list's letter
abbrev pub same_letter : List ℕ → List ℕ → ℕ → Bool
same_letter list spreads i = eqb (letter_at spreads i) (letter_at list i)

-- a word of our own: a lookup gives a place
abbrev pub is_found : Option ℕ → Bool
is_found (some place) = true
is_found none = false

-- M-100: both halves of pair k of segment i are listed for that segment
abbrev pub pair_listed : List ℕ → List ℕ → ℕ → ℕ → Bool
pair_listed list spreads i k =
    is_found (place_in list i (first_half (pair_at spreads i k))) && is_found (place_in list i (second_half (pair_at spreads i k)))

-- M-100: both halves of every pair of segment i
unfoldable pub pairs_listed : List ℕ → List ℕ → ℕ → Bool
pairs_listed list spreads i = all_below (count_at spreads i) (pair_listed list spreads i)

-- M-100, 16 of calls after start: true exactly when `SpreadHeader` holds
unfoldable pub spread_header_sound : List ℕ → List ℕ → Bool
spread_header_sound list spreads =
    header_sound_by pairs spreads && eqb (segments_of spreads) (segments_of list) && all_below (segments_of spreads) (same_letter list spreads)

-- M-100, 16 of start: true exactly when `SoundSpreads` holds, where the contract list is sound
unfoldable pub spreads_sound : List ℕ → List ℕ → Bool
spreads_sound list spreads =
    spread_header_sound list spreads && (all_below (segments_of spreads) (body_sound pairs spreads) && all_below (segments_of spreads) (pairs_listed list spreads))
