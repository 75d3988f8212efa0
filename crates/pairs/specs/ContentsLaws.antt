-- 16 after start: two spread lists of one size that begin with the same contents pass the short check beside one contract list both
-- or neither, whatever their bodies hold.
use Rattle.std.specs.Prelude.{ℕ, ◌≡◌, List}
use Rattle.files.specs.BelowLaws.{all_same}
use Rattle.contracts.specs.ContentsLaws.{segments_same, letter_same, bodies_unread}
use Rattle.files.specs.File.{segments_of}
use Rattle.pairs.specs.Habits.{pairs}
use Rattle.contracts.specs.Sound.{SameContents}
use Rattle.pairs.specs.SpreadTests.{same_letter, spread_header_sound}

pub spreads_unread : (list spreads other : List ℕ) → SameContents spreads other → spread_header_sound list spreads ≡ spread_header_sound list other
unfolding spread_header_sound
spreads_unread list spreads other same =
    let n : ℕ = segments_of spreads in
    let letters = all_same (same_letter list spreads) (same_letter list other) n (λ i l. rw (letter_same pairs spreads other same i l)) in
    rw (bodies_unread pairs spreads other same, letters, segments_same pairs spreads other same)
