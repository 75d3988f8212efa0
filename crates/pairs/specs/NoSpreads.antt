-- M-100: "no spreads": the spread list without pairs, for the segments of a contract list.
use Rattle.std.specs.Prelude.{ℕ, zero, suc, List, [], ◌∷◌, ◌++◌}
use Rattle.wire.specs.Number.{bytes_of}
use Rattle.files.specs.File.{segments_of, entry_at, letter_at}

-- M-100: the entry of a segment without pairs: letter, zero byte, a count of 0 (2 bytes), offset (4)
abbrev pub empty_entry : ℕ → ℕ → List ℕ
empty_entry letter offset = letter ∷ 0 ∷ 0 ∷ 0 ∷ bytes_of 4 offset

-- M-100: the entries of the segments before segment i: the contract list's letters, and the place where a body would begin
abbrev pub empty_entries : List ℕ → ℕ → List ℕ
empty_entries list zero = []
empty_entries list (suc i) = empty_entries list i ++ empty_entry (letter_at list i) (entry_at (segments_of list))

-- M-100: the number of segments, then each one's entry
unfoldable pub no_spreads : List ℕ → List ℕ
no_spreads list = bytes_of 2 (segments_of list) ++ empty_entries list (segments_of list)
