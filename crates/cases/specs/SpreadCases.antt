-- M-100, worked: a spread list beside the contract list of two segments, and others that break one rule each.
use Rattle.std.specs.Prelude.{ℕ, ◌≡◌, refl, true, false, length}
use mathlib.Core.List.{List, [], ◌∷◌, ◌++◌, map, flat_map}
use Rattle.cases.specs.ListCases.{key_of_bytes, entry_of, one_t, one_each, two_of, three_keys}
use Rattle.files.specs.File.{segments_of, letter_at, zero_at, count_at, offset_at, key_from, contracts_before}
use Rattle.pairs.specs.Habits.{pairs}
use Rattle.lookup.specs.Halving.{halved_in}
use Rattle.lookup.specs.Lookup.{lookup}
use Rattle.pairs.specs.NoSpreads.{no_spreads}
use Rattle.contracts.specs.SoundTests.{entry_sound, header_sound_by, key_sound, body_sound}
use Rattle.pairs.specs.SpreadTests.{pairs_listed, spread_header_sound, spreads_sound}

-- 01 "The contract list": D has one contract, T has two
abbrev pub contract_list : List ℕ
contract_list = two_of 68 84 18 57 three_keys

-- M-100: a pair of two keys of one byte throughout
abbrev pub pair_of : ℕ → ℕ → List ℕ
pair_of byte other = key_of_bytes byte ++ key_of_bytes other

-- M-100: a contract with itself, and a pair in both orders
abbrev pub three_pairs : List ℕ
three_pairs = pair_of 65 65 ++ pair_of 32 126 ++ pair_of 126 32

-- M-100: two that are sound, one without pairs, and others that break one rule each: an empty file, letters exchanged, one segment, a
-- hole, a byte too many, pairs that don't ascend, a pair twice, an unlisted half, and halves of the other segment
abbrev pub spread_lists : List (List ℕ)
spread_lists =
    two_of 68 84 18 96 three_pairs ∷ two_of 68 84 18 96 (pair_of 65 65 ++ pair_of 32 32 ++ pair_of 32 126) ∷ no_spreads contract_list ∷ [] ∷
    two_of 84 68 18 96 three_pairs ∷ no_spreads one_t ∷ two_of 68 84 18 97 three_pairs ∷ (two_of 68 84 18 96 three_pairs ++ (65 ∷ [])) ∷
    two_of 68 84 18 96 (pair_of 65 65 ++ pair_of 126 32 ++ pair_of 32 126) ∷
    two_of 68 84 18 96 (pair_of 65 65 ++ pair_of 32 126 ++ pair_of 32 126) ∷
    two_of 68 84 18 96 (pair_of 65 65 ++ pair_of 32 33 ++ pair_of 32 126) ∷
    two_of 68 84 18 96 (pair_of 65 32 ++ pair_of 32 126 ++ pair_of 126 32) ∷
    two_of 68 84 18 96 (pair_of 32 126 ++ pair_of 32 126 ++ pair_of 126 32) ∷ []

pub spreads_checked : map (spreads_sound contract_list) spread_lists ≡ true ∷ true ∷ true ∷ false ∷ false ∷ false ∷ false ∷ false ∷ false ∷ false ∷ false ∷ false ∷ false ∷ []
unfolding segments_of letter_at zero_at count_at offset_at key_from contracts_before halved_in lookup no_spreads entry_sound header_sound_by key_sound body_sound pairs_listed spread_header_sound spreads_sound
spreads_checked = refl

-- the last five pass the short check, which doesn't look at the pairs
pub spread_headers_checked : map (spread_header_sound contract_list) spread_lists ≡ true ∷ true ∷ true ∷ false ∷ false ∷ false ∷ false ∷ false ∷ true ∷ true ∷ true ∷ true ∷ true ∷ []
unfolding segments_of letter_at zero_at count_at offset_at contracts_before no_spreads entry_sound header_sound_by spread_header_sound
spread_headers_checked = refl

-- the segments are the contract list's: one of another letter, and one of two
pub other_segments : map (λ list. spread_header_sound list (no_spreads one_t)) (one_t ∷ (0 ∷ 1 ∷ entry_of 68 1 10 ++ key_of_bytes 65) ∷ contract_list ∷ []) ≡ true ∷ false ∷ false ∷ []
unfolding segments_of letter_at zero_at count_at offset_at contracts_before no_spreads entry_sound header_sound_by spread_header_sound
other_segments = refl

-- M-104: a contract list of the segments D, F and T
abbrev three_segments : List ℕ
three_segments = one_each (68 ∷ 70 ∷ 84 ∷ [])

-- M-104: beside it no pairs, and a pair of F; the letters F and T exchanged
pub three_checked : map (spreads_sound three_segments) (no_spreads three_segments ∷ (0 ∷ 3 ∷ entry_of 68 0 26 ++ entry_of 70 1 26 ++ entry_of 84 0 104 ++ pair_of 70 70) ∷ no_spreads (one_each (68 ∷ 84 ∷ 70 ∷ [])) ∷ []) ≡ true ∷ true ∷ false ∷ []
unfolding segments_of letter_at zero_at count_at offset_at key_from contracts_before halved_in lookup no_spreads entry_sound header_sound_by key_sound body_sound pairs_listed spread_header_sound spreads_sound flat_map
three_checked = refl

-- no spreads is 10 bytes for one segment, 18 for two, 26 for three
pub no_spreads_sizes : map (λ list. length (no_spreads list)) (one_t ∷ contract_list ∷ three_segments ∷ []) ≡ 10 ∷ 18 ∷ 26 ∷ []
unfolding segments_of letter_at no_spreads flat_map
no_spreads_sizes = refl

-- the entry of one segment, with a count of 0, 1,024 and 1,025 pairs
pub counts_checked : map (λ count. entry_sound pairs (0 ∷ 1 ∷ 84 ∷ 0 ∷ count ++ (0 ∷ 0 ∷ 0 ∷ 10 ∷ [])) 0) ((0 ∷ 0 ∷ []) ∷ (4 ∷ 0 ∷ []) ∷ (4 ∷ 1 ∷ []) ∷ []) ≡ true ∷ true ∷ false ∷ []
unfolding segments_of letter_at zero_at count_at offset_at contracts_before entry_sound
counts_checked = refl
