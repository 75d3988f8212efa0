-- 01 "The contract list", worked: one T contract makes 49 bytes with offset 10; and lists that are not sound.
use Rattle.std.specs.Prelude.{ℕ, ◌+◌, ◌≡◌, refl, true, false, length, replicate}
use mathlib.Core.List.{List, [], ◌∷◌, ◌++◌, map, flat_map}
use Rattle.std.proofs.Math.Option.{none, some}
use Rattle.files.specs.File.{segments_of, entry_at, letter_at, zero_at, count_at, offset_at, key_from, contracts_before}
use Rattle.files.specs.Habits.{contracts}
use Rattle.lookup.specs.Halving.{halved_in, digits}
use Rattle.lookup.specs.Lookup.{segment_of, lookup, place_in}
use Rattle.files.specs.Records.{contract_among}
use Rattle.contracts.specs.SoundTests.{entry_sound, header_sound_by, header_sound, key_sound, body_sound, sound_by, sound}

-- 01 "The contract list": a 39-byte key of one byte throughout
abbrev pub key_of_bytes : ℕ → List ℕ
key_of_bytes byte = replicate contracts.key byte

-- 01 "The contract list": an entry of the contents, for a letter, a count below 256 and an offset below 256
abbrev pub entry_of : ℕ → ℕ → ℕ → List ℕ
entry_of letter count offset = letter ∷ 0 ∷ 0 ∷ count ∷ 0 ∷ 0 ∷ 0 ∷ offset ∷ []

-- 01 "The contract list": one T contract
abbrev pub one_t : List ℕ
one_t = 0 ∷ 1 ∷ entry_of 84 1 10 ++ key_of_bytes 65

-- 01 "The contract list": two segments of one and two contracts, of these letters, offsets and keys
abbrev pub two_of : ℕ → ℕ → ℕ → ℕ → List ℕ → List ℕ
two_of letter other offset next keys = 0 ∷ 2 ∷ entry_of letter 1 offset ++ entry_of other 2 next ++ keys

-- 01 "The contract list": a body of one key and, behind it, one of two that ascend
abbrev pub three_keys : List ℕ
three_keys = key_of_bytes 65 ++ key_of_bytes 32 ++ key_of_bytes 126

-- 01 "The contract list": two that are sound, and others that break one rule each
abbrev pub lists : List (List ℕ)
lists =
    one_t ∷ (one_t ++ (65 ∷ [])) ∷ [] ∷
    two_of 68 84 18 57 three_keys ∷ two_of 84 68 18 57 three_keys ∷ two_of 68 68 18 57 three_keys ∷ two_of 68 80 18 57 three_keys ∷
    two_of 68 84 18 58 three_keys ∷ two_of 68 84 19 58 three_keys ∷
    two_of 68 84 18 57 (key_of_bytes 65 ++ key_of_bytes 66 ++ key_of_bytes 66) ∷
    two_of 68 84 18 57 (key_of_bytes 65 ++ key_of_bytes 31 ++ key_of_bytes 66) ∷
    two_of 68 84 18 57 (key_of_bytes 65 ++ key_of_bytes 66 ++ key_of_bytes 127) ∷ []

-- the last three pass the short check, which doesn't look at the bodies
pub checked : map sound lists ≡ true ∷ false ∷ false ∷ true ∷ false ∷ false ∷ false ∷ false ∷ false ∷ false ∷ false ∷ false ∷ []
unfolding segments_of letter_at zero_at count_at offset_at key_from contracts_before entry_sound header_sound_by key_sound body_sound sound_by
checked = refl

pub header_checked : map header_sound lists ≡ true ∷ false ∷ false ∷ true ∷ false ∷ false ∷ false ∷ false ∷ false ∷ true ∷ true ∷ true ∷ []
unfolding segments_of letter_at zero_at count_at offset_at contracts_before entry_sound header_sound_by
header_checked = refl

-- 01 "The contract list": the entries of a segment for each of these letters, of one contract each; the first body begins at an offset
abbrev entries_from : ℕ → List ℕ → List ℕ
entries_from offset [] = []
entries_from offset (letter ∷ letters) = entry_of letter 1 offset ++ entries_from (offset + contracts.key) letters

-- 01 "The contract list": a segment of one contract for each of these letters, of which its key is made
abbrev pub one_each : List ℕ → List ℕ
one_each letters = 0 ∷ length letters ∷ entries_from (entry_at (length letters)) letters ++ flat_map key_of_bytes letters

-- M-104: D, F and T; F alone, behind D, and before T
pub letters_taken : map (λ letters. sound (one_each letters)) ((68 ∷ 70 ∷ 84 ∷ []) ∷ (70 ∷ []) ∷ (68 ∷ 70 ∷ []) ∷ (70 ∷ 84 ∷ []) ∷ []) ≡ true ∷ true ∷ true ∷ true ∷ []
unfolding segments_of letter_at zero_at count_at offset_at key_from contracts_before entry_sound header_sound_by key_sound body_sound sound_by flat_map
letters_taken = refl

-- M-104: F before D, F twice, D and P, P alone, and four segments: D, F, P and T; D, F, T and T
pub letters_refused : map (λ letters. header_sound (one_each letters)) ((70 ∷ 68 ∷ []) ∷ (70 ∷ 70 ∷ []) ∷ (68 ∷ 80 ∷ []) ∷ (80 ∷ []) ∷ (68 ∷ 70 ∷ 80 ∷ 84 ∷ []) ∷ (68 ∷ 70 ∷ 84 ∷ 84 ∷ []) ∷ [])
    ≡ false ∷ false ∷ false ∷ false ∷ false ∷ false ∷ []
unfolding segments_of letter_at zero_at count_at offset_at contracts_before entry_sound header_sound_by flat_map
letters_refused = refl

pub size_of_one : (length one_t ≡ 49) × (offset_at one_t 0 ≡ 10)
unfolding offset_at
size_of_one = (refl, refl)

-- each key of the sound list of two segments at its place, and a key that isn't there
pub looked_up_lem : place_in one_t 0 (key_of_bytes 65) ∷ map (place_in (two_of 68 84 18 57 three_keys) 1) (key_of_bytes 32 ∷ key_of_bytes 126 ∷ key_of_bytes 65 ∷ []) ≡ some 0 ∷ some 0 ∷ some 1 ∷ none ∷ []
unfolding count_at offset_at key_from halved_in lookup
looked_up_lem = refl

-- the letters of that list, and of its records
pub found_letters : map (segment_of (two_of 68 84 18 57 three_keys)) (68 ∷ 84 ∷ 70 ∷ []) ≡ some 0 ∷ some 1 ∷ none ∷ []
unfolding segments_of letter_at segment_of
found_letters = refl

pub last_record : contract_among (two_of 68 84 18 57 three_keys) 1 1 ≡ 2
unfolding segments_of count_at contracts_before
last_record = refl

-- the binary digits of 0, 1, 2, 3, 4, 1,024 and 4,096
pub some_digits : map digits (0 ∷ 1 ∷ 2 ∷ 3 ∷ 4 ∷ 1024 ∷ 4096 ∷ []) ≡ 0 ∷ 1 ∷ 2 ∷ 2 ∷ 3 ∷ 11 ∷ 13 ∷ []
some_digits = refl
