-- Laws of the spread list without pairs: its size, what stands in it, and that it is sound.
use Prim.Native.Nat.{ℕ, zero, suc, ◌+◌, ◌*◌, ◌/◌, ◌%◌, ◌^◌, ◌≤◌, ◌<◌}
use Rattle.std.specs.Prelude.{◌≡◌, refl, true, List, length, get_or}
use Rattle.std.proofs.Math.Path.{ap}
use Rattle.std.proofs.Common.{ap₂, subst, sym, ◌∙◌, ⊎_elim, add-zero, mul-suc, add-one, length-append, get_or-append-add}
use native.Mathlib.Omega.{arith}
use Rattle.std.proofs.Math.ListN.{get_or-append}
use Rattle.std.proofs.lemmas.List.Edits.{sets}
use Rattle.laws.specs.Lists.{sets_append}
use Rattle.laws.specs.Order.{order}
use Rattle.wire.specs.Number.{number_at, bytes_of}
use Rattle.files.specs.BelowLaws.{all_pass}
use Rattle.files.specs.File.{segments_of, entry_at, letter_at, zero_at, count_at, offset_at}
use Rattle.pairs.specs.Habits.{pairs}
use Rattle.pairs.specs.NoSpreads.{empty_entry, empty_entries, no_spreads}
use Rattle.contracts.specs.Sound.{Header, HeaderBy, most_segments}
use Rattle.contracts.specs.SoundTests.{body_sound}
use Rattle.pairs.specs.SpreadLaws.{spread_header_exact}
use Rattle.pairs.specs.SpreadTests.{pairs_listed, spread_header_sound, spreads_sound}

-- an entry is stored as its letter, its zero byte, its count and its offset, one behind the other
pub entry_stored : (s : List ℕ) (at letter offset : ℕ) → letter < 256
    → sets (sets (sets (sets s at (bytes_of 1 letter)) (at + 1) (bytes_of 1 0)) (at + 2) (bytes_of 2 0)) (at + 4) (bytes_of 4 offset) ≡ sets s at (empty_entry letter offset)
entry_stored s at letter offset h =
    let byte : letter / 1 % 256 ≡ letter = omega arith in
    let second : at + 1 ≡ suc at = omega arith in
    let third : at + 2 ≡ suc (suc at) = omega arith in
    let fifth : at + 4 ≡ suc (suc (suc (suc at))) = omega arith in
    rw (byte, second, third, fifth)

module _ (list : List ℕ) where
  -- a word of our own: the entry of segment i
  abbrev entry_of : ℕ → List ℕ
  entry_of i = empty_entry (letter_at list i) (entry_at (segments_of list))

  entries_size : (n : ℕ) → length (empty_entries list n) ≡ 8 * n
  entries_size zero = refl
  entries_size (suc n) =
      rw (length-append (empty_entries list n) (entry_of n), entries_size n, mul-suc 8 n)

  -- one entry more is stored
  pub entries_next : (s : List ℕ) (i : ℕ) → sets (sets s 2 (empty_entries list i)) (entry_at i) (entry_of i) ≡ sets s 2 (empty_entries list (i + 1))
  entries_next s i =
      rw (add-one i, sets_append (empty_entries list i) (entry_of i) s 2, entries_size i)

  -- the contents alone
  pub no_spreads_size : length (no_spreads list) ≡ entry_at (segments_of list)
  unfolding no_spreads
  no_spreads_size = rw (length-append (bytes_of 2 (segments_of list)) (empty_entries list (segments_of list)), entries_size (segments_of list))

  entries_byte : (n i j : ℕ) → i < n → j < 8 → get_or (empty_entries list n) (8 * i + j) 0 ≡ get_or (entry_of i) j 0
  entries_byte zero i j h k = absurd (omega arith)
  entries_byte (suc n) i j h k =
      ⊎_elim (λ (l : n ≤ i).
      let last : i ≡ n = omega arith in
      let here : get_or (empty_entries list (suc n)) (8 * n + j) 0 ≡ get_or (entry_of n) j 0 =
      ap (λ (m : ℕ). get_or (empty_entries list (suc n)) (m + j) 0) (sym (entries_size n)) ∙ get_or-append-add (empty_entries list n) (entry_of n) j 0 in
      subst (λ (m : ℕ). get_or (empty_entries list (suc n)) (8 * m + j) 0 ≡ get_or (entry_of m) j 0) (sym last) here)
      (λ (l : i < n).
      get_or-append (empty_entries list n) (entry_of n) 0 (8 * i + j) (omega (arith, entries_size n)) ∙ entries_byte n i j l k)
      (order n i)

  entry_byte : (i j : ℕ) → i < segments_of list → j < 8 → get_or (no_spreads list) (entry_at i + j) 0 ≡ get_or (entry_of i) j 0
  unfolding no_spreads
  entry_byte i j h k =
      let behind : entry_at i + j ≡ 2 + (8 * i + j) = omega arith in
      rw behind (get_or-append-add (bytes_of 2 (segments_of list)) (empty_entries list (segments_of list)) (8 * i + j) 0 ∙ entries_byte (segments_of list) i j h k)

  -- a number of an entry
  entry_number : (width i j : ℕ) → i < segments_of list → j + width ≤ 8 → number_at width (no_spreads list) (entry_at i + j) ≡ number_at width (entry_of i) j
  entry_number zero i j h k = refl
  entry_number (suc w) i j h k =
      let on : entry_at i + j + 1 ≡ entry_at i + (j + 1) = omega arith in
      ap₂ (λ (b n : ℕ). b * 256 ^ w + n) (entry_byte i j h (omega arith)) (ap (number_at w (no_spreads list)) on ∙ entry_number w i (j + 1) h (omega arith))

  module _ (h : Header list) where
    few : segments_of list ≤ most_segments
    few = h.few_segments

    segments_back : segments_of (no_spreads list) ≡ segments_of list
    unfolding segments_of no_spreads
    segments_back = omega (arith, few)

    letter_back : (i : ℕ) → i < segments_of list → letter_at (no_spreads list) i ≡ letter_at list i
    unfolding letter_at
    letter_back i l = ap (number_at 1 (no_spreads list)) (sym (add-zero (entry_at i))) ∙ entry_number 1 i 0 l (omega arith) ∙ omega arith

    zero_back : (i : ℕ) → i < segments_of list → zero_at (no_spreads list) i ≡ 0
    unfolding zero_at
    zero_back i l = entry_number 1 i 1 l (omega arith)

    count_back : (i : ℕ) → i < segments_of list → count_at (no_spreads list) i ≡ 0
    unfolding count_at
    count_back i l = entry_number 2 i 2 l (omega arith)

    offset_back : (i : ℕ) → i < segments_of list → offset_at (no_spreads list) i ≡ entry_at (segments_of list)
    unfolding offset_at
    offset_back i l = entry_number 4 i 4 l (omega arith) ∙ omega (arith, few)

    header_back : HeaderBy pairs (no_spreads list)
    header_back =
        let same : (i : ℕ) → i < segments_of (no_spreads list) → i < segments_of list = λ i l. rw segments_back at l in
        record {
          some_segments = rw segments_back h.some_segments;
          few_segments = rw segments_back h.few_segments;
          letters = λ i l. rw (letter_back i (same i l)) (h.letters i (same i l));
          letters_ascend = λ i l. rw (letter_back i (same i (omega arith)), letter_back (i + 1) (same (i + 1) l)) (h.letters_ascend i (same (i + 1) l));
          zero_bytes = λ i l. zero_back i (same i l);
          enough_keys = λ i l. omega arith;
          few_keys = λ i l. rw (count_back i (same i l)) (omega arith);
          first_body = rw segments_back (offset_back 0 h.some_segments);
          next_body = λ i l. omega (arith, offset_back (i + 1) (same (i + 1) l), offset_back i (same i (omega arith)), count_back i (same i (omega arith)));
          file_ends = λ i l.
              let inside : i < segments_of list = same i (omega arith) in
              omega (arith, no_spreads_size, offset_back i inside, count_back i inside);
        }

    -- 16 after start: no spreads passes where the contract list's header is sound
    pub no_spreads_header : spread_header_sound list (no_spreads list) ≡ true
    no_spreads_header =
        (spread_header_exact list (no_spreads list)).1
        (record { header = header_back; segments_same = segments_back; letters_same = λ i l. letter_back i (rw segments_back at l) })

    -- 16 at start
    pub no_spreads_sound : spreads_sound list (no_spreads list) ≡ true
    unfolding spreads_sound body_sound pairs_listed
    no_spreads_sound =
        let n : ℕ = segments_of (no_spreads list) in
        let none : (i : ℕ) → i < n → count_at (no_spreads list) i ≡ 0 = λ i l. count_back i (rw segments_back at l) in
        rw (
          no_spreads_header,
          all_pass (body_sound pairs (no_spreads list)) n (λ i l. rw (none i l)),
          all_pass (pairs_listed list (no_spreads list)) n (λ i l. rw (none i l)),
        )
