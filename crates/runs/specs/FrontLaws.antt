-- A call looks at the gap rows of the listed segments alone: at most `most` numbers, from the first on.
use Rattle.std.specs.Prelude.{ℕ, ◌+◌, ◌*◌, ◌≤◌, ◌<◌, ◌≡◌, refl, List, ◌++◌, leb, length, take, drop}
use Rattle.std.proofs.Common.{ap, ap₂, sym, ◌∙◌, subst, ⊎_elim, append_assoc, append-nil, arith, le-leb, length-append, length-take, length-drop, take-append-drop, drop_of_length-le, take_all}
use Rattle.std.proofs.Math.Option.{Option, none, some}
use Rattle.std.proofs.lemmas.List.{take-append-le, drop-append-le}
use Rattle.laws.specs.Order.{order}
use Rattle.files.specs.BelowLaws.{all_same}
use Rattle.files.specs.File.{segments_of}
use Rattle.lookup.specs.Lookup.{segment_of}
use Rattle.pairs.specs.Lists.{Lists}
use Rattle.lookup.specs.LookupLaws.{segment_has}
use Rattle.contracts.specs.Sound.{Header, most_segments}
use Rattle.sequence.specs.RowLaid.{sound_gap_row}
use Rattle.state.specs.Memory.{Lent, lends, gap_row_cells, gap_rows_wanted, gap_row_of, gap_row_in, gap_row_of_letter}
use Rattle.state.specs.MemoryRows.{with_gap_row, gap_rows_sound, with_gap_row_in, with_gap_row_of_letter}
use Rattle.state.specs.State.{state_rules}
use Rattle.copies.specs.Rows.{most}

module _ (a z : List ℕ) (room : most ≤ length a) where
  row_front : (i : ℕ) → i < most_segments → gap_row_of (a ++ z) i ≡ gap_row_of a i
  row_front i h =
      ap (take gap_row_cells) (drop-append-le (gap_row_cells * i) a z (omega arith))
      ∙ take-append-le gap_row_cells (drop (gap_row_cells * i) a) z (simp length-drop (omega arith))

  put_front : (row : List ℕ) (i : ℕ) → i < most_segments → with_gap_row (a ++ z) i row ≡ with_gap_row a i row ++ z
  put_front row i h =
      ap₂ (λ (front behind : List ℕ). front ++ row ++ behind) (take-append-le (gap_row_cells * i) a z (omega arith)) (drop-append-le (gap_row_cells * i + gap_row_cells) a z (omega arith))
      ∙ sym (append_assoc (take (gap_row_cells * i) a ++ row) (drop (gap_row_cells * i + gap_row_cells) a) z)

-- more gap rows behind those that are lent
abbrev pub longer : List ℕ → Lent → Lent
longer z lent = lends lent.lists (lent.rows ++ z) lent.records

module _ (lent : Lent) (z : List ℕ) (room : most ≤ length lent.rows) (header : Header lent.lists.contracts) where
  abbrev lists : Lists
  lists = lent.lists

  abbrev rows : List ℕ
  rows = lent.rows

  few : segments_of lists.contracts ≤ most_segments
  few = header.few_segments

  pub rows_within : gap_rows_wanted lists ≤ length rows
  rows_within = omega (arith, few)

  pub rows_lent : leb (gap_rows_wanted lists) (length (rows ++ z)) ≡ leb (gap_rows_wanted lists) (length rows)
  rows_lent =
      let longer : length (rows ++ z) ≡ length rows + length z = length-append rows z in
      le-leb (gap_rows_wanted lists) (length (rows ++ z)) (omega (arith, few, longer)) ∙ sym (le-leb (gap_rows_wanted lists) (length rows) rows_within)

  pub state_front : state_rules (longer z lent) ≡ state_rules lent
  state_front =
      let sound : gap_rows_sound (segments_of lists.contracts) (rows ++ z) ≡ gap_rows_sound (segments_of lists.contracts) rows =
      all_same (λ i. sound_gap_row (gap_row_of (rows ++ z) i)) (λ i. sound_gap_row (gap_row_of rows i)) (segments_of lists.contracts) (λ i h. ap sound_gap_row (row_front rows z room i (omega (arith, few)))) in
      rw (rows_lent, sound)

  pub letter_front : (letter : ℕ) → gap_row_of_letter lists letter (rows ++ z) ≡ gap_row_of_letter lists letter rows
  letter_front letter = go (segment_of lists.contracts letter) refl
    where
      go : (o : Option ℕ) → segment_of lists.contracts letter ≡ o → gap_row_in (rows ++ z) o ≡ gap_row_in rows o
      go none e = refl
      go (some i) e = row_front rows z room i (omega (arith, few, (segment_has lists.contracts letter i e).0))

  pub with_front : (letter : ℕ) (row : List ℕ) → with_gap_row_of_letter lists letter (rows ++ z) row ≡ with_gap_row_of_letter lists letter rows row ++ z
  with_front letter row = go (segment_of lists.contracts letter) refl
    where
      go : (o : Option ℕ) → segment_of lists.contracts letter ≡ o → with_gap_row_in (rows ++ z) row o ≡ with_gap_row_in rows row o ++ z
      go none e = refl
      go (some i) e = put_front rows z room row i (omega (arith, few, (segment_has lists.contracts letter i e).0))

-- what holds of the front of the rows, whatever stands behind it, holds of all
pub whole : (P : List ℕ → List ℕ → Type 0) → ((a z a' : List ℕ) → most ≤ length a → P a a' → P (a ++ z) (a' ++ z))
    → (rows front : List ℕ) → P (take most rows) front → P rows (front ++ drop most rows)
whole P more rows front p =
    ⊎_elim
    (λ (h : length rows ≤ most).
    let behind : front ≡ front ++ drop most rows = sym (ap (λ (l : List ℕ). front ++ l) (drop_of_length-le rows {i = most} h) ∙ append-nil front) in
    subst (P rows) behind (subst (λ (l : List ℕ). P l front) (take_all most rows h) p))
    (λ (h : most < length rows).
    subst (λ (l : List ℕ). P l (front ++ drop most rows)) (take-append-drop most rows)
    (more (take most rows) (drop most rows) front (simp length-take (omega arith)) p))
    (order (length rows) most)
