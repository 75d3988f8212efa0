-- Laws of lent memory: a gap row put in its place is the only one that changes.
use Rattle.std.specs.Prelude.{ℕ, ◌+◌, ◌-◌, ◌*◌, ◌≤◌, ◌<◌, ◌≡◌, refl, List, ◌++◌, true, length, take, drop}
use Rattle.std.proofs.Common.{ap, ap₂, sym, ◌∙◌, append_assoc, ⊎_elim, arith, length-append, length-drop, take-append-drop, take_at, drop_at, drop-drop, length-take-le}
use Rattle.std.proofs.Math.Option.{Option, none, some}
use Rattle.std.proofs.lemmas.List.{drop-append-le, take-append-le}
use Rattle.std.proofs.Math.Seq.{drop-append-add}
use Rattle.laws.specs.Order.{order, same}
use Rattle.laws.specs.Lists.{part_of_front}
use Rattle.sequence.specs.RowLaid.{sound_gap_row}
use Rattle.state.specs.Memory.{gap_row_cells, gap_row_of, gap_row_in}
use Rattle.state.specs.MemoryRows.{with_gap_row, with_gap_row_in}

-- a row laid behind those before it
pub row_laid : (before d row : List ℕ) (i : ℕ) → length before ≡ gap_row_cells * i
    → with_gap_row (before ++ drop (gap_row_cells * i) d) i row ≡ before ++ row ++ drop (gap_row_cells * i + gap_row_cells) d
row_laid before d row i e =
    let at : ℕ = gap_row_cells * i in
    let l : List ℕ = before ++ drop at d in
    ap₂ (λ (front behind : List ℕ). front ++ row ++ behind) (take_at before (drop at d) at e)
    (sym (drop-drop gap_row_cells at l) ∙ ap (drop gap_row_cells) (drop_at before (drop at d) at e) ∙ drop-drop gap_row_cells at d)

-- the row behind those before it
pub row_behind : (before row rest : List ℕ) (i : ℕ) → length before ≡ gap_row_cells * i → length row ≡ gap_row_cells
    → gap_row_of (before ++ row ++ rest) i ≡ row
row_behind before row rest i e f =
    ap (λ (l : List ℕ). take gap_row_cells (drop (gap_row_cells * i) l)) (append_assoc before row rest)
    ∙ ap (take gap_row_cells) (drop_at before (row ++ rest) (gap_row_cells * i) e)
    ∙ take_at row rest gap_row_cells f

module _ (rows : List ℕ) (i : ℕ) (row : List ℕ) (room : gap_row_cells * i + gap_row_cells ≤ length rows) (wide : length row ≡ gap_row_cells) where
  front : length (take (gap_row_cells * i) rows) ≡ gap_row_cells * i
  front = length-take-le (gap_row_cells * i) rows (omega arith)

  pub length_with : length (with_gap_row rows i row) ≡ length rows
  length_with = simp (length-append, front, wide, length-drop) (omega arith)

  -- the row that was put
  pub row_put : gap_row_of (with_gap_row rows i row) i ≡ row
  row_put = row_behind (take (gap_row_cells * i) rows) row (drop (gap_row_cells * i + gap_row_cells) rows) i front wide

  lower_row : (j : ℕ) → j < i → gap_row_of (with_gap_row rows i row) j ≡ gap_row_of rows j
  lower_row j h =
      let l : List ℕ = take (gap_row_cells * i) rows in
      let rest : List ℕ = row ++ drop (gap_row_cells * i + gap_row_cells) rows in
      let inside : gap_row_cells * j + gap_row_cells ≤ gap_row_cells * i = omega arith in
      let left : length (drop (gap_row_cells * j) l) ≡ gap_row_cells * i - gap_row_cells * j = simp (length-drop, front) in
      ap (λ (k : List ℕ). take gap_row_cells (drop (gap_row_cells * j) k)) (append_assoc l row (drop (gap_row_cells * i + gap_row_cells) rows))
      ∙ ap (take gap_row_cells) (drop-append-le (gap_row_cells * j) l rest (omega (arith, front)))
      ∙ take-append-le gap_row_cells (drop (gap_row_cells * j) l) rest (omega arith)
      ∙ part_of_front (gap_row_cells * j) gap_row_cells (gap_row_cells * i) rows inside

  -- all that stands behind it is as it was
  pub behind_kept : (at : ℕ) → gap_row_cells * i + gap_row_cells ≤ at → drop at (with_gap_row rows i row) ≡ drop at rows
  behind_kept at h =
      let l : List ℕ = take (gap_row_cells * i) rows ++ row in
      let end : ℕ = gap_row_cells * i + gap_row_cells in
      let more : ℕ = at - end in
      let long : length l ≡ end = simp (length-append, front, wide) in
      let there : at ≡ length l + more = omega arith in
      let again : end + more ≡ at = omega arith in
      ap (λ (k : ℕ). drop k (with_gap_row rows i row)) there
      ∙ drop-append-add l (drop end rows) more
      ∙ drop-drop more end rows
      ∙ ap (λ (k : ℕ). drop k rows) again

  higher_row : (j : ℕ) → i < j → gap_row_of (with_gap_row rows i row) j ≡ gap_row_of rows j
  higher_row j h = ap (take gap_row_cells) (behind_kept (gap_row_cells * j) (omega arith))

  -- every other row is as it was
  pub row_kept : (j : ℕ) → (j ≡ i → ⊥) → gap_row_of (with_gap_row rows i row) j ≡ gap_row_of rows j
  row_kept j n =
      ⊎_elim (λ (h : i ≤ j). higher_row j (omega arith)) (λ (h : j < i). lower_row j h) (order i j)

  -- sound rows stay sound where the row that was put is
  pub sound_with : (n : ℕ) → ((j : ℕ) → j < n → sound_gap_row (gap_row_of rows j) ≡ true) → sound_gap_row row ≡ true → (j : ℕ) → j < n
      → sound_gap_row (gap_row_of (with_gap_row rows i row) j) ≡ true
  sound_with n each sound j h =
      ⊎_elim (λ (e : j ≡ i). rw (e, row_put) sound) (λ (d : j ≡ i → ⊥). ap sound_gap_row (row_kept j d) ∙ each j h) (same j i)

-- a segment's gap row, put back as it was
row_back : (rows : List ℕ) (i : ℕ) → with_gap_row rows i (gap_row_of rows i) ≡ rows
row_back rows i =
    let at : ℕ = gap_row_cells * i in
    append_assoc (take at rows) (gap_row_of rows i) (drop (at + gap_row_cells) rows)
    ∙ ap (λ (r : List ℕ). take at rows ++ (gap_row_of rows i ++ r)) (sym (drop-drop gap_row_cells at rows))
    ∙ ap (λ (r : List ℕ). take at rows ++ r) (take-append-drop gap_row_cells (drop at rows))
    ∙ take-append-drop at rows

pub rows_back : (rows : List ℕ) (segment : Option ℕ) → with_gap_row_in rows (gap_row_in rows segment) segment ≡ rows
rows_back rows none = refl
rows_back rows (some i) = row_back rows i
