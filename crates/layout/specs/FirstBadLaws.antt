-- The verdict on rows in turn is that of the first bad row, and there is one such verdict; so that of reading them.
use Rattle.std.specs.Prelude.{ℕ, zero, suc, ◌+◌, ◌≤◌, ◌<◌, ◌≡◌, refl, List, ◌↔◌, length, drop, Ok, Err}
use Rattle.layout.specs.declared.read.BadRow.TheVariants.{Field as FieldAt, Range as RangeAt}
use Rattle.decimal.specs.declared.FieldFault.TheVariants.{Malformed, OutOfRange}
use Rattle.layout.specs.Answers.{RowRead, Verdict}
use Rattle.std.proofs.Common.{ap, ⊎_elim, arith, add-one, below_more, drop-cons, drop-drop}
use Rattle.std.proofs.Math.Seq.{drop-length}
use Rattle.laws.specs.Order.{order}
use Rattle.forms.specs.declared.rows.Row.{Row}
use Rattle.forms.specs.declared.rows.Row.TheVariants.{Key}
use Rattle.forms.specs.Rows.{width_of, offset_of}
use Rattle.forms.specs.RowsLaws.{total_suc}
use Rattle.layout.specs.Read.{row_then, read_rows}
use Rattle.layout.specs.FirstBad.{field, range, row_read, read_refusal, refusal_read, FirstAt, FirstBad}
use Rattle.layout.specs.Says.{row_at}

-- ---- one verdict

module _ (refusal : ℕ → ℕ) (count : ℕ) where
  one_place : {m n i j : ℕ} → 0 < m → 0 < n → FirstAt refusal count m i → FirstAt refusal count n j → i ≡ j
  one_place {m} {n} {i} {j} some_m some_n p q =
      ⊎_elim
      (λ (h : i ≤ j).
      ⊎_elim (λ (k : j ≤ i). let e : i ≡ j = omega arith in e)
      (λ (k : i < j). absurd (omega (arith, p.refused, q.none_before i k)))
      (order j i))
      (λ (h : j < i). absurd (omega (arith, q.refused, p.none_before j h)))
      (order i j)

  pub one_verdict : (v w : Verdict) → FirstBad refusal count v → FirstBad refusal count w → v ≡ w
  one_verdict (Ok good) (Ok other) p q = refl
  one_verdict (Ok good) (Err (FieldAt j)) p q = absurd (omega (arith, p j q.within, q.refused))
  one_verdict (Ok good) (Err (RangeAt j)) p q = absurd (omega (arith, p j q.within, q.refused))
  one_verdict (Err (FieldAt i)) (Ok good) p q = absurd (omega (arith, q i p.within, p.refused))
  one_verdict (Err (FieldAt i)) (Err (FieldAt j)) p q = ap (λ (k : ℕ). Err (FieldAt k)) (one_place (omega arith) (omega arith) p q)
  one_verdict (Err (FieldAt i)) (Err (RangeAt j)) p q = absurd (omega (arith, ap refusal (one_place (omega arith) (omega arith) p q), p.refused, q.refused))
  one_verdict (Err (RangeAt i)) (Ok good) p q = absurd (omega (arith, q i p.within, p.refused))
  one_verdict (Err (RangeAt i)) (Err (FieldAt j)) p q = absurd (omega (arith, ap refusal (one_place (omega arith) (omega arith) p q), p.refused, q.refused))
  one_verdict (Err (RangeAt i)) (Err (RangeAt j)) p q = ap (λ (k : ℕ). Err (RangeAt k)) (one_place (omega arith) (omega arith) p q)

  pub exactly : (v : Verdict) → FirstBad refusal count v → (w : Verdict) → (v ≡ w) ↔ FirstBad refusal count w
  exactly v p w = (λ e. rw e at p, λ q. one_verdict v w p q)

-- ---- the rows in turn

-- what row i does to the verdict on it and the rows behind it
pub data Turn (refusal : ℕ → ℕ) (verdict : ℕ → Verdict) (i : ℕ) : Type 0 where
  passes : refusal i ≡ 0 → verdict i ≡ verdict (suc i) → Turn refusal verdict i
  malforms : refusal i ≡ field → verdict i ≡ Err (FieldAt i) → Turn refusal verdict i
  overflows : refusal i ≡ range → verdict i ≡ Err (RangeAt i) → Turn refusal verdict i

module _ (refusal : ℕ → ℕ) (count : ℕ) (verdict : ℕ → Verdict) (ends : verdict count ≡ Ok tt)
    (turns : (i : ℕ) → i < count → Turn refusal verdict i)
  where
    from_row : (left i : ℕ) → i + left ≡ count → ((k : ℕ) → k < i → refusal k ≡ 0) → FirstBad refusal count (verdict i)
    from_row zero i e before =
        let last : i ≡ count = omega arith in
        rw (last, ends) (λ k h. before k (omega arith))
    from_row (suc left) i e before = go (turns i (omega arith)) (from_row left (suc i) (omega arith))
      where
        go : Turn refusal verdict i → (((k : ℕ) → k < suc i → refusal k ≡ 0) → FirstBad refusal count (verdict (suc i)))
            → FirstBad refusal count (verdict i)
        go (passes none same) later = rw same (later (rw add-one at (below_more (λ (k : ℕ). refusal k ≡ 0) i before none)))
        go (malforms bad here) later = rw here (record { within = omega arith; refused = bad; none_before = before })
        go (overflows bad here) later = rw here (record { within = omega arith; refused = bad; none_before = before })

    pub first_bad : FirstBad refusal count (verdict 0)
    first_bad = from_row count 0 (omega arith) (λ k h. absurd (omega arith))

-- ---- reading

module _ (rows : List Row) (bytes : List ℕ) where
  abbrev from_read : ℕ → Verdict
  from_read i = (read_rows i (drop i rows) (drop (offset_of rows i) bytes)).verdict

  read_turns : (i : ℕ) → i < length rows → Turn (refusal_read rows bytes) from_read i
  read_turns i h = go (row_read rows bytes i) refl
    where
      begins : {answer : RowRead} → row_read rows bytes i ≡ answer
          → from_read i ≡ (row_then answer i (read_rows (suc i) (drop (suc i) rows) (drop (offset_of rows (suc i)) bytes))).verdict
      begins e = rw (from_read, drop-cons rows i (Key 0) h, e, drop-drop (width_of (row_at rows i)) (offset_of rows i) bytes, total_suc width_of rows i h)

      go : (answer : RowRead) → row_read rows bytes i ≡ answer → Turn (refusal_read rows bytes) from_read i
      go (Ok cell) e = passes (ap read_refusal e) (begins e)
      go (Err Malformed) e = malforms (ap read_refusal e) (begins e)
      go (Err OutOfRange) e = overflows (ap read_refusal e) (begins e)

  -- the verdict of reading is that of the first bad row
  pub read_first : FirstBad (refusal_read rows bytes) (length rows) (read_rows 0 rows bytes).verdict
  read_first = first_bad (refusal_read rows bytes) (length rows) from_read (rw (from_read, drop-length rows)) read_turns

  -- and each verdict is given exactly so
  pub read_exactly : (verdict : Verdict) → ((read_rows 0 rows bytes).verdict ≡ verdict) ↔ FirstBad (refusal_read rows bytes) (length rows) verdict
  read_exactly = exactly (refusal_read rows bytes) (length rows) (read_rows 0 rows bytes).verdict read_first
