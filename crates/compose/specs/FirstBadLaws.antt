-- The verdict of writing rows is that of the first bad row, and there is one such verdict.
use Rattle.std.specs.Prelude.{ℕ, suc, ◌<◌, ◌≡◌, refl, List, ◌↔◌, length, take, drop}
use Rattle.layout.specs.Answers.{Verdict}
use Rattle.std.proofs.Common.{ap, add-zero, add-one, drop-cons, drop-drop, get_or-drop}
use Rattle.std.proofs.Math.Seq.{drop-length}
use Rattle.forms.specs.declared.rows.Row.{Row}
use Rattle.forms.specs.declared.rows.Row.TheVariants.{Key}
use Rattle.forms.specs.Rows.{total}
use Rattle.forms.specs.RowsLaws.{total_suc}
use Rattle.layout.specs.Cells.{key_used}
use Rattle.layout.specs.FirstBad.{FirstBad}
use Rattle.layout.specs.FirstBadLaws.{Turn, passes, malforms, overflows, exactly, first_bad}
use Rattle.layout.specs.Says.{row_at}
use Rattle.compose.specs.Write.{RowText, text, malformed, out_of_range, text_then, write_refusal, write_rows}
use Rattle.compose.specs.FirstBad.{row_written, refusal_written}

module _ (rows : List Row) (key values : List ℕ) where
  abbrev from_written : ℕ → Verdict
  from_written i = (write_rows i (drop i rows) (drop (total key_used (take i rows)) key) (drop i values)).verdict

  write_turns : (i : ℕ) → i < length rows → Turn (refusal_written rows key values) from_written i
  write_turns i h = go (row_written rows key values i) refl
    where
      begins : {t : RowText} → row_written rows key values i ≡ t
          → from_written i ≡ (text_then t i (write_rows (suc i) (drop (suc i) rows) (drop (total key_used (take (suc i) rows)) key) (drop (suc i) values))).verdict
      begins e =
          rw (from_written, drop-cons rows i (Key 0) h, get_or-drop i values 0 0, add-zero i, e, drop-drop 1 i values, add-one i, drop-drop (key_used (row_at rows i)) (total key_used (take i rows)) key, total_suc key_used rows i h)

      go : (t : RowText) → row_written rows key values i ≡ t → Turn (refusal_written rows key values) from_written i
      go (text characters) e = passes (ap write_refusal e) (begins e)
      go malformed e = malforms (ap write_refusal e) (begins e)
      go out_of_range e = overflows (ap write_refusal e) (begins e)

  -- the verdict of writing is that of the first bad row
  pub write_first : FirstBad (refusal_written rows key values) (length rows) (write_rows 0 rows key values).verdict
  write_first = first_bad (refusal_written rows key values) (length rows) from_written (rw (from_written, drop-length rows)) write_turns

  -- and each verdict is given exactly so
  pub write_exactly : (verdict : Verdict) → ((write_rows 0 rows key values).verdict ≡ verdict) ↔ FirstBad (refusal_written rows key values) (length rows) verdict
  write_exactly = exactly (refusal_written rows key values) (length rows) (write_rows 0 rows key values).verdict write_first
