-- What a write-off and a listing leave is what is promised.
use Rattle.std.specs.Prelude.{Some, None, Ok, Err}
use Rattle.std.proofs.Common.{ℕ, ◌≤◌, ◌<◌, ◌≡◌, refl, sym, ap, ◌∙◌, List, [], ◌∷◌, ◌++◌, arith, le-leb, length, take, drop}
use borrow.Author.Tests.{lt-leb}
use Rattle.sequence.specs.Runs.{Run, run}
use Rattle.sequence.specs.Gaps.{wanted}
use Rattle.sequence.specs.Changes.{with_runs, without_lowest}
use Rattle.sequence.specs.Answers.{list_answer, write_off_answer, lowest, refused_no_gap, written_off, runs_listed}
use Rattle.sequence.specs.Row.{cells, head, gaps_of, runs_of}
use Rattle.sequence.specs.RowLaid.{laid}
use Rattle.sequence.specs.RowLaws.{length_runs, laid_self, flat_runs}
use Rattle.sequence.specs.Steps.{instead, replaced}
use Rattle.sequence.specs.Promises.{WroteOff, ListedGaps}

none_left : (rs : List Run) → length rs ≡ 0 → (lowest rs ≡ refused_no_gap) × (without_lowest rs ≡ rs)
none_left [] e = (refl, refl)
none_left (r ∷ rs) e = absurd (omega arith)

lowest_left : (rs : List Run) → 0 < length rs → (lowest rs ≡ written_off (run rs 0).first (run rs 0).last) × (without_lowest rs ≡ instead rs 0 [])
lowest_left [] h = absurd (omega arith)
lowest_left (r ∷ rs) h = (refl, refl)

module _ (row : List ℕ) where
  pub no_gap : length row ≡ cells → length (runs_of row) ≡ 0 → WroteOff row None row
  unfolding write_off_answer
  no_gap e n =
      let both = none_left (runs_of row) n in
      let l = length_runs row e in
      record { says = sym both.0; left = sym (ap (λ (rs : List Run). laid row (with_runs (gaps_of row) rs)) both.1 ∙ laid_self row e (omega arith)) }

  pub wrote_off_lem : 0 < length (runs_of row) → WroteOff row (Some (record { first = (run (runs_of row) 0).first; last = (run (runs_of row) 0).last })) (replaced row 0 [])
  unfolding write_off_answer
  wrote_off_lem h =
      let both = lowest_left (runs_of row) h in
      record { says = sym both.0; left = ap (λ (rs : List Run). laid row (with_runs (gaps_of row) rs)) (sym both.1) }

  pub listed_short : (lent : List ℕ) → length lent < wanted (runs_of row) → ListedGaps row lent (Err (record { wanted = wanted (runs_of row) })) lent
  unfolding list_answer runs_listed
  listed_short lent h =
      record { says = simp (lt-leb (wanted (runs_of row)) (length lent) h); left = simp (lt-leb (wanted (runs_of row)) (length lent) h) }

  pub listed_all : (lent : List ℕ) → wanted (runs_of row) ≤ length lent → ListedGaps row lent (Ok (record { highest = (gaps_of row).highest; runs = length (runs_of row) })) (take (wanted (runs_of row)) (drop head row) ++ drop (wanted (runs_of row)) lent)
  unfolding list_answer runs_listed
  listed_all lent h =
      record { says = simp (le-leb (wanted (runs_of row)) (length lent) h); left = simp (le-leb (wanted (runs_of row)) (length lent) h, flat_runs row) }
