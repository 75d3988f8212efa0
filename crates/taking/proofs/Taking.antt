-- What each step of taking a number leaves is what is promised.
use Rattle.std.specs.Prelude.{Some, Result, Ok, Err}
use Prim.Native.Nat.{ℕ, ◌+◌, ◌-◌, ◌≤◌, ◌<◌, max}
use mathlib.Core.Path.{◌≡◌, refl, sym, ap, ◌∙◌}
use mathlib.Core.Bool.{true, false}
use mathlib.Core.List.{List, [], ◌∷◌, ◌++◌}
use native.Mathlib.Omega.{arith}
use borrow.Author.Tests.{lt-ltb, le-ltb}
use lib.ListN.{length, set, length-append}
use Rattle.laws.specs.Tests.{or-true}
use Rattle.sequence.specs.Runs.{Run, ◌to◌, run, names, missing}
use Rattle.sequence.specs.Changes.{join, parted, runs_after, after, with_runs}
use Rattle.sequence.specs.Apart.{Apart}
use Rattle.sequence.specs.RunsLaws.{names_in, named, join_none}
use Rattle.sequence.specs.Gaps.{Gaps, most, takes}
use Rattle.sequence.specs.Answers.{take_answer, took}
use Rattle.taking.specs.Answers.{taken_numbers}
use Rattle.sequence.specs.GapsLaws.{took_taken, took_full, took_old}
use Rattle.sequence.specs.SoundLaws.{sound_apart, at_run}
use Rattle.sequence.specs.Row.{gaps_of, runs_of}
use Rattle.sequence.specs.RowLaid.{laid, sound_gap_row}
use Rattle.sequence.specs.RowLaws.{laid_self, sound_row_exactly}
use Rattle.sequence.proofs.Cells.{sound_stands, length_instead}
use Rattle.sequence.specs.Steps.{instead, replaced}
use Rattle.taking.specs.Steps.{Placed, Missed, Skipped}
use Rattle.taking.proofs.Steps.{missing_here, without_at, span_none, span_one, parted_both, join_at, join_behind}
use Rattle.taking.specs.Promises.{Took}
use Rattle.taking.specs.declared.Taken.{Taken}
use Rattle.taking.specs.declared.Full.{Full}

-- ---- the gaps when a number is taken

after_late : (g : Gaps) (k : ℕ) → k ≤ g.highest → after g k ≡ with_runs g (runs_after g k)
after_late g k h = let m : max g.highest k ≡ g.highest = omega arith in rw m

after_above : (g : Gaps) (k : ℕ) → g.highest < k → after g k ≡ record { start = g.start; highest = k; runs = runs_after g k }
after_above g k h = let m : max g.highest k ≡ k = omega arith in rw m

-- another highest in a row
laid_highest : (row : List ℕ) (g : Gaps) (k : ℕ) → set (laid row g) 1 k ≡ laid row (record { start = g.start; highest = k; runs = g.runs })
unfolding laid
laid_highest row g k = refl

module _ (row : List ℕ) (k : ℕ) where
  is_taken_lem : takes (gaps_of row) k ≡ true → length (runs_after (gaps_of row) k) ≤ most → (row' : List ℕ) → row' ≡ laid row (after (gaps_of row) k) → Took row k (Ok Taken.Taken) row'
  is_taken_lem t f row' e =
      let both = took_taken (gaps_of row) k t (le-ltb most (length (runs_after (gaps_of row) k)) f) in
      record { says = sym both.0; left = e ∙ ap (laid row) (sym both.1) }

  -- an answer that changes nothing
  unchanged : sound_gap_row row ≡ true → (answer : Result Taken Full) → (take_answer (gaps_of row) k ≡ taken_numbers answer) × (took (gaps_of row) k ≡ gaps_of row) → Took row k answer row
  unchanged s answer both =
      let all = (sound_row_exactly row).0 s in
      record { says = sym both.0; left = sym (ap (laid row) both.1 ∙ laid_self row all.0 all.1) }

  is_full : (full : Full) → sound_gap_row row ≡ true → takes (gaps_of row) k ≡ true → most < length (runs_after (gaps_of row) k) → Took row k (Err full) row
  is_full full s t f = unchanged s (Err full) (took_full (gaps_of row) k t (lt-ltb most (length (runs_after (gaps_of row) k)) f))

  -- ---- a number that isn't above highest

  pub old_took : sound_gap_row row ≡ true → k ≤ (gaps_of row).highest → missing (runs_of row) k ≡ false → Took row k (Ok Taken.Old) row
  old_took s h m = unchanged s (Ok Taken.Old) (took_old (gaps_of row) k (simp (le-ltb (gaps_of row).highest k h) m))

  pub is_missed : (i : ℕ) → sound_gap_row row ≡ true → Placed (runs_of row) k (Some i) → Missed row i k
  is_missed i s p =
      let all = (sound_row_exactly row).0 s in
      let r = at_run i (sound_apart all.2) p.0 in
      let n = named (run (runs_of row) i) k p.1 in
      let z = all.2.started in
      record { sound = s; place = sound_stands row i s p.0; above = n.0; below = n.1; some = omega arith; few = all.2.few; counted = all.1 }

  module _ (i : ℕ) (w : Missed row i k) where
    names_it : names (run (runs_of row) i) k ≡ true
    names_it = names_in (run (runs_of row) i) k w.above w.below

    not_above : k ≤ (gaps_of row).highest
    not_above =
        let all = (sound_row_exactly row).0 w.sound in
        let r = at_run i (sound_apart all.2) w.place.stands in
        let b = w.below in
        omega arith

    takes_it : takes (gaps_of row) k ≡ true
    takes_it = simp (missing_here (runs_of row) i k w.place.stands names_it, or-true)

    left_runs : runs_after (gaps_of row) k ≡ instead (runs_of row) i (parted (run (runs_of row) i) k)
    left_runs =
        let all = (sound_row_exactly row).0 w.sound in
        simp (le-ltb (gaps_of row).highest k not_above) (without_at i k (sound_apart all.2) w.place.stands names_it)

    pub fill_took : (others : List Run) → parted (run (runs_of row) i) k ≡ others → length (runs_of row) + length others ≤ most + 1 → Took row k (Ok Taken.Taken) (replaced row i others)
    fill_took others e f =
        let l = length_instead row w.place.wide i others w.place.stands in
        let runs : runs_after (gaps_of row) k ≡ instead (runs_of row) i others = left_runs ∙ ap (instead (runs_of row) i) e in
        is_taken_lem takes_it (rw runs (omega arith)) (replaced row i others)
        (ap (laid row) (sym (after_late (gaps_of row) k not_above ∙ ap (with_runs (gaps_of row)) runs)))

    pub fill_full : (full : Full) → (run (runs_of row) i).first < k → k < (run (runs_of row) i).last → length (runs_of row) ≡ most → Took row k (Err full) row
    fill_full full a b n =
        let e = parted_both (run (runs_of row) i) k a b in
        let l = length_instead row w.place.wide i (parted (run (runs_of row) i) k) w.place.stands in
        let two : length (parted (run (runs_of row) i) k) ≡ 2 = ap length e in
        is_full full w.sound takes_it (rw left_runs (omega arith))

  -- ---- a number above highest

  above_took : (gaps_of row).highest < k → (rs : List Run) → runs_after (gaps_of row) k ≡ rs → length rs ≤ most → Took row k (Ok Taken.Taken) (set (laid row (with_runs (gaps_of row) rs)) 1 k)
  above_took h rs e f =
      is_taken_lem (simp (lt-ltb (gaps_of row).highest k h)) (rw e f) (set (laid row (with_runs (gaps_of row) rs)) 1 k)
      (laid_highest row (with_runs (gaps_of row) rs) k
      ∙ ap (laid row) (sym (after_above (gaps_of row) k h ∙ (λ i. record { start = (gaps_of row).start; highest = k; runs = e i }))))

  -- the next
  pub next_took : sound_gap_row row ≡ true → (gaps_of row).highest < k → k ≤ (gaps_of row).highest + 1 → Took row k (Ok Taken.Taken) (set row 1 k)
  next_took s h l =
      let all = (sound_row_exactly row).0 s in
      let p = sound_apart all.2 in
      rw (laid_self row all.0 all.1) at
      (above_took h (runs_of row) (simp (lt-ltb (gaps_of row).highest k h, span_none ((gaps_of row).highest + 1) k l) (join_none p)) all.2.few)

  -- one with numbers between
  module _ (w : Skipped row k) where
    is_above : (gaps_of row).highest < k
    is_above = let b = w.between in omega arith

    hole_runs : runs_after (gaps_of row) k ≡ join (runs_of row) (((gaps_of row).highest + 1) to (k - 1) ∷ [])
    hole_runs = let b = w.between in simp (lt-ltb (gaps_of row).highest k is_above, span_one ((gaps_of row).highest + 1) k (k - 1) (omega arith) (omega arith))

    apart : Apart (gaps_of row).highest (gaps_of row).start (runs_of row)
    apart = let all = (sound_row_exactly row).0 w.sound in sound_apart all.2

    pub join_took : (i : ℕ) → i < length (runs_of row) → names (run (runs_of row) i) (gaps_of row).highest ≡ true → Took row k (Ok Taken.Taken) (set (replaced row i ((run (runs_of row) i).first to (k - 1) ∷ [])) 1 k)
    join_took i h e =
        let b = w.between in
        let all = (sound_row_exactly row).0 w.sound in
        let f = all.2.few in
        let l = length_instead row all.0 i ((run (runs_of row) i).first to (k - 1) ∷ []) h in
        above_took is_above _ (hole_runs ∙ join_at i (k - 1) apart h e (omega arith)) (omega arith)

    module _ (m : missing (runs_of row) (gaps_of row).highest ≡ false) where
      behind_runs : runs_after (gaps_of row) k ≡ runs_of row ++ (((gaps_of row).highest + 1) to (k - 1) ∷ [])
      behind_runs = let b = w.between in hole_runs ∙ join_behind (k - 1) apart m (omega arith)

      pub behind_took : length (runs_of row) < most → Took row k (Ok Taken.Taken) (set (laid row (with_runs (gaps_of row) (runs_of row ++ (((gaps_of row).highest + 1) to (k - 1) ∷ [])))) 1 k)
      behind_took h = above_took is_above _ behind_runs (simp length-append (omega arith))

      pub behind_full : (full : Full) → length (runs_of row) ≡ most → Took row k (Err full) row
      behind_full full n = is_full full w.sound (simp (lt-ltb (gaps_of row).highest k is_above)) (rw behind_runs (simp length-append (omega arith)))
