-- What the promises settle: one outcome, a refusal that leaves everything, and what an accepted call leaves.
use Rattle.std.specs.Prelude.{ℕ, ◌+◌, ◌*◌, ◌≤◌, ◌≡◌, refl, true, List, [], ◌∷◌, ◌++◌, take, Err, Ok}
use Rattle.std.proofs.Common.{sym, ◌∙◌}
use Rattle.std.proofs.Math.Path.{ap}
use Rattle.std.proofs.Math.Option.{none, some}
use native.Mathlib.Omega.{arith}
use Rattle.std.proofs.Math.ListN.{length, drop}
use Rattle.std.proofs.Math.Seq.{take_at, drop_at}
use Rattle.laws.specs.Rules.{first_broken}
use Rattle.laws.specs.RulesLaws.{last_held}
use Rattle.files.specs.File.{segments_of}
use Rattle.lookup.specs.Lookup.{segment_of}
use Rattle.lookup.specs.LookupLaws.{segment_has}
use Rattle.sequence.specs.Gaps.{Gaps, wanted}
use Rattle.sequence.specs.Changes.{wrote_off}
use Rattle.sequence.specs.GapsLaws.{wrote_off_sound}
use Rattle.sequence.specs.Row.{gaps_of}
use Rattle.sequence.specs.RowLaid.{flat, laid, sound_gap_row}
use Rattle.sequence.specs.RowLaws.{laid_gaps, laid_sound, length_flat, sound_row_exactly}
use Rattle.state.specs.Answers.{Listed, WrittenOff, run_told, runs_told}
use Rattle.state.specs.declared.refusal.Refusal.{Refusal}
use Rattle.state.specs.Memory.{Lent, lends, gap_row_cells, gap_rows_wanted, gap_row_of, SameBehind}
use Rattle.state.specs.MemoryRows.{with_gap_row}
use Rattle.state.specs.RowsLaws.{length_with, row_put, behind_kept, row_kept, sound_with}
use Rattle.state.specs.State.{segment_rules}
use Rattle.state.specs.GoodState.{GoodState}
use Rattle.state.specs.StateLaws.{is_some_lem, state_held, letter_listed, row_there, row_sound}
use Rattle.state.specs.AnswersLaws.{listed_told, written_off_told, refused_by_lem, accepted_by, left_as, left_new}
use Rattle.listing.specs.ListActs.{list_values, runs_put, run_values, lowest_run, lent_written_off}
use Rattle.listing.specs.ListRules.{gaps_of_letter, list_rules, write_off_rules}
use Rattle.listing.specs.ListActsLaws.{off_left}
use Rattle.listing.specs.ListPromises.{ListedRuns, WroteOffRun}

-- ---- one outcome

pub one_listed : {lent : Lent} {cells cells' cells'' : List ℕ} {letter : ℕ} (a b : Listed)
    → ListedRuns lent letter cells a cells' → ListedRuns lent letter cells b cells'' → (a ≡ b) × (cells' ≡ cells'')
one_listed a b p q = (listed_told a b (p.answers ∙ sym q.answers), p.cells_left ∙ sym q.cells_left)

pub one_written_off : {lent lent' lent'' : Lent} {letter : ℕ} (a b : WrittenOff) → WroteOffRun lent letter a lent' → WroteOffRun lent letter b lent'' → (a ≡ b) × (lent' ≡ lent'')
one_written_off a b p q = (written_off_told a b (p.answers ∙ sym q.answers), p.left ∙ sym q.left)

-- ---- a refused call: the first broken rule's refusal, and nothing changes

pub list_refusal_lem : {lent : Lent} {cells cells' : List ℕ} {letter : ℕ} (r : Refusal) → ListedRuns lent letter cells (Err r) cells'
    → (first_broken (list_rules lent letter (length cells)) ≡ some r) × (cells' ≡ cells)
list_refusal_lem {lent} {cells} {letter = letter} r p =
    let gaps : Gaps = gaps_of_letter lent letter in
    let broken = refused_by_lem (first_broken (list_rules lent letter (length cells))) (list_values gaps) r p.answers in
    (broken, p.cells_left ∙ left_as _ r cells (runs_put gaps cells) broken)

pub off_refusal_lem : {lent lent' : Lent} {letter : ℕ} (r : Refusal) → WroteOffRun lent letter (Err r) lent'
    → (first_broken (write_off_rules lent letter) ≡ some r) × (lent' ≡ lent)
off_refusal_lem {lent} {letter = letter} r p =
    let broken = refused_by_lem (first_broken (write_off_rules lent letter)) (run_values (lowest_run (gaps_of_letter lent letter))) r p.answers in
    (broken, p.left ∙ left_as _ r lent (lent_written_off lent letter) broken)

-- ---- an accepted listing

module _ {lent : Lent} {cells cells' : List ℕ} {letter : ℕ} (highest runs : ℕ) (p : ListedRuns lent letter cells (runs_told highest runs) cells') where
  abbrev gaps : Gaps
  gaps = gaps_of_letter lent letter

  list_held : (first_broken (list_rules lent letter (length cells)) ≡ none) × (highest ∷ runs ∷ [] ≡ list_values gaps)
  list_held = accepted_by (first_broken (list_rules lent letter (length cells))) (list_values gaps) (highest ∷ runs ∷ []) p.answers

  -- the answer is highest and the number of runs
  pub answers_runs : (highest ≡ gaps.highest) × (runs ≡ length gaps.runs)
  answers_runs = let values = list_held.1 in ((cc), (cc))

  -- the cells are the runs, and no other cell is written
  pub runs_in_cells : (take (2 * runs) cells' ≡ flat gaps.runs) × (drop (2 * runs) cells' ≡ drop (2 * runs) cells)
  unfolding runs_put
  runs_in_cells =
      let n = answers_runs.1 in
      let l = length_flat gaps.runs in
      let long : length (flat gaps.runs) ≡ 2 * runs = omega arith in
      let put : cells' ≡ flat gaps.runs ++ drop (wanted gaps.runs) cells = p.cells_left ∙ left_new _ cells (runs_put gaps cells) list_held.0 in (
        ap (take (2 * runs)) put ∙ take_at (flat gaps.runs) _ (2 * runs) long,
        ap (drop (2 * runs)) put ∙ drop_at (flat gaps.runs) _ (2 * runs) long ∙ ap (λ (k : ℕ). drop (2 * k) cells) (sym n),
      )

-- ---- an accepted write-off

module _ {lent lent' : Lent} {letter : ℕ} (first last : ℕ) (p : WroteOffRun lent letter (run_told first last) lent') where
  off_held : (first_broken (write_off_rules lent letter) ≡ none) × (first ∷ last ∷ [] ≡ run_values (lowest_run (gaps_of_letter lent letter)))
  off_held =
      accepted_by (first_broken (write_off_rules lent letter)) (run_values (lowest_run (gaps_of_letter lent letter))) (first ∷ last ∷ []) p.answers

  -- the answer is the lowest run
  pub answers_lowest : (first ≡ (lowest_run (gaps_of_letter lent letter)).first) × (last ≡ (lowest_run (gaps_of_letter lent letter)).last)
  answers_lowest = let values = off_held.1 in ((cc), (cc))

  segment_held : first_broken (segment_rules lent letter) ≡ none
  unfolding write_off_rules
  segment_held = (last_held (segment_rules lent letter) _ off_held.0).0

  module _ (i : ℕ) (s : segment_of lent.lists.contracts letter ≡ some i) where
    abbrev row : List ℕ
    row = gap_row_of lent.rows i

    abbrev off : List ℕ
    off = laid row (wrote_off (gaps_of row))

    pub off_all : lent' ≡ lends lent.lists (with_gap_row lent.rows i off) lent.records
    off_all = p.left ∙ left_new _ lent (lent_written_off lent letter) off_held.0 ∙ off_left lent letter segment_held i s

    off_rows : lent'.rows ≡ with_gap_row lent.rows i off
    off_rows = ap (λ (l : Lent). l.rows) off_all

    room : gap_row_cells * i + gap_row_cells ≤ length lent.rows
    room = row_there lent letter segment_held i s

    off_sound : sound_gap_row off ≡ true
    off_sound =
        let all = (sound_row_exactly row).0 (row_sound lent letter segment_held i s) in
        laid_sound row (wrote_off (gaps_of row)) all.0 (wrote_off_sound all.2)

    off_wide : length off ≡ gap_row_cells
    off_wide = ((sound_row_exactly off).0 off_sound).0

    -- the segment's gaps are without their lowest run
    pub gaps_written_off : gaps_of (gap_row_of lent'.rows i) ≡ wrote_off (gaps_of row)
    gaps_written_off =
        ap (λ (ns : List ℕ). gaps_of (gap_row_of ns i)) off_rows ∙ ap gaps_of (row_put lent.rows i off room off_wide) ∙ laid_gaps row (wrote_off (gaps_of row))

    -- every other segment's row is as it was
    pub others_kept : (j : ℕ) → (j ≡ i → ⊥) → gap_row_of lent'.rows j ≡ gap_row_of lent.rows j
    others_kept j n = ap (λ (ns : List ℕ). gap_row_of ns j) off_rows ∙ row_kept lent.rows i off room off_wide j n

    -- and what is left passes the checks of the calls that follow
    pub off_leaves : GoodState lent'
    off_leaves =
        let good = state_held lent letter segment_held in
        let rows_lent = good.rows_lent in
        let long = length_with lent.rows i off room off_wide in
        rw off_all
        (record {
          headers = good.headers;
          rows_lent = rw long rows_lent;
          records_lent = good.records_lent;
          rows_sound = sound_with lent.rows i off room off_wide (segments_of lent.lists.contracts) good.rows_sound off_sound;
        })

-- ---- no call writes past the cells wanted for state

-- a write-off, whose records are not lent to be written
pub off_nothing_behind : {lent lent' : Lent} {letter : ℕ} (answer : WrittenOff) → WroteOffRun lent letter answer lent' → SameBehind lent lent'
off_nothing_behind (Err r) p = rw (off_refusal_lem r p).1 (record { rows_behind = refl; records_behind = refl })
off_nothing_behind {lent} {letter = letter} (Ok run) p =
    let segment = is_some_lem (segment_of lent.lists.contracts letter) (letter_listed lent letter (segment_held run.first run.last p)) in
    let i : ℕ = segment.0 in
    let s = segment.1 in
    rw (off_all run.first run.last p i s)
    (record {
      rows_behind = behind_kept lent.rows i (off run.first run.last p i s) (room run.first run.last p i s) (off_wide run.first run.last p i s) (gap_rows_wanted lent.lists) (omega (arith, (segment_has lent.lists.contracts letter i s).0));
      records_behind = refl;
    })
