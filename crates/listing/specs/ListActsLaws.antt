-- Listing gaps and writing off by a segment's row: what the row's own call promises is what is promised of the rows.
use Rattle.std.specs.Prelude.{Result, Ok, Err, Some, None, ℕ, ◌≤◌, ◌<◌, length}
use Rattle.std.proofs.Math.Path.{◌≡◌, refl, ap, sym}
use Rattle.std.proofs.Common.{◌∙◌, ⊎_elim, arith}
use mathlib.Core.List.{List, [], ◌∷◌}
use Rattle.std.proofs.Math.Option.{Option, none, some}
use borrow.Author.Tests.{le-leb, lt-leb, lt-ltb}
use Rattle.std.proofs.Math.Dec.{leb, ltb}
use Rattle.laws.specs.Rules.{first_broken}
use Rattle.laws.specs.RulesLaws.{front_broken, last_holds, last_broken}
use Rattle.laws.specs.Order.{order}
use Rattle.lookup.specs.Lookup.{segment_of}
use Rattle.sequence.specs.Gaps.{Gaps, wanted}
use Rattle.sequence.specs.Changes.{wrote_off}
use Rattle.sequence.specs.Answers.{list_answer, write_off_answer, lowest, runs_listed, listed_numbers as row_listed_numbers}
use Rattle.sequence.specs.Row.{gaps_of}
use Rattle.sequence.specs.RowLaid.{laid}
use Rattle.sequence.specs.Runs.{Run}
use Rattle.sequence.specs.Promises.{ListedGaps, WroteOff}
use Rattle.sequence.specs.declared.Run.{Run as Removed}
use Rattle.sequence.specs.declared.GapsListed.{GapsListed as RowListed}
use Rattle.sequence.specs.declared.Short.{Short}
use Rattle.state.specs.declared.refusal.Refusal.{Refusal}
use Rattle.state.specs.declared.refusal.Refusal.TheVariants.{Memory, NoGap}
use Rattle.state.specs.Answers.{listed_numbers, answered, left_by, Listed}
use Rattle.state.specs.Refusals.{Rule, refusal_numbers}
use Rattle.state.specs.Memory.{Lent, lends, gap_row_of, gap_row_in}
use Rattle.state.specs.MemoryRows.{with_gap_row, with_gap_row_in}
use Rattle.state.specs.State.{segment_rules}
use Rattle.listing.specs.ListActs.{list_values, runs_put, run_values, lowest_run, lent_written_off}
use Rattle.listing.specs.ListRules.{gaps_of_letter, list_rules, write_off_rules}
use Rattle.listing.specs.ListPromises.{ListedRuns, WroteOffRun}

module _ (lent : Lent) (letter : ℕ) where
  abbrev gaps : Gaps
  gaps = gaps_of_letter lent letter

  -- ---- refused before the call's own rule

  module _ (r : Refusal) (e : first_broken (segment_rules lent letter) ≡ some r) where
    pub list_refused : (cells : List ℕ) → ListedRuns lent letter cells (Err r) cells
    unfolding list_rules
    list_refused cells =
        let room : Rule = record { holds = leb (wanted gaps.runs) (length cells); refusal = Memory (wanted gaps.runs) } in
        let broken = front_broken (segment_rules lent letter) (room ∷ []) r e in
        record {
          answers = sym (ap (λ (o : Option Refusal). answered o (list_values gaps)) broken);
          cells_left = sym (ap (λ (o : Option Refusal). left_by o cells (runs_put gaps cells)) broken);
        }

    pub off_refused : WroteOffRun lent letter (Err r) lent
    unfolding write_off_rules
    off_refused =
        let some_run : Rule = record { holds = ltb 0 (length gaps.runs); refusal = NoGap } in
        let broken = front_broken (segment_rules lent letter) (some_run ∷ []) r e in
        record {
          answers = sym (ap (λ (o : Option Refusal). answered o (run_values (lowest_run gaps))) broken);
          left = sym (ap (λ (o : Option Refusal). left_by o lent (lent_written_off lent letter)) broken);
        }

  module _ (e : first_broken (segment_rules lent letter) ≡ none) (i : ℕ) (s : segment_of lent.lists.contracts letter ≡ some i) where
    pub gaps_are : gaps ≡ gaps_of (gap_row_of lent.rows i)
    unfolding gaps_of_letter
    gaps_are = ap (λ (o : Option ℕ). gaps_of (gap_row_in lent.rows o)) s

    -- ---- listing

    module _ (cells : List ℕ) where
      list_holds : wanted gaps.runs ≤ length cells → first_broken (list_rules lent letter (length cells)) ≡ none
      unfolding list_rules
      list_holds h =
          last_holds (segment_rules lent letter)
          (record { holds = leb (wanted gaps.runs) (length cells); refusal = Memory (wanted gaps.runs) })
          e (le-leb (wanted gaps.runs) (length cells) h)

      list_short : length cells < wanted gaps.runs → first_broken (list_rules lent letter (length cells)) ≡ some (Memory (wanted gaps.runs))
      unfolding list_rules
      list_short h =
          last_broken (segment_rules lent letter)
          (record { holds = leb (wanted gaps.runs) (length cells); refusal = Memory (wanted gaps.runs) })
          e (lt-leb (wanted gaps.runs) (length cells) h)

      abbrev promised : Listed → List ℕ → Type 0
      promised answer cells' = ListedRuns lent letter cells answer cells'

      listed_in : (answer : Listed) (cells' : List ℕ) → wanted gaps.runs ≤ length cells
          → listed_numbers answer ≡ 0 ∷ list_values gaps → cells' ≡ runs_put gaps cells → promised answer cells'
      listed_in answer cells' h n l =
          let none = list_holds h in
          record {
            answers = n ∙ sym (ap (λ (o : Option Refusal). answered o (list_values gaps)) none);
            cells_left = l ∙ sym (ap (λ (o : Option Refusal). left_by o cells (runs_put gaps cells)) none);
          }

      listed_out : (answer : Listed) (cells' : List ℕ) → length cells < wanted gaps.runs
          → listed_numbers answer ≡ refusal_numbers (Memory (wanted gaps.runs)) → cells' ≡ cells → promised answer cells'
      listed_out answer cells' h n l =
          let short = list_short h in
          record {
            answers = n ∙ sym (ap (λ (o : Option Refusal). answered o (list_values gaps)) short);
            cells_left = l ∙ sym (ap (λ (o : Option Refusal). left_by o cells (runs_put gaps cells)) short);
          }

      module _ (answer : Result RowListed Short) (cells' : List ℕ) (own : ListedGaps (gap_row_of lent.rows i) cells answer cells') where
        told : row_listed_numbers answer ≡ list_answer gaps (length cells)
        told = own.says ∙ ap (λ (g : Gaps). list_answer g (length cells)) (sym gaps_are)

        left : cells' ≡ runs_listed cells gaps
        left = own.left ∙ ap (runs_listed cells) (sym gaps_are)

        told_in : wanted gaps.runs ≤ length cells → (row_listed_numbers answer ≡ 0 ∷ list_values gaps) × (cells' ≡ runs_put gaps cells)
        unfolding list_answer runs_listed runs_put
        told_in h =
            let test = le-leb (wanted gaps.runs) (length cells) h in
            (rw test at told, rw test at left)

        told_out : length cells < wanted gaps.runs → (row_listed_numbers answer ≡ 15 ∷ wanted gaps.runs ∷ []) × (cells' ≡ cells)
        unfolding list_answer runs_listed
        told_out h =
            let test = lt-leb (wanted gaps.runs) (length cells) h in
            (rw test at told, rw test at left)

      pub listed_runs : (listed : RowListed) (cells' : List ℕ) → ListedGaps (gap_row_of lent.rows i) cells (Ok listed) cells'
          → promised (Ok listed) cells'
      listed_runs listed cells' own =
          ⊎_elim (λ (h : wanted gaps.runs ≤ length cells).
          let t = told_in (Ok listed) cells' own h in
          listed_in (Ok listed) cells' h t.0 t.1)
          (λ (h : length cells < wanted gaps.runs).
          let t = told_out (Ok listed) cells' own h in
          listed_out (Ok listed) cells' h (cc) t.1)
          (order (wanted gaps.runs) (length cells))

      pub listed_short : (short : Short) (cells' : List ℕ) → ListedGaps (gap_row_of lent.rows i) cells (Err short) cells'
          → promised (Err (Memory short.wanted)) cells'
      listed_short short cells' own =
          ⊎_elim (λ (h : wanted gaps.runs ≤ length cells).
          let t = told_in (Err short) cells' own h in
          listed_in (Err (Memory short.wanted)) cells' h (cc) t.1)
          (λ (h : length cells < wanted gaps.runs).
          let t = told_out (Err short) cells' own h in
          let same : short.wanted ≡ wanted gaps.runs = cc in
          listed_out (Err (Memory short.wanted)) cells' h (ap (λ (n : ℕ). refusal_numbers (Memory n)) same) t.1)
          (order (wanted gaps.runs) (length cells))

    -- ---- writing off

    pub off_left : lent_written_off lent letter ≡ lends lent.lists (with_gap_row lent.rows i (laid (gap_row_of lent.rows i) (wrote_off (gaps_of (gap_row_of lent.rows i))))) lent.records
    unfolding lent_written_off gaps_of_letter
    off_left =
        ap (λ (o : Option ℕ). lends lent.lists (with_gap_row_in lent.rows (laid (gap_row_in lent.rows o) (wrote_off (gaps_of (gap_row_in lent.rows o)))) o) lent.records) s

    off_holds : (r : Run) (rs : List Run) → gaps.runs ≡ r ∷ rs → first_broken (write_off_rules lent letter) ≡ none
    unfolding write_off_rules
    off_holds r rs g =
        last_holds (segment_rules lent letter) (record { holds = ltb 0 (length gaps.runs); refusal = NoGap })
        e (lt-ltb 0 (length gaps.runs) (rw g (omega arith)))

    off_broken : gaps.runs ≡ [] → first_broken (write_off_rules lent letter) ≡ some NoGap
    unfolding write_off_rules
    off_broken g =
        last_broken (segment_rules lent letter) (record { holds = ltb 0 (length gaps.runs); refusal = NoGap }) e (rw g)

    pub off_removed : (run : Removed) (row' : List ℕ) → WroteOff (gap_row_of lent.rows i) (Some run) row'
        → WroteOffRun lent letter (Ok run) (lends lent.lists (with_gap_row lent.rows i row') lent.records)
    unfolding write_off_answer
    off_removed run row' own = go gaps.runs refl (own.says ∙ ap (λ (g : Gaps). lowest g.runs) (sym gaps_are))
      where
        go : (runs : List Run) → gaps.runs ≡ runs → 0 ∷ run.first ∷ run.last ∷ [] ≡ lowest gaps.runs
            → WroteOffRun lent letter (Ok run) (lends lent.lists (with_gap_row lent.rows i row') lent.records)
        go [] g says = let no : 0 ∷ run.first ∷ run.last ∷ [] ≡ 17 ∷ [] = rw g at says in let z : ◌≡◌ {A = ℕ} 0 1 = cc in absurd (omega arith)
        go (r ∷ rs) g says =
            let holds = off_holds r rs g in
            let same : 0 ∷ run.first ∷ run.last ∷ [] ≡ 0 ∷ run_values r = rw g at says in
            record {
              answers =
                  same ∙ ap (λ (runs : List Run). 0 ∷ run_values (lowest_run (record { start = 0; highest = 0; runs = runs }))) (sym g)
                  ∙ sym (ap (λ (o : Option Refusal). answered o (run_values (lowest_run gaps))) holds);
              left =
                  ap (λ (row : List ℕ). lends lent.lists (with_gap_row lent.rows i row) lent.records) own.left
                  ∙ sym off_left
                  ∙ sym (ap (λ (o : Option Refusal). left_by o lent (lent_written_off lent letter)) holds);
            }

    pub off_none : (row' : List ℕ) → WroteOff (gap_row_of lent.rows i) None row' → WroteOffRun lent letter (Err NoGap) lent
    unfolding write_off_answer
    off_none row' own = go gaps.runs refl (own.says ∙ ap (λ (g : Gaps). lowest g.runs) (sym gaps_are))
      where
        go : (runs : List Run) → gaps.runs ≡ runs → 17 ∷ [] ≡ lowest gaps.runs → WroteOffRun lent letter (Err NoGap) lent
        go [] g says =
            let broken = off_broken g in
            record {
              answers = sym (ap (λ (o : Option Refusal). answered o (run_values (lowest_run gaps))) broken);
              left = sym (ap (λ (o : Option Refusal). left_by o lent (lent_written_off lent letter)) broken);
            }
        go (r ∷ rs) g says = let no : 17 ∷ [] ≡ 0 ∷ run_values r = rw g at says in let z : ◌≡◌ {A = ℕ} 0 1 = cc in absurd (omega arith)
