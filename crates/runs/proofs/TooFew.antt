-- Too few runs: 01, the table's row 15. It rests on how many runs are wanted (specs/Wanted), and so lies here: an edit of that is then refused by a goal.
use Rattle.std.specs.Prelude.{ℕ, ◌*◌, ◌<◌, ◌≡◌, List, [], ◌∷◌, ◌++◌, length}
use Rattle.std.proofs.Common.{ap, ◌∙◌, arith}
use Rattle.std.proofs.Math.Option.{Option, some}
use Rattle.std.proofs.lemmas.Bool.{lt-leb}
use Rattle.laws.specs.Rules.{first_broken}
use Rattle.laws.specs.RulesLaws.{front_broken}
use Rattle.files.specs.File.{segments_of}
use Rattle.pairs.specs.Lists.{Lists}
use Rattle.state.specs.declared.refusal.Refusal.{Refusal}
use Rattle.state.specs.declared.refusal.Refusal.TheVariants.{Memory}
use Rattle.state.specs.Answers.{answered}
use Rattle.batch.specs.Batch.{batch_rules}
use Rattle.batch.specs.Acts.{batch_numbers}
use Rattle.listing.specs.ListRules.{list_rules, write_off_rules}
use Rattle.reading.specs.ReadRules.{record_rules}
use Rattle.state.specs.Memory.{lends, gap_rows_wanted}
use Rattle.state.specs.State.{state_rules, memory_rules, segment_rules}
use Rattle.state.specs.Refusals.{Rule, refusal_numbers}
use Rattle.starting.specs.StartLaws.{memory_decides}
use Rattle.state.specs.StateLaws.{state_broken}
use Rattle.copies.specs.declared.run.Run.{Run}
use Rattle.copies.specs.Rows.{flat}
use Rattle.runs.specs.Wanted.{runs_wanted, in_runs}
use Rattle.runs.specs.WantedLaws.{in_runs_short}
use Rattle.copies.specs.FlatLaws.{length_flat}
use Rattle.batch.specs.BatchLaws.{front_numbers}
use Rattle.runs.specs.Promises.{HeadersPass, UpToMemory}

module _ (lists : Lists) (rows : List Run) (short : length rows < runs_wanted lists.contracts) where
  told_short : {told numbers : List ℕ} (behind : List ℕ) → told ≡ in_runs lists.contracts (length rows) numbers → numbers ≡ refusal_numbers (Memory (gap_rows_wanted lists)) ++ behind
      → told ≡ refusal_numbers (Memory (runs_wanted lists.contracts)) ++ behind
  told_short behind e n = e ∙ ap (in_runs lists.contracts (length rows)) n ∙ in_runs_short lists.contracts (length rows) (gap_rows_wanted lists) behind short

  few : length (flat rows) < gap_rows_wanted lists
  few = omega (arith, length_flat rows)

  memory_short : (records : ℕ) → first_broken (memory_rules lists (length (flat rows)) records) ≡ some (Memory (gap_rows_wanted lists))
  memory_short records = rw (lt-leb (gap_rows_wanted lists) (length (flat rows)) few)

  module _ (headers : HeadersPass lists) (records : List ℕ) where
    state_short : first_broken (state_rules (lends lists (flat rows) records)) ≡ some (Memory (gap_rows_wanted lists))
    state_short = rw (headers.0, headers.1, lt-leb (gap_rows_wanted lists) (length (flat rows)) few)

    batch_short : (batch : List ℕ) → batch_numbers (lends lists (flat rows) records) batch ≡ refusal_numbers (Memory (gap_rows_wanted lists)) ++ (0 ∷ [])
    batch_short batch =
        front_numbers (lends lists (flat rows) records) batch (Memory (gap_rows_wanted lists))
        (front_broken (state_rules (lends lists (flat rows) records)) (batch_rules batch) (Memory (gap_rows_wanted lists)) state_short)

    answered_short : (letter : ℕ) (more : List Rule) (values : List ℕ) → answered (first_broken (segment_rules (lends lists (flat rows) records) letter ++ more)) values ≡ refusal_numbers (Memory (gap_rows_wanted lists))
    answered_short letter more values =
        ap (λ (o : Option Refusal). answered o values)
        (front_broken (segment_rules (lends lists (flat rows) records) letter) more (Memory (gap_rows_wanted lists)) (state_broken (lends lists (flat rows) records) letter (Memory (gap_rows_wanted lists)) state_short))

-- 01, the table's row 15: too few runs lent are answered with the runs wanted, 66 for each listed segment
pub too_few_runs : {lists : Lists} {numbers behind : List ℕ} {rows : List Run} → UpToMemory lists rows numbers behind → length rows < 66 * segments_of lists.contracts
    → numbers ≡ 15 ∷ 0 ∷ 0 ∷ 66 * segments_of lists.contracts ∷ behind
unfolding list_rules write_off_rules record_rules
too_few_runs {lists} {rows = rows} (UpToMemory.starts {starts} {records} s pairs n p) h =
    told_short lists rows h [] p.answers (p.promised.answers ∙ ap (λ (o : Option Refusal). answered o []) (memory_decides lists starts (length (flat rows)) (length records) s pairs n ∙ memory_short lists rows h (length records)))
too_few_runs {lists} {rows = rows} (UpToMemory.judges {records} {batch} s p) h = told_short lists rows h (0 ∷ []) p.answers (p.promised.answers ∙ batch_short lists rows h s records batch)
too_few_runs {lists} {rows = rows} (UpToMemory.takes {records} {batch} s p) h = told_short lists rows h (0 ∷ []) p.answers (p.promised.answers ∙ batch_short lists rows h s records batch)
too_few_runs {lists} {rows = rows} (UpToMemory.lists_gaps {records} {letter = letter} s p) h = told_short lists rows h [] p.answers (p.promised.answers ∙ answered_short lists rows h s records letter _ _)
too_few_runs {lists} {rows = rows} (UpToMemory.writes_off {records} {letter} s p) h = told_short lists rows h [] p.answers (p.promised.answers ∙ answered_short lists rows h s records letter _ _)
too_few_runs {lists} {rows = rows} (UpToMemory.reads {records = records} {letter = letter} s p) h = told_short lists rows h [] p.answers (p.promised.answers ∙ answered_short lists rows h s records letter _ _)
