-- The rules of listing gaps and of writing off, in their order: 01, the order of checks.
use Rattle.std.specs.Prelude.{ℕ, List, [], ◌∷◌, ◌++◌, leb, ltb, length}
use Rattle.sequence.specs.Gaps.{Gaps, wanted}
use Rattle.sequence.specs.Row.{gaps_of}
use Rattle.state.specs.declared.refusal.Refusal.TheVariants.{Memory, NoGap}
use Rattle.state.specs.Refusals.{Rule}
use Rattle.state.specs.State.{segment_rules}
use Rattle.state.specs.Memory.{Lent, gap_row_of_letter}

-- 01 "Sequence and gaps": the gaps of the segment of a letter
unfoldable pub gaps_of_letter : Lent → ℕ → Gaps
gaps_of_letter lent letter = gaps_of (gap_row_of_letter lent.lists letter lent.rows)

-- 01, the order of checks and the table's row 15: "List gaps: 6, then 15": two cells a run
unfoldable pub list_rules : Lent → ℕ → ℕ → List Rule
list_rules lent letter cells =
    segment_rules lent letter
    ++ (record {
      holds = leb (wanted (gaps_of_letter lent letter).runs) cells;
      refusal = Memory (wanted (gaps_of_letter lent letter).runs);
    } ∷ [])

-- 01, the order of checks: "Write-off: 6, then 17"
unfoldable pub write_off_rules : Lent → ℕ → List Rule
write_off_rules lent letter =
    segment_rules lent letter
    ++ (record { holds = ltb 0 (length (gaps_of_letter lent letter).runs); refusal = NoGap } ∷ [])
