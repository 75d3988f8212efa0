-- A segment's gaps: 01 "Sequence and gaps", "What may be asked".
use Rattle.std.specs.Prelude.{ℕ, ◌*◌, Bool, ◌||◌, List, ltb, length}
use Rattle.sequence.specs.Runs.{Run, missing}

-- 01 "Sequence and gaps": the start number, the highest number taken, and the runs of missing numbers
pub record Gaps : Type 0 where
  pub start : ℕ
  pub highest : ℕ
  pub runs : List Run

-- 01 "Sequence and gaps": "at most 64 a segment"
abbrev pub most : ℕ
most = 64

-- 01 "Sequence and gaps": "A number above highest, or missing, is taken. All others are old"
abbrev pub takes : Gaps → ℕ → Bool
takes g k = ltb g.highest k || missing g.runs k

-- 01 "What may be asked": two cells a run answered
abbrev pub wanted : List Run → ℕ
wanted rs = 2 * length rs
