-- Words of inner contracts only: no promise of a public call reaches them, so that whoever reads those may skip this file. What
-- this crate's functions answer, as the paper's numbers (0 and the values of an accepted call, or a refusal's number and its
-- values), and what they leave.
use Rattle.std.specs.Prelude.{Option, Some, None, Result, Ok, Err, ℕ, cond, List, [], ◌∷◌, ◌++◌, leb, length, drop}
use Rattle.laws.specs.Refused.{gaps_no, memory_no, no_gap_no}
use Rattle.sequence.specs.Runs.{Run}
use Rattle.sequence.specs.Gaps.{Gaps, takes, wanted}
use Rattle.sequence.specs.Changes.{after, full}
use Rattle.sequence.specs.RowLaid.{flat}
use Rattle.sequence.specs.declared.Run.{Run as Removed}
use Rattle.sequence.specs.declared.GapsListed.{GapsListed}
use Rattle.sequence.specs.declared.Short.{Short}

-- 01 "Sequence and gaps": the gaps when a number has come: one that is old, or refused, leaves them as they are
unfoldable pub took : Gaps → ℕ → Gaps
took g k = cond (takes g k) (cond (full g k) g (after g k)) g

-- 01 "What may be asked": one message taken, none old
abbrev pub one_taken : List ℕ
one_taken = 0 ∷ 1 ∷ 0 ∷ []

-- 01 "What may be asked": none taken, one old
abbrev pub one_old : List ℕ
one_old = 0 ∷ 0 ∷ 1 ∷ []

-- 01, the table's row 14
abbrev pub refused_gaps : List ℕ
refused_gaps = gaps_no ∷ []

-- 01 "Sequence and gaps": a number that is taken, unless too many runs would stand; all others are old
unfoldable pub take_answer : Gaps → ℕ → List ℕ
take_answer g k = cond (takes g k) (cond (full g k) refused_gaps one_taken) one_old

-- 01 "What may be asked": "a write-off answers the run it removed"
abbrev pub written_off : ℕ → ℕ → List ℕ
written_off first last = 0 ∷ first ∷ last ∷ []

-- 01, the table's row 17
abbrev pub refused_no_gap : List ℕ
refused_no_gap = no_gap_no ∷ []

-- 01 "What may be asked": a write-off answers the run it removed; or 17
abbrev pub write_off_numbers : Option Removed → List ℕ
write_off_numbers (Some run) = written_off run.first run.last
write_off_numbers None = refused_no_gap

-- 01 "Sequence and gaps": a write-off removes the lowest run; 17 where there is none
abbrev pub lowest : List Run → List ℕ
lowest [] = refused_no_gap
lowest (r ∷ rs) = written_off r.first r.last

-- 01 "What may be asked": the answer of a write-off
unfoldable pub write_off_answer : Gaps → List ℕ
write_off_answer g = lowest g.runs

-- 01 "What may be asked": "List gaps answers highest and the number of runs"
abbrev pub listed : ℕ → ℕ → List ℕ
listed highest count = 0 ∷ highest ∷ count ∷ []

-- 01, the table's row 15, with the cells wanted
abbrev pub refused_memory : ℕ → List ℕ
refused_memory wanted = memory_no ∷ wanted ∷ []

-- 01 "What may be asked": highest and the number of runs; or 15 and the cells wanted
abbrev pub listed_numbers : Result GapsListed Short → List ℕ
listed_numbers (Ok gaps) = listed gaps.highest gaps.runs
listed_numbers (Err short) = refused_memory short.wanted

-- 01 "What may be asked": lent cells are too few exactly when under the number wanted
unfoldable pub list_answer : Gaps → ℕ → List ℕ
list_answer g lent = cond (leb (wanted g.runs) lent) (listed g.highest (length g.runs)) (refused_memory (wanted g.runs))

-- 01 "What may be asked": "puts the runs in lent cells": they are written from the first cell on where there is room, and no
-- others
unfoldable pub runs_listed : List ℕ → Gaps → List ℕ
runs_listed lent g = cond (leb (wanted g.runs) (length lent)) (flat g.runs ++ drop (wanted g.runs) lent) lent
