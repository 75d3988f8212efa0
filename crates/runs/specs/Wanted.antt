-- 15 for gap rows, where they are lent as runs: 01, the table of refusals.
use Rattle.std.specs.Prelude.{ℕ, ◌*◌, cond, ◌&&◌, List, ltb, eqb, get_or, set}
use Rattle.files.specs.File.{segments_of}
use Rattle.copies.specs.Rows.{row_runs}

-- 01, the table's row 15: the runs that a call wants for a list's segments
abbrev pub runs_wanted : List ℕ → ℕ
runs_wanted list = row_runs * segments_of list

-- 01, the table's row 15: an answer's numbers where so many runs are lent; 15 for gap rows names the runs wanted, as its fourth number
unfoldable pub in_runs : List ℕ → ℕ → List ℕ → List ℕ
in_runs list runs numbers =
    cond (eqb (get_or numbers 0 0) 15 && ltb runs (runs_wanted list)) (set numbers 3 (runs_wanted list)) numbers
