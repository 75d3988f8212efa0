-- Laws of a lent row of runs.
use Rattle.std.specs.Prelude.{suc, min, ◌≡◌, List, [], ◌∷◌, ◌++◌, length, take, drop}
use Rattle.std.proofs.Common.{ap, arith}
use Rattle.copies.specs.declared.run.Run.{Run}
use Rattle.copies.specs.Rows.{over}

-- one row laid over another is its front, and behind it the other's rest
pub over_is : (runs rows : List Run) → over runs rows ≡ take (min (length runs) (length rows)) runs ++ drop (min (length runs) (length rows)) rows
over_is [] rows =
    let e : min 0 (length rows) ≡ 0 = omega arith in
    rw e
over_is (run ∷ runs) [] =
    let e : min (suc (length runs)) 0 ≡ 0 = omega arith in
    rw e
over_is (run ∷ runs) (row ∷ rows) =
    let e : min (suc (length runs)) (suc (length rows)) ≡ suc (min (length runs) (length rows)) = omega arith in
    rw e (ap (λ (l : List Run). run ∷ l) (over_is runs rows))
