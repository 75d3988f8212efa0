-- What the writer writes, the reader reads: demand 2 for one field.
use Rattle.std.specs.Prelude.{ℕ, ◌≡◌, Bool, List, Ok}
use Rattle.decimal.specs.Denotes.{below_zero}
use Rattle.scan.specs.Read.{sided, read_as}
use Rattle.print.specs.Write.{written_as, filled, blank_text}
use Rattle.scan.specs.ReadLaws.{denoted, reads_exactly}
use Rattle.print.proofs.WriteTexts.{fills_right}
use Rattle.print.specs.WriteLaws.{none_spaces}
use Rattle.decimal.specs.declared.Kind.{Kind}
use Rattle.decimal.specs.declared.Held.TheVariants.{Nothing}

-- the same number, and minus zero as zero
pub reads_back : (kind : Kind) (width : ℕ) (below : Bool) (n : ℕ) (text : List ℕ) → written_as kind width below n ≡ filled text
    → read_as kind text ≡ Ok (sided (below_zero below n) n)
reads_back kind width below n text e =
    let right = fills_right kind width below n text e in
    denoted kind text (below_zero below n) n right.means right.small

pub none_reads_back : (kind : Kind) (width : ℕ) → read_as kind (blank_text width) ≡ Ok Nothing
none_reads_back kind width = (reads_exactly kind (blank_text width) (Ok Nothing)).1 (none_spaces width)
