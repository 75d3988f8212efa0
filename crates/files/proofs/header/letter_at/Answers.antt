-- `contracts::header::letter_at` meets its contract: the first byte of the segment's entry.
-- the entry itself, with no byte ahead
use Rattle.std.proofs.Common.{ℕ, ◌≡◌, ap, sym, ◌∙◌, List, add-zero}
use Rattle.wire.specs.Number.{number_at}
use Rattle.files.specs.Inner.{EntryPlace}
use Rattle.files.specs.File.{entry_at, letter_at}
use Rattle.files.proofs.header.letter_at.Goals as goal

here : (list : List ℕ) (i place : ℕ) → EntryPlace list i place → number_at 1 list place ≡ number_at 1 list (entry_at i)
here list i place h =
    ap (number_at 1 list) (sym (add-zero place)) ∙ h.reads 1 0 ∙ ap (number_at 1 list) (add-zero (entry_at i))

pub returns : goal.returns
unfolding letter_at
returns c =
    let a = c.args in
    c.u8_at.ensures ∙ here a.list.now a.segment c.entry.result c.entry.ensures
