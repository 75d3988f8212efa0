-- The part stands in its place, and the rest as it was.
use Rattle.std.proofs.Common.{◌∙◌, refl, sym, arith, length, take_all}
use Rattle.std.proofs.lemmas.List.Edits.{sets-eq}
use Rattle.std.proofs.lemmas.Slice.{put_mid-paste}
use Rattle.stores.proofs.stores.put.Goals as goal

pub returns : goal.returns
returns c =
    let a = c.args in
    put_mid-paste a.at _ a.cells.now _ a.part.now (length a.part.now) c.copy_from_slice.ensures.after (omega arith) refl
    ∙ rw (take_all (length a.part.now) a.part.now (omega arith)) (sym (sets-eq a.part.now a.cells.now a.at c.requires))
