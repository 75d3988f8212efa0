-- What the promise settles: that a sound row stays sound.
use Rattle.std.specs.Prelude.{Result, ℕ, ◌≡◌, true, List}
use Rattle.sequence.specs.GapsLaws.{took_sound}
use Rattle.sequence.specs.Row.{gaps_of}
use Rattle.sequence.specs.RowLaid.{sound_gap_row}
use Rattle.sequence.specs.RowLaws.{laid_sound, sound_row_exactly}
use Rattle.taking.specs.Promises.{Took}
use Rattle.taking.specs.declared.Taken.{Taken}
use Rattle.taking.specs.declared.Full.{Full}

pub took_row : {row row' : List ℕ} {number : ℕ} {answer : Result Taken Full} → sound_gap_row row ≡ true → Took row number answer row' → sound_gap_row row' ≡ true
took_row {row} {number = number} e t =
    let all = (sound_row_exactly row).0 e in
    rw t.left (laid_sound row _ all.0 (took_sound (gaps_of row) all.2 number))
