-- What a promise settles: that a sound row stays sound.
use Rattle.std.specs.Prelude.{Option, ℕ, ◌<◌, ◌≡◌, refl, true, List}
use Rattle.sequence.specs.Changes.{begun}
use Rattle.sequence.specs.GapsLaws.{begun_sound, wrote_off_sound}
use Rattle.sequence.specs.RowLaid.{sound_gap_row}
use Rattle.sequence.specs.RowLaws.{laid_sound, sound_row_exactly}
use Rattle.sequence.specs.Promises.{Began, WroteOff}
use Rattle.sequence.specs.declared.Run.{Run}

pub began_row : {number : ℕ} {row' : List ℕ} → 0 < number → Began number row' → sound_gap_row row' ≡ true
began_row {number} h b = rw b.left (laid_sound _ (begun number) refl (begun_sound number h))

pub wrote_off_row : {row row' : List ℕ} {answer : Option Run} → sound_gap_row row ≡ true → WroteOff row answer row' → sound_gap_row row' ≡ true
wrote_off_row {row} e w =
    let all = (sound_row_exactly row).0 e in
    rw w.left (laid_sound row _ all.0 (wrote_off_sound all.2))
