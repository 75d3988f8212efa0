-- What a call leaves of what is lent to it, whatever it answers.
use Rattle.std.specs.Prelude.{◌≡◌, length}
use Rattle.answers.specs.declared.Lent.{Lent}

-- a word of our own: the lists that were lent, and as many cells
pub record SameRoom (before after : Lent) : Type 0 where
  pub list : after.list.now ≡ before.list.now
  pub spreads : after.spreads.now ≡ before.spreads.now
  pub rows : length after.rows.now ≡ length before.rows.now
  pub records : length after.records.now ≡ length before.records.now
