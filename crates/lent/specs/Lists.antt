-- What a call leaves of what a program lends, whatever it answers.
use Rattle.std.specs.Prelude.{◌≡◌, length}
use Rattle.lent.specs.declared.Lent.{Lent}

-- a word of our own: the lists that were lent, and as many cells for records
pub record SameLists (before after : Lent) : Type 0 where
  pub list : after.list.now ≡ before.list.now
  pub spreads : after.spreads.now ≡ before.spreads.now
  pub records : length after.records.now ≡ length before.records.now
