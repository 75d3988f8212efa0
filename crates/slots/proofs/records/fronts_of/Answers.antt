-- Counts of two bytes, so that the products fit.
use Rattle.std.proofs.Common.{ℕ, ◌+◌, ◌*◌, ◌^◌, ◌<◌, ◌≡◌, refl, arith, get_or, List}
use Rattle.files.specs.File.{segments_of, contracts_before, contracts_of}
use Rattle.files.specs.FileLaws.{before_under}
use Rattle.pairs.specs.Lists.{lists}
use Rattle.forms.specs.declared.forms.Item.{Item}
use Rattle.forms.specs.declared.forms.Item.TheVariants.{Contract, Pair}
use Rattle.slots.specs.declared.records.Fronts.{Fronts}
use Rattle.slots.specs.Places.{front_in, front_of, FrontsOf}
use Rattle.slots.proofs.records.fronts_of.Goals as goal

module _ (list spreads : List ℕ) (segment : ℕ) (under : (j : ℕ) → get_or list j 0 < 256) (pairs_under : (j : ℕ) → get_or spreads j 0 < 256) where
  abbrev fronts : Fronts
  fronts =
      record { contracts = 52 * contracts_before list segment; pairs = 52 * contracts_of list + 38 * contracts_before spreads segment }

  fronts_are : FrontsOf (lists list spreads) segment fronts
  fronts_are = record { are = are; small = small }
    where
      are : (item : Item) → front_in fronts item ≡ front_of item (lists list spreads) segment
      are Contract = omega arith
      are Pair = refl

      small : (item : Item) → front_in fronts item < 2 ^ 40
      small Contract = omega (arith, before_under list under segment)
      small Pair = omega (arith, before_under list under (segments_of list), before_under spreads pairs_under segment)

pub returns : goal.returns
returns c =
    let a = c.args in
    rw (c.contracts_before-contracts.ensures, c.all_contracts-all.ensures, c.contracts_before.ensures)
    (fronts_are a.list.now a.spreads.now a.segment (λ j. (c.type_inv.list j).fits) (λ j. (c.type_inv.spreads j).fits))
