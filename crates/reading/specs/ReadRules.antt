-- The rules of reading a record, in their order: 01, the order of checks.
use Rattle.std.specs.Prelude.{ℕ, List, [], ◌∷◌, ◌++◌}
use Rattle.forms.specs.declared.forms.Item.{Item}
use Rattle.head.specs.Tests.{is_some}
use Rattle.message.specs.Message.{key_place}
use Rattle.state.specs.declared.refusal.Refusal.TheVariants.{Contract}
use Rattle.state.specs.Memory.{Lent}
use Rattle.state.specs.Refusals.{Rule}
use Rattle.state.specs.State.{segment_rules}

-- 01, the order of checks: "Record: 6, then 13"
unfoldable pub record_rules : Item → Lent → ℕ → List ℕ → List Rule
record_rules item lent letter key =
    segment_rules lent letter ++ (record { holds = is_some (key_place item lent.lists letter key); refusal = Contract 0 } ∷ [])
