-- The rules of putting the list without pairs, in their order.
use Rattle.std.specs.Prelude.{ℕ, List, [], ◌∷◌, leb, length}
use Rattle.pairs.specs.NoSpreads.{no_spreads}
use Rattle.contracts.specs.SoundTests.{header_sound}
use Rattle.state.specs.declared.refusal.Refusal.TheVariants.{Memory, List as ListOf}
use Rattle.state.specs.Refusals.{Rule}

-- M-100: 16 where the contract list's header is not sound, as calls after start look at it, and 15 where there is no room
unfoldable pub no_spreads_rules : List ℕ → ℕ → List Rule
no_spreads_rules list room =
    record { holds = header_sound list; refusal = ListOf }
    ∷ record { holds = leb (length (no_spreads list)) room; refusal = Memory (length (no_spreads list)) }
    ∷ []
