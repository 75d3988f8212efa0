-- A start: 01 "Sequence and gaps", and its order of checks: 16 for the contract list, 16 for the spread list, 10, 15.
use Rattle.std.specs.Prelude.{ℕ, ◌≤◌, ◌<◌, Bool, List, ◌∷◌, ltb, get_or}
use Rattle.files.specs.Below.{all_below}
use Rattle.files.specs.File.{segments_of}
use Rattle.contracts.specs.SoundTests.{sound}
use Rattle.pairs.specs.SpreadTests.{spreads_sound}
use Rattle.pairs.specs.Lists.{Lists, SoundLists}
use Rattle.state.specs.declared.refusal.Refusal.TheVariants.{Numbering, List as ListOf}
use Rattle.state.specs.Refusals.{Rule}
use Rattle.state.specs.Memory.{gap_rows_wanted}
use Rattle.state.specs.State.{memory_rules}
use Rattle.slots.specs.Slots.{records_wanted}

-- 01 "Sequence and gaps": "each listed segment, in list order, a start number"; one that is missing counts as 0
abbrev pub start_of : List ℕ → ℕ → ℕ
start_of starts i = get_or starts i 0

-- 01 "Sequence and gaps": "1 or more"
unfoldable pub each_starts : ℕ → List ℕ → Bool
each_starts n starts = all_below n (λ i. ltb 0 (start_of starts i))

-- 01, the order of checks at start, M-100: 16, 16 for the spread list, 10, 15, with so many cells lent
unfoldable pub start_rules : Lists → List ℕ → ℕ → ℕ → List Rule
start_rules lists starts rows records =
    record { holds = sound lists.contracts; refusal = ListOf }
    ∷ record { holds = spreads_sound lists.contracts lists.pairs; refusal = ListOf }
    ∷ record { holds = each_starts (segments_of lists.contracts) starts; refusal = Numbering 0 }
    ∷ memory_rules lists rows records

-- 01, the table's rows 16, 10 and 15: a start that breaks no rule, with so many cells lent
pub record GoodStart (lists : Lists) (starts : List ℕ) (rows records : ℕ) : Type 0 where
  -- 16
  pub lists_sound : SoundLists lists
  -- 10
  pub started : (i : ℕ) → i < segments_of lists.contracts → 0 < start_of starts i
  -- 15
  pub rows_lent : gap_rows_wanted lists ≤ rows
  pub records_lent : records_wanted lists ≤ records
