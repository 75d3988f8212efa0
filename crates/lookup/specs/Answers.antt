-- The answers of this crate's lookups in the paper's numbers.
use Rattle.std.specs.Prelude.{ℕ, ◌≤◌, ◌≡◌, List, [], ◌∷◌, Option as Found, Some, None}
use Rattle.std.proofs.Math.Option.{Option, none, some}
use Rattle.lookup.specs.declared.lookup.Sought.{Sought}
use Rattle.laws.specs.Refused.{contract_no}
use Rattle.lookup.specs.Halving.{Halved, digits}

-- a word of our own: the place that an answer gives, if it gives one
abbrev pub place_of : Found ℕ → Option ℕ
place_of (Some place) = some place
place_of None = none

-- 01, the table's rows 6 and 13: 0 and the place where it is listed; else the row's number, 6 for a letter and 13 for a key
abbrev pub found_numbers : ℕ → Found ℕ → List ℕ
found_numbers refusal (Some place) = 0 ∷ place ∷ []
found_numbers refusal None = refusal ∷ []

-- 01, the table's rows 6 and 13: the numbers that the place looked up gives
abbrev pub looked_up : ℕ → Option ℕ → List ℕ
looked_up refusal (some place) = 0 ∷ place ∷ []
looked_up refusal none = refusal ∷ []

-- M-102: what is reported of a key looked up among so many: its place, 13 where it has none; how many keys were compared: the rule's
-- own steps, found or not, at most the binary digits of the number of keys
pub record Reports (halved : Halved) (keys : ℕ) (answer : Sought) : Type 0 where
  pub place : found_numbers contract_no answer.found ≡ looked_up contract_no halved.place
  pub steps : answer.compared ≡ halved.compared
  pub few : answer.compared ≤ digits keys
