-- The two house files that a call is handed, as one.
use Rattle.std.specs.Prelude.{ℕ, List}
use Rattle.contracts.specs.Sound.{Header, SoundList}
use Rattle.pairs.specs.Spreads.{SpreadHeader, SoundSpreads}

-- 01 "The contract list", M-100: the contract list, and the list of spread pairs
pub record Lists : Type 0 where
  pub contracts : List ℕ
  pub pairs : List ℕ

-- a word of our own: the two files as one
abbrev pub lists : List ℕ → List ℕ → Lists
lists contracts pairs = record { contracts = contracts; pairs = pairs }

-- 01, the table's row 16, M-100: both pass the short check of the calls after start
pub record Headers (lists : Lists) : Type 0 where
  pub contracts_header : Header lists.contracts
  pub pairs_header : SpreadHeader lists.contracts lists.pairs

-- 01, the table's row 16, M-100: both pass the full check of start
pub record SoundLists (lists : Lists) : Type 0 where
  pub contracts_sound : SoundList lists.contracts
  pub pairs_sound : SoundSpreads lists.contracts lists.pairs
