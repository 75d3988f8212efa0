-- What the contracts of inner functions cite: nothing here is a rule of the paper.
use Rattle.std.specs.Prelude.{ℕ, ◌+◌, ◌≤◌, ◌≡◌, List, length}
use Rattle.wire.specs.Number.{number_at}
use Rattle.files.specs.File.{entry_at}

-- a word of our own: a place that reads as the entry of segment i does
pub record EntryPlace (list : List ℕ) (i place : ℕ) : Type 0 where
  pub reads : (width ahead : ℕ) → number_at width list (place + ahead) ≡ number_at width list (entry_at i + ahead)
  -- so that a few bytes on is still a place
  pub near : place ≤ length list + 2
