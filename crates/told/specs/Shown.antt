-- A record shown among the values that a host lends.
use Rattle.std.specs.Prelude.{ℕ, List, [], ◌∷◌, ◌++◌}
use Rattle.std.proofs.lemmas.List.Edits.{sets}
use Rattle.forms.specs.declared.forms.Item.{Item}
use Rattle.forms.specs.declared.forms.Item.TheVariants.{Contract, Pair}
use Rattle.forms.specs.declared.forms.Session.{Session}
use Rattle.forms.specs.declared.rows.Level.{Level}
use Rattle.forms.specs.declared.rows.Level.TheVariants.{One, Two}
use Rattle.layout.specs.Cells.{session_cell}
use Rattle.state.specs.declared.answers.Recorded.{Recorded}
use Rattle.state.specs.declared.answers.Recorded.TheVariants.{Record, NoRecord, Refused}

-- the host's header, M-104: the values before those of the rows: the number, and of a contract the session
abbrev pub values_in_front : Item → ℕ → Session → List ℕ
values_in_front Contract number session = number ∷ session_cell session ∷ []
values_in_front Pair number session = number ∷ []

-- the host's header: values are written only where a record is answered: those, then one value a row, from the first on; every
-- other stays
abbrev pub values_after : Item → Recorded → List ℕ → List ℕ → List ℕ
values_after item (Record number session) rows values = sets values 0 (values_in_front item number session ++ rows)
values_after item NoRecord rows values = values
values_after item (Refused refusal) rows values = values

-- the host's header, M-104: 17 numbers at level 1 and 35 at level 2; of a pair 10 and 28 (`values_long`, `spread_values_long`)
abbrev pub value_count : Item → Level → ℕ
value_count Contract One = 17
value_count Contract Two = 35
value_count Pair One = 10
value_count Pair Two = 28
