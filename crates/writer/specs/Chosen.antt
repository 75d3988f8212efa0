-- What is written for a code: 01 "What may be asked".
use Rattle.std.specs.Prelude.{ℕ, Bool, true, false, Option, Some, None}
use Rattle.forms.specs.declared.rows.Level.{Level}
use Rattle.forms.specs.declared.forms.Item.{Item}
use Rattle.forms.specs.declared.forms.Form.{Form}
use Rattle.forms.specs.declared.forms.Named.TheVariants as is
use Rattle.forms.specs.Forms.{written_form}
use Rattle.head.specs.Tests.{takes_number}
use Rattle.writer.specs.declared.writing.Code.{Code}

-- 01 "What may be asked", M-100: the form that is written of a contract or of a pair for a code and a level; a heartbeat's level
-- isn't looked at
abbrev pub form_written : Item → Code → Level → Option Form
form_written item code level = written_form code.0 code.1 item level

-- 01, the table's row 6, M-100: the code is one of the table, for what is asked
abbrev pub in_table : Option Form → Bool
in_table (Some form) = true
in_table None = false

-- 01, the table's row 10: the number that a message of the form may have
abbrev pub numbered : Option Form → ℕ → Bool
numbered (Some form) number = takes_number (is.Form form) number
numbered None number = true
