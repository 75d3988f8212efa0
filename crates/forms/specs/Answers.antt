-- The answers of this crate in the paper's numbers. A form has none there, and stands beside them.
use Rattle.std.specs.Prelude.{ℕ, ◌≡◌, List, [], ◌∷◌, Option, Some, None}
use Rattle.std.proofs.Math.Option.{Option as Maybe, none, some}
use Rattle.laws.specs.Refused.{code_no, length_no}
use Rattle.forms.specs.declared.rows.Level.{Level}
use Rattle.forms.specs.declared.rows.Level.TheVariants.{One, Two}
use Rattle.forms.specs.declared.forms.Form.{Form}
use Rattle.forms.specs.declared.forms.Named.{Named}
use Rattle.forms.specs.declared.forms.Named.TheVariants as is
use Rattle.forms.specs.declared.forms.Item.{Item}
use Rattle.forms.specs.declared.forms.Item.TheVariants.{Contract, Pair}
use Rattle.forms.specs.declared.forms.Subject.{Subject}
use Rattle.forms.specs.declared.forms.Subject.TheVariants.{Nothing, Of}

-- a word of our own: an answer that has a form or none, by its numbers and that form
pub record Tells {A : Type 0} (numbers : A → List ℕ) (form : A → Maybe Form) (meant answer : A) : Type 0 where
  pub says : numbers answer ≡ numbers meant
  pub form_is : form answer ≡ form meant

-- 01 "What may be asked": the level asked for is 1 or 2
abbrev pub level_number : Level → ℕ
level_number One = 1
level_number Two = 2

-- 01 "What may be asked": the level of what a message tells of, 0 where there is none
abbrev pub subject_level : Subject → ℕ
subject_level Nothing = 0
subject_level (Of item level) = level_number level

-- M-100: how many contracts a key names
abbrev pub item_number : Item → ℕ
item_number Contract = 1
item_number Pair = 2

-- 01 "What may be asked", M-100: how many contracts the key of what a message tells of names, and the level; 0 where there is none
abbrev pub subject_numbers : Subject → List ℕ
subject_numbers Nothing = 0 ∷ 0 ∷ []
subject_numbers (Of item level) = item_number item ∷ level_number level ∷ []

-- 01, the table's row 8: 8 for a table code with none of its lengths
abbrev pub named_numbers : Named → List ℕ
named_numbers (is.Form form) = 0 ∷ []
named_numbers is.NoLength = length_no ∷ []
named_numbers is.PassedOver = 0 ∷ []

-- a word of our own: the form that is named
abbrev pub form_named : Named → Maybe Form
form_named (is.Form form) = some form
form_named is.NoLength = none
form_named is.PassedOver = none

-- 01, the order of checks of the writer: 6 for a code that is not in the table
abbrev pub chosen_numbers : Option Form → List ℕ
chosen_numbers (Some form) = 0 ∷ []
chosen_numbers None = code_no ∷ []

-- a word of our own: the form that is chosen
abbrev pub form_chosen : Option Form → Maybe Form
form_chosen (Some form) = some form
form_chosen None = none
