-- What writing a message promises: the answer, and every lent byte afterwards.
use Rattle.std.specs.Prelude.{ℕ, ◌≡◌, List, [], ◌∷◌, length, Option, Result}
use Rattle.laws.specs.Rules.{first_broken}
use Rattle.quote.specs.declared.quote.Quote.{Quote}
use Rattle.spread.specs.declared.spread.SpreadQuote.{SpreadQuote}
use Rattle.quote.specs.Quote.{values_of}
use Rattle.spread.specs.Spread.{spread_values_of}
use Rattle.forms.specs.declared.rows.Level.{Level}
use Rattle.forms.specs.declared.forms.Form.{Form}
use Rattle.forms.specs.declared.forms.Item.{Item}
use Rattle.forms.specs.declared.forms.Item.TheVariants.{Contract, Pair}
use Rattle.state.specs.declared.refusal.Refusal.{Refusal}
use Rattle.writer.specs.declared.writing.Code.{Code}
use Rattle.state.specs.Answers.{written_numbers, answered, left_by}
use Rattle.writer.specs.Writer.{values_written, write_rules, length_written, data_written, message_put}
use Rattle.writer.specs.Chosen.{form_written}

-- 01 "What may be asked": write a message. The writer answers its length, and no byte past the message is written
pub record WroteForm (form : Option Form) (code : Code) (number : ℕ) (key values out : List ℕ) (answer : Result ℕ Refusal) (out' : List ℕ) : Type 0 where
  pub answers : written_numbers answer ≡ answered (first_broken (write_rules form number key values (length out))) (length_written form ∷ [])
  pub out_left : out' ≡ left_by (first_broken (write_rules form number key values (length out))) out (message_put code number (data_written form key values).bytes out)

-- 01 "What may be asked", M-100: a message of the form that the code and the level choose, of a contract or of a pair, from the
-- values of its quote in that form
abbrev pub WroteValues : Item → Code → Level → ℕ → List ℕ → (Form → List ℕ) → List ℕ → Result ℕ Refusal → List ℕ → Type 0
WroteValues item code level number key values out answer out' =
    WroteForm (form_written item code level) code number key (values_written (form_written item code level) values) out answer out'

-- 01 "What may be asked": write a message: a heartbeat, or an update of a contract
abbrev pub WroteMessage : Code → Level → ℕ → List ℕ → Quote → List ℕ → Result ℕ Refusal → List ℕ → Type 0
WroteMessage code level number key quote out answer out' = WroteValues Contract code level number key (λ form. values_of form quote) out answer out'

-- M-100: write an update of a pair
abbrev pub WroteSpread : Code → Level → ℕ → List ℕ → SpreadQuote → List ℕ → Result ℕ Refusal → List ℕ → Type 0
WroteSpread code level number pair quote out answer out' = WroteValues Pair code level number pair (λ form. spread_values_of form quote) out answer out'
