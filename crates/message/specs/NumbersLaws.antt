-- An answer's numbers tell the answer; of an update, with its form.
use Rattle.std.specs.Prelude.{ℕ, ◌≡◌, refl, cond, List, eqb, length, get_or, Ok, Err, Result}
use Rattle.std.proofs.Math.Option.{Option, none, some}
use Rattle.forms.specs.declared.forms.Form.{Form}
use Rattle.forms.specs.AnswersLaws.{told_with_form}
use Rattle.message.specs.declared.body.What.{What}
use Rattle.message.specs.declared.body.What.TheVariants.{Heartbeat, PassedOver, Update}
use Rattle.head.specs.declared.head.Fault.{Fault}
use Rattle.message.specs.Numbers.{what_numbers, form_told, TellsWhat}
use Rattle.head.proofs.FaultsTold.{fault_back}
use Rattle.head.specs.FaultsLaws.{fault_of, good}

abbrev what_by : Option Form → List ℕ → Result What Fault
what_by (some form) ns = Ok (Update (get_or ns 1 0) form (get_or ns 3 0))
what_by none ns = cond (good ns) (cond (eqb (length ns) 1) (Ok Heartbeat) (Ok (PassedOver (get_or ns 1 0)))) (Err (fault_of ns))

what_back : (w : Result What Fault) → what_by (form_told w) (what_numbers w) ≡ w
what_back (Ok Heartbeat) = refl
what_back (Ok (PassedOver number)) = refl
what_back (Ok (Update number form place)) = refl
what_back (Err fault) = let b = fault_back fault in rw (b.1, b.0)

pub what_told : {v w : Result What Fault} → TellsWhat v w → w ≡ v
what_told = told_with_form what_by what_back
