-- An answer's numbers tell the answer; with the form, where it may have one.
use Rattle.std.specs.Prelude.{ℕ, ◌≡◌, refl, cond, List, [], ◌∷◌, eqb, get_or, Option, Some, None}
use Rattle.std.proofs.Common.{sym, ap₂, ◌∙◌}
use Rattle.std.proofs.Math.Option.{Option as Maybe, none, some}
use Rattle.laws.specs.Refused.{length_no}
use Rattle.laws.specs.Told.{told}
use Rattle.forms.specs.declared.rows.Level.{Level}
use Rattle.forms.specs.declared.rows.Level.TheVariants.{One, Two}
use Rattle.forms.specs.declared.forms.Form.{Form}
use Rattle.forms.specs.declared.forms.Named.{Named}
use Rattle.forms.specs.declared.forms.Named.TheVariants as is
use Rattle.forms.specs.declared.forms.Subject.{Subject}
use Rattle.forms.specs.declared.forms.Subject.TheVariants.{Nothing, Of}
use Rattle.forms.specs.declared.forms.Item.TheVariants.{Contract, Pair}
use Rattle.forms.specs.Answers.{Tells, subject_numbers, named_numbers, form_named, chosen_numbers, form_chosen}

module _ {A : Type 0} {numbers : A → List ℕ} {form : A → Maybe Form} where
  pub tells : {meant answer : A} → answer ≡ meant → Tells numbers form meant answer
  tells e = rw e (record { says = refl; form_is = refl })

  -- a way back makes answers with the same numbers and the same form the same
  pub told_with_form : (back : Maybe Form → List ℕ → A) → ((a : A) → back (form a) (numbers a) ≡ a)
      → {meant answer : A} → Tells numbers form meant answer → answer ≡ meant
  told_with_form back again {meant} {answer} t = sym (again answer) ∙ (ap₂ back t.form_is t.says ∙ again meant)

level_by : ℕ → Level
level_by level = cond (eqb level 1) One Two

subject_by : List ℕ → Subject
subject_by ns = get_or (Nothing ∷ Of Contract (level_by (get_or ns 1 0)) ∷ Of Pair (level_by (get_or ns 1 0)) ∷ []) (get_or ns 0 0) Nothing

subject_back : (s : Subject) → subject_by (subject_numbers s) ≡ s
unfolding subject_by level_by
subject_back Nothing = refl
subject_back (Of Contract One) = refl
subject_back (Of Contract Two) = refl
subject_back (Of Pair One) = refl
subject_back (Of Pair Two) = refl

pub subject_told : (s t : Subject) → subject_numbers s ≡ subject_numbers t → s ≡ t
subject_told = told subject_numbers subject_by subject_back

abbrev named_by : Maybe Form → List ℕ → Named
named_by (some form) ns = is.Form form
named_by none ns = cond (eqb (get_or ns 0 0) length_no) is.NoLength is.PassedOver

named_back : (n : Named) → named_by (form_named n) (named_numbers n) ≡ n
named_back (is.Form form) = refl
named_back is.NoLength = refl
named_back is.PassedOver = refl

pub named_told : {n m : Named} → Tells named_numbers form_named n m → m ≡ n
named_told = told_with_form named_by named_back

abbrev chosen_by : Maybe Form → List ℕ → Option Form
chosen_by (some form) ns = Some form
chosen_by none ns = None

chosen_back : (c : Option Form) → chosen_by (form_chosen c) (chosen_numbers c) ≡ c
chosen_back (Some form) = refl
chosen_back None = refl

pub chosen_told : {c d : Option Form} → Tells chosen_numbers form_chosen c d → d ≡ c
chosen_told = told_with_form chosen_by chosen_back
