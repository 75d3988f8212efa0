-- Laws of the lookups' refusals: 6 and 13 are given exactly when what is sought isn't listed.
use Rattle.std.specs.Prelude.{ℕ, ◌<◌, ◌≡◌, refl, ◌↔◌, List, [], ◌∷◌, Option as Found, Some, None}
use Rattle.std.proofs.Math.Path.{sym}
use Rattle.std.proofs.Common.{◌∙◌, arith}
use Rattle.std.proofs.Math.Option.{Option, none, some}
use Rattle.laws.specs.Choice.{never}
use Rattle.laws.specs.Refused.{code_no, contract_no}
use Rattle.files.specs.declared.habit.Habit.{Habit}
use Rattle.lookup.specs.Answers.{found_numbers, looked_up}
use Rattle.lookup.specs.AnswersLaws.{found_told}
use Rattle.files.specs.File.{segments_of, letter_at, count_at, key_by}
use Rattle.lookup.specs.Lookup.{segment_of, lookup}
use Rattle.contracts.specs.Sound.{HeaderBy, SoundBy}
use Rattle.lookup.specs.LookupLaws.{segment_exact, key_exact}

-- a lookup that answers a place exactly where something is listed answers none exactly where nothing is
module _ (answer : Option ℕ) (Is : ℕ → Type 0) (exact : (i : ℕ) → answer ≡ some i ↔ Is i) where
  none_exact : answer ≡ none ↔ ((i : ℕ) → Is i → ⊥)
  none_exact = ((λ e i h. never (sym e ∙ (exact i).1 h)), (λ nothing. go answer refl nothing))
    where
      go : (a : Option ℕ) → answer ≡ a → ((i : ℕ) → Is i → ⊥) → answer ≡ none
      go none e nothing = e
      go (some i) e nothing = absurd (nothing i ((exact i).0 e))

  -- and then its number is the refusal's
  refused_exact : (refusal : ℕ) (r : Found ℕ) → found_numbers refusal r ≡ looked_up refusal answer
      → found_numbers refusal r ≡ refusal ∷ [] ↔ ((i : ℕ) → Is i → ⊥)
  refused_exact refusal (Some i) e =
      ((λ n. let z : ◌≡◌ {A = ℕ} 0 1 = cc in absurd (omega arith)), (λ nothing. absurd (never (sym (none_exact.1 nothing) ∙ sym (found_told refusal (Some i) answer e)))))
  refused_exact refusal None e = ((λ n. none_exact.0 (sym (found_told refusal None answer e))), (λ nothing. refl))

module _ (list : List ℕ) where
  -- 6 is given exactly when no segment has the letter
  pub letter_refused : {habit : Habit} → HeaderBy habit list → (letter : ℕ) (r : Found ℕ) → found_numbers code_no r ≡ looked_up code_no (segment_of list letter)
      → found_numbers code_no r ≡ code_no ∷ [] ↔ ((i : ℕ) → (i < segments_of list) × (letter_at list i ≡ letter) → ⊥)
  letter_refused h letter r e =
      refused_exact (segment_of list letter) (λ i. (i < segments_of list) × (letter_at list i ≡ letter)) (segment_exact list h letter)
      code_no r e

module _ {habit : Habit} (list : List ℕ) (i : ℕ) (key : List ℕ) where
  -- 13 is given exactly when the key isn't listed
  pub key_refused : SoundBy habit list → i < segments_of list → (r : Found ℕ) → found_numbers contract_no r ≡ looked_up contract_no (lookup habit list i key).place
      → found_numbers contract_no r ≡ contract_no ∷ [] ↔ ((k : ℕ) → (k < count_at list i) × (key_by habit list i k ≡ key) → ⊥)
  key_refused s l r e =
      refused_exact (lookup habit list i key).place (λ k. (k < count_at list i) × (key_by habit list i k ≡ key)) (key_exact list i key s l)
      contract_no r e
