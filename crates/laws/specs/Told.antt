-- An answer's numbers tell the answer, where there is a way back from them.
use Rattle.std.specs.Prelude.{◌≡◌}
use Rattle.std.proofs.Common.{sym, ap, ◌∙◌}

-- a way back makes values with the same numbers the same
module _ {A B : Type 0} (numbers : A → B) (back : B → A) (again : (a : A) → back (numbers a) ≡ a) where
  pub told : (a b : A) → numbers a ≡ numbers b → a ≡ b
  told a b e = sym (again a) ∙ (ap back e ∙ again b)
