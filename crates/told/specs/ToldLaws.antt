-- Laws of what a host is told.
use Rattle.std.specs.Prelude.{ℕ, ◌≡◌, refl, List, [], ◌∷◌, ◌++◌, length, get_or}
use Rattle.std.proofs.Common.{sym, ap, ◌∙◌, arith}
use Rattle.told.specs.declared.answer.Told.{Told}
use Rattle.told.specs.Told.{told_of, Tells, with_fourth}

-- what is told is handed on
pub handed_on : (numbers : List ℕ) {told : Told} {returned : ℕ} {answer : List ℕ} → told ≡ told_of numbers
    → (returned ≡ told.number) × (answer ≡ told.answer) → Tells numbers returned answer
handed_on numbers e t =
    record { number = t.0 ∙ ap (λ (x : Told). x.number) e; values = t.1 ∙ ap (λ (x : Told). x.answer) e }

-- of one answer one thing is told
pub told_once : {A : Type 0} (numbers : A → List ℕ) {a b : A} {r s : ℕ} {answer other : List ℕ} → a ≡ b → Tells (numbers a) r answer
    → Tells (numbers b) s other → (r ≡ s) × (answer ≡ other)
told_once numbers e t u =
    let same = ap numbers e in
    (t.number ∙ ap (λ ns. (told_of ns).number) same ∙ sym u.number, t.values ∙ ap (λ ns. (told_of ns).answer) same ∙ sym u.values)

four : (ns : List ℕ) → length ns ≡ 4 → ns ≡ get_or ns 0 0 ∷ get_or ns 1 0 ∷ get_or ns 2 0 ∷ get_or ns 3 0 ∷ []
four [] e = absurd (omega arith)
four (a ∷ []) e = absurd (omega arith)
four (a ∷ b ∷ []) e = absurd (omega arith)
four (a ∷ b ∷ c ∷ []) e = absurd (omega arith)
four (a ∷ b ∷ c ∷ d ∷ []) e = refl
four (a ∷ b ∷ c ∷ d ∷ x ∷ ns) e = absurd (omega arith)

-- four numbers are the number returned and the first three of the answer
pub four_told : (ns : List ℕ) → length ns ≡ 4
    → record { number = get_or ns 0 0; answer = get_or ns 1 0 ∷ get_or ns 2 0 ∷ get_or ns 3 0 ∷ 0 ∷ [] } ≡ told_of ns
four_told ns long = sym (ap told_of (four ns long))

-- one behind them is the answer's fourth
pub fourth_told : (ns : List ℕ) (fourth : ℕ) {told : Told} → length ns ≡ 4 → told ≡ told_of ns → with_fourth told fourth ≡ told_of (ns ++ (fourth ∷ []))
fourth_told ns fourth long e =
    ap (λ (t : Told). with_fourth t fourth) (e ∙ sym (four_told ns long)) ∙ sym (ap (λ (l : List ℕ). told_of (l ++ (fourth ∷ []))) (four ns long))
