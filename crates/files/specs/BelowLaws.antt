-- Laws of what is asked of every number below another.
use Rattle.std.specs.Prelude.{ℕ, zero, suc, ◌+◌, ◌*◌, ◌≤◌, ◌<◌, ◌≡◌, refl, ◌⊎◌, Bool, true, false, not, ◌&&◌}
use Rattle.std.specs.List.{list_all, range_with_len}
use Rattle.std.proofs.Common.{ap, ap₂, sym, ◌∙◌, inl, inr, ⊎_elim, suc-mul, add-one, add-zero, arith}
use Rattle.std.proofs.Math.Bool.{and_assoc}
use Rattle.std.proofs.Math.Option.{Option, none, some}
use Rattle.std.proofs.lemmas.Bool.{not-true, not-false}
use Rattle.laws.specs.Choice.{either, never}
use Rattle.laws.specs.Tests.{both, conj}
use Rattle.laws.specs.Order.{order}
use Rattle.files.specs.Below.{all_below, first_below}
use Rattle.files.specs.File.{sum_below}

module _ (p : ℕ → Bool) where
  -- all pass exactly when each does
  pub each_passes : (n : ℕ) → all_below n p ≡ true → (i : ℕ) → i < n → p i ≡ true
  each_passes zero all i h = absurd (omega arith)
  each_passes (suc n) all i h =
      let parts = both (all_below n p) (p n) all in
      ⊎_elim (λ (k : n ≤ i). let here : i ≡ n = omega arith in ap p here ∙ parts.1)
      (λ (k : i < n). each_passes n parts.0 i k)
      (order n i)

  pub all_pass : (n : ℕ) → ((i : ℕ) → i < n → p i ≡ true) → all_below n p ≡ true
  all_pass zero each = refl
  all_pass (suc n) each = conj (all_below n p) (p n) (all_pass n (λ i h. each i (omega arith))) (each n (omega arith))

  pub one_fails : (n i : ℕ) → i < n → p i ≡ false → all_below n p ≡ false
  one_fails n i h e =
      ⊎_elim (λ (all : all_below n p ≡ true). cc (each_passes n all i h)) (λ (k : all_below n p ≡ false). k)
      (either (all_below n p))

  -- one number more passes
  pub pass_on : (i : ℕ) → all_below i p ≡ true → p i ≡ true → all_below (i + 1) p ≡ true
  pass_on i all e = rw (add-one i) (conj (all_below i p) (p i) all e)

  -- a loop over the numbers below n that is told what the test of number i says: it stops where that fails, goes on where it passes
  -- and ends behind the last
  module _ (n i : ℕ) (before : all_below i p ≡ true) where
    pub loop_ends : i ≤ n → n ≤ i → true ≡ all_below n p
    loop_ends h k = let last : n ≡ i = omega arith in sym (ap (λ (m : ℕ). all_below m p) last ∙ before)

    module _ (told : Bool) (is : told ≡ p i) where
      pub loop_stops : i < n → not told ≡ true → false ≡ all_below n p
      loop_stops h e = sym (one_fails n i h (sym is ∙ not-true told e))

      pub loop_goes_on : not told ≡ false → all_below (i + 1) p ≡ true
      loop_goes_on e = pass_on i before (sym is ∙ not-false told e)

  -- one number more fails, and it is still the first to pass
  pub first_on : (i : ℕ) → first_below i p ≡ none → p i ≡ false → first_below (i + 1) p ≡ none
  first_on i before e = rw (add-one i) (rw (before, e))

  pub first_here : (n i : ℕ) → i < n → first_below i p ≡ none → p i ≡ true → first_below n p ≡ some i
  first_here zero i h before e = absurd (omega arith)
  first_here (suc n) i h before e =
      ⊎_elim (λ (k : n ≤ i). let here : n ≡ i = omega arith in rw (here, before, e))
      (λ (k : i < n). rw (first_here n i k before e))
      (order n i)

  -- where each fails, none is the first to pass
  pub none_first : (n : ℕ) → ((i : ℕ) → i < n → p i ≡ false) → first_below n p ≡ none
  none_first zero each = refl
  none_first (suc n) each = rw (none_first n (λ i h. each i (omega arith)), each n (omega arith)) refl

  pub first_passes : (n i : ℕ) → first_below n p ≡ some i → (i < n) × (p i ≡ true)
  first_passes zero i e = absurd (never e)
  first_passes (suc n) i e = go (first_passes n) (first_below n p) refl (either (p n))
    where
      go : ((j : ℕ) → first_below n p ≡ some j → (j < n) × (p j ≡ true))
          → (o : Option ℕ) → first_below n p ≡ o → (p n ≡ true) ⊎ (p n ≡ false) → (i < suc n) × (p i ≡ true)
      go rest (some j) f k =
          let here : some j ≡ some i = rw f at e in
          let same : j ≡ i = cc in
          let r = rest j f in
          (omega arith, ap p (sym same) ∙ r.1)
      go rest none f (inl k) =
          let here : some n ≡ some i = rw (f, k) at e in
          let same : n ≡ i = cc in
          (omega arith, ap p (sym same) ∙ k)
      go rest none f (inr k) =
          let here : none ≡ some i = rw (f, k) at e in
          absurd (never here)

  pub none_passes : (n : ℕ) → first_below n p ≡ none → (i : ℕ) → i < n → p i ≡ false
  none_passes zero e i h = absurd (omega arith)
  none_passes (suc n) e i h = go (none_passes n) (first_below n p) refl (either (p n))
    where
      go : (first_below n p ≡ none → (j : ℕ) → j < n → p j ≡ false)
          → (o : Option ℕ) → first_below n p ≡ o → (p n ≡ true) ⊎ (p n ≡ false) → p i ≡ false
      go rest (some j) f k =
          let here : some j ≡ none = rw f at e in
          absurd (never (sym here))
      go rest none f (inl k) =
          let here : some n ≡ none = rw (f, k) at e in
          absurd (never (sym here))
      go rest none f (inr k) =
          ⊎_elim (λ (l : n ≤ i). let here : i ≡ n = omega arith in ap p here ∙ k)
          (λ (l : i < n). rest f i l)
          (order n i)

module _ (p q : ℕ → Bool) where
  pub all_same : (n : ℕ) → ((i : ℕ) → i < n → p i ≡ q i) → all_below n p ≡ all_below n q
  all_same zero same = refl
  all_same (suc n) same = ap₂ ◌&&◌ (all_same n (λ i h. same i (omega arith))) (same n (omega arith))

-- the first of the numbers settles it, or else those behind it
first_of_all : (p : ℕ → Bool) (n : ℕ) → all_below (suc n) p ≡ p 0 && all_below n (λ i. p (suc i))
first_of_all p zero = last (p 0)
  where
    last : (b : Bool) → true && b ≡ b && true
    last true = refl
    last false = refl
first_of_all p (suc n) = rw (first_of_all p n) (and_assoc (p 0) (all_below n (λ i. p (suc i))) (p (suc n)))

-- a test of all numbers from one on is what a chain over their range asks
all_from : (p : ℕ → Bool) (a n : ℕ) → list_all p (range_with_len a n) ≡ all_below n (λ i. p (a + i))
all_from p a zero = refl
all_from p a (suc n) =
    let here : p a ≡ p (a + 0) = ap p (sym (add-zero a)) in
    let behind = all_from p (a + 1) n ∙ all_same (λ i. p (a + 1 + i)) (λ i. p (a + suc i)) n (λ i h. ap p (omega arith)) in
    ap₂ ◌&&◌ here behind ∙ sym (first_of_all (λ i. p (a + i)) n)

pub all_listed : (p : ℕ → Bool) (n : ℕ) → list_all p (range_with_len 0 n) ≡ all_below n p
all_listed p n = all_from p 0 n ∙ all_same (λ i. p (0 + i)) p n (λ i h. ap p (omega arith))

module _ (f g : ℕ → ℕ) where
  pub sum_same : (n : ℕ) → ((i : ℕ) → i < n → f i ≡ g i) → sum_below n f ≡ sum_below n g
  sum_same zero same = refl
  sum_same (suc n) same = ap₂ ◌+◌ (sum_same n (λ i h. same i (omega arith))) (same n (omega arith))

module _ (f : ℕ → ℕ) where
  pub sum_on : (i : ℕ) → sum_below (i + 1) f ≡ sum_below i f + f i
  sum_on i = rw (add-one i)

  -- a sum reaches its parts
  pub sum_reaches : (n i : ℕ) → i < n → sum_below i f + f i ≤ sum_below n f
  sum_reaches zero i h = absurd (omega arith)
  sum_reaches (suc n) i h =
      ⊎_elim (λ (k : n ≤ i). let here : n ≡ i = omega arith in rw here (omega arith))
      (λ (k : i < n). omega (arith, sum_reaches n i k))
      (order n i)

  -- n numbers of at most m each
  pub sum_under : (n m : ℕ) → ((i : ℕ) → i < n → f i ≤ m) → sum_below n f ≤ n * m
  sum_under zero m each = omega arith
  sum_under (suc n) m each =
      let rest : sum_below n f ≤ n * m = sum_under n m (λ i h. each i (omega arith)) in
      let here : f n ≤ m = each n (omega arith) in
      rw (suc-mul n m) (omega arith)
