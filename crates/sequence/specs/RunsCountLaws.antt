-- The number of runs that ascend and stand apart is that of the set of numbers they name.
use Rattle.std.specs.Prelude.{ℕ, zero, suc, ◌+◌, ◌≤◌, ◌<◌, ◌≡◌, refl, Bool, true, false, ◌||◌, List, [], length}
use Rattle.std.proofs.Common.{sym, ap, ◌∙◌, ⊎_elim, arith}
use Rattle.laws.specs.Choice.{either}
use Rattle.laws.specs.Order.{order}
use Rattle.sequence.specs.Runs.{Run, names, missing, runs_in}
use Rattle.sequence.specs.Apart.{Apart, none, next}
use Rattle.sequence.specs.RunsLaws.{names_in, names_above, named, none_below}

-- a set that holds no number below a bound has no run there
runs_none : (held : ℕ → Bool) (n : ℕ) → ((k : ℕ) → k < n → held k ≡ false) → runs_in held n ≡ 0
runs_none held zero h = refl
runs_none held (suc n) h =
    let rest = runs_none held n (λ k l. h k (omega arith)) in
    simp (h n (omega arith)) (omega arith)

-- a run and a set that stands apart behind it
module _ (r : Run) (held : ℕ → Bool) (apart : (k : ℕ) → k < r.last + 2 → held k ≡ false) where
  runs_within : (n : ℕ) → n ≤ r.last → runs_in (λ k. names r k || held k) n ≡ 0
  runs_within zero h = refl
  runs_within (suc n) h =
      let rest = runs_within n (omega arith) in
      ⊎_elim (λ (e : names r n ≡ true).
      let both = named r n e in
      simp (e, names_in r (suc n) (omega arith) h) (omega arith))
      (λ (e : names r n ≡ false). simp (e, apart n (omega arith)) (omega arith))
      (either (names r n))

  one_more : r.first ≤ r.last → (n : ℕ) → r.last < n → runs_in (λ k. names r k || held k) n ≡ suc (runs_in held n)
  one_more l zero h = absurd (omega arith)
  one_more l (suc n) h =
      let inner = one_more l n in
      ⊎_elim (λ (o : n ≤ r.last).
      let e : n ≡ r.last = omega arith in
      let before = runs_within n o in
      let none = runs_none held n (λ k m. apart k (omega arith)) in
      simp (names_in r n (omega arith) o, names_above r (suc n) (omega arith), apart (suc n) (omega arith), apart n (omega arith)) (omega arith))
      (λ (o : r.last < n).
      let rest = inner o in
      simp (names_above r n o, names_above r (suc n) (omega arith)) (omega arith))
      (order n r.last)

pub runs_counted : {highest from : ℕ} {rs : List Run} (n : ℕ) → Apart highest from rs → highest < n → length rs ≡ runs_in (missing rs) n
runs_counted n none h = sym (runs_none (missing []) n (λ k l. refl))
runs_counted n (next r {rs = rs} f l u p) h =
    ap suc (runs_counted n p h) ∙ sym (one_more r (missing rs) (λ k m. none_below k p m) l n (omega arith))
