-- What a chain over the numbers below another answers, where each is asked a test of its own.
use Rattle.std.specs.Prelude.{ℕ, ◌<◌, ◌≤◌, ◌≡◌, Bool, true, false, Option as Found, Some, None, MatchOption, List, ⊤}
use Rattle.std.specs.Fn.{Called, CalledAt}
use Rattle.std.specs.Iterator.{YieldsThen}
use Rattle.std.specs.List.{FoldsTo}
use Rattle.std.specs.declared.ops.Range.{Range}
use Rattle.std.proofs.Common.{◌∙◌, sym, arith}
use Rattle.std.proofs.Math.Option.{none, some}
use Rattle.std.proofs.iter.Yields.{nat_range_steps}
use Rattle.std.proofs.lemmas.Iterator.{YieldsList-from_range, first_from_Range}
use Rattle.std.proofs.lemmas.Iterator.Search.{all_from_yields_List}
use denote.Param.Members.{Mut}
use denote.Ref.{Bor}
use Rattle.files.specs.Below.{all_below, first_below}
use Rattle.files.specs.BelowLaws.{all_listed, none_first, first_here}

-- `all`
pub all_told : {F : Type 0} {g : Mut F (ℕ × Unit {0}) Bool} {u : Range ℕ} {f : F} {r : Bool} (p : ℕ → Bool) (n : ℕ)
    → (xs : List ℕ) × (o : Found ℕ) × (j : F) × YieldsThen nat_range_steps (record { start = 0; end = n }) xs o u
    × FoldsTo (λ p x q. Called g p (x, tt) true q) f xs j × MatchOption o (r ≡ true) (λ x. (r ≡ false) × ((h : F) × Called g j (x, tt) false h))
    → ((x : ℕ) (b : Bool) (q : F) → Called g f (x, tt) b q → (q ≡ f) × (b ≡ p x)) → r ≡ all_below n p
all_told {u = u} {f = f} {r = r} p n ran each =
    all_from_yields_List p u f r ran (YieldsList-from_range 0 n n (cc) (omega arith)) each ∙ all_listed p n

-- `find`
pub first_told : {F : Type 0} {g : Mut F (Bor ℕ × Unit {0}) Bool} {f : F} (u : Range ℕ) (r : Found ℕ) (p : ℕ → Bool) (n : ℕ)
    → (xs : List ℕ) × (j : F) × YieldsThen nat_range_steps (record { start = 0; end = n }) xs r u
    × FoldsTo (λ p x q. CalledAt g p x false q) f xs j × MatchOption r ⊤ (λ x. (h : F) × CalledAt g j x true h)
    → ((x : ℕ) (b : Bool) (q : F) → CalledAt g f x b q → (q ≡ f) × (b ≡ p x))
    → MatchOption r (first_below n p ≡ none) (λ i. first_below n p ≡ some i)
first_told {f = f} u r p n ran each =
    go r (first_from_Range (record { start = 0; end = n }) u f r (λ x. p x ≡ true) (λ x. p x ≡ false) ran
    (λ x q k. sym (each x true q k).1)
    (λ x q k. let h = each x false q k in (h.0, sym h.1)))
  where
    go : (r : Found ℕ) → MatchOption r ((k : ℕ) → 0 ≤ k → k < n → p k ≡ false) (λ i. (0 ≤ i) × (i < n) × (p i ≡ true) × ((k : ℕ) → 0 ≤ k → k < i → p k ≡ false))
        → MatchOption r (first_below n p ≡ none) (λ i. first_below n p ≡ some i)
    go None h = none_first p n (λ k l. h k (omega arith) l)
    go (Some i) h = first_here p n i h.1 (none_first p i (λ k l. h.3 k (omega arith) l)) h.2
