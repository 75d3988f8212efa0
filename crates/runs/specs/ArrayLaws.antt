-- From the numbers that a call over numbers is lent to the array of runs: what is promised of the one is promised of the other.
use Rattle.std.specs.Prelude.{ℕ, ◌*◌, min, ◌≡◌, List, length, take}
use Rattle.std.proofs.Common.{sym, ap, ◌∙◌}
use Rattle.copies.specs.declared.run.Run.{Run}
use Rattle.copies.specs.Rows.{flat, most_runs}
use Rattle.runs.specs.Wanted.{in_runs}
use Rattle.copies.specs.FlatLaws.{in_front, in_fronts, front_length}
use Rattle.runs.specs.Promises.{Over}

module _ {A : Type 0} (numbers_of : A → List ℕ) (list : List ℕ) (runs : List Run) (lent count : ℕ) (numbers : List ℕ) (long : length runs ≡ most_runs) (few : count ≡ min lent most_runs) (same : numbers ≡ flat runs) (core answer : A)
    (told : numbers_of answer ≡ in_runs list count (numbers_of core)) where
  in_lent : numbers_of answer ≡ in_runs list (length (take lent runs)) (numbers_of core)
  in_lent = told ∙ ap (λ (n : ℕ). in_runs list n (numbers_of core)) (few ∙ sym (front_length runs lent long))

  -- the numbers are looked at
  pub array_seen : (promise : List ℕ → A → Type 0) → promise (take (2 * count) numbers) core → Over numbers_of list (take lent runs) (take lent runs) (λ ns ns' c. promise ns c) answer
  array_seen promise p = record { core = core; promised = in_front (λ ns. promise ns core) runs numbers lent count long few same p; answers = in_lent }

  -- and others left
  pub array_left : (promise : List ℕ → List ℕ → A → Type 0) (runs' : List Run) (numbers' : List ℕ) → length runs' ≡ most_runs → flat runs' ≡ numbers' → promise (take (2 * count) numbers) (take (2 * count) numbers') core
      → Over numbers_of list (take lent runs) (take lent runs') promise answer
  array_left promise runs' numbers' long' same' p =
      record { core = core; promised = in_fronts (λ ns ns'. promise ns ns' core) runs runs' numbers numbers' lent count long long' few same same' p; answers = in_lent }
