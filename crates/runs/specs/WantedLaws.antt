-- Laws of 15 for gap rows, in runs.
use Rattle.std.specs.Prelude.{ℕ, ◌≤◌, ◌<◌, ◌≡◌, refl, Bool, true, false, cond, ◌&&◌, List, ◌++◌, ltb, eqb, get_or, set}
use Rattle.std.proofs.Common.{arith, lt-ltb, le-ltb, get_or-set_other}
use Rattle.std.proofs.Math.ListN.{get_or-append}
use Rattle.std.proofs.lemmas.List.{set-append_left}
use Rattle.laws.specs.Tests.{and_false}
use Rattle.state.specs.declared.refusal.Refusal.{Refusal}
use Rattle.state.specs.declared.refusal.Refusal.TheVariants.{Memory}
use Rattle.state.specs.Refusals.{refusal_numbers}
use Rattle.state.specs.RefusalsLaws.{refusal_four}
use Rattle.runs.specs.Wanted.{runs_wanted, in_runs}

-- too few are lent
pub in_runs_short : (list : List ℕ) (lent cells : ℕ) (behind : List ℕ) → lent < runs_wanted list
    → in_runs list lent (refusal_numbers (Memory cells) ++ behind) ≡ refusal_numbers (Memory (runs_wanted list)) ++ behind
unfolding in_runs
in_runs_short list lent cells behind h = rw (lt-ltb lent (runs_wanted list) h)

-- enough are lent
pub in_runs_enough : (list : List ℕ) (lent : ℕ) (numbers : List ℕ) → runs_wanted list ≤ lent → in_runs list lent numbers ≡ numbers
unfolding in_runs
in_runs_enough list lent numbers h = rw (le-ltb lent (runs_wanted list) h, and_false (eqb (get_or numbers 0 0) 15))

-- any other answer
pub in_runs_other : (list : List ℕ) (lent : ℕ) (numbers : List ℕ) → eqb (get_or numbers 0 0) 15 ≡ false → in_runs list lent numbers ≡ numbers
unfolding in_runs
in_runs_other list lent numbers h = rw h

-- its first number stays
pub in_runs_first : (list : List ℕ) (lent : ℕ) (numbers : List ℕ) → get_or (in_runs list lent numbers) 0 0 ≡ get_or numbers 0 0
unfolding in_runs
in_runs_first list lent numbers = go (eqb (get_or numbers 0 0) 15 && ltb lent (runs_wanted list))
  where
    go : (t : Bool) → get_or (cond t (set numbers 3 (runs_wanted list)) numbers) 0 0 ≡ get_or numbers 0 0
    go true = get_or-set_other numbers 3 0 (runs_wanted list) 0 (λ e. omega arith)
    go false = refl

-- and what stands behind a refusal's four
pub in_runs_behind : (list : List ℕ) (lent : ℕ) (r : Refusal) (behind : List ℕ) → in_runs list lent (refusal_numbers r ++ behind) ≡ in_runs list lent (refusal_numbers r) ++ behind
unfolding in_runs
in_runs_behind list lent r behind =
    rw (get_or-append (refusal_numbers r) behind 0 0 (omega (arith, refusal_four r))) (go (eqb (get_or (refusal_numbers r) 0 0) 15 && ltb lent (runs_wanted list)))
  where
    go : (t : Bool) → cond t (set (refusal_numbers r ++ behind) 3 (runs_wanted list)) (refusal_numbers r ++ behind) ≡ cond t (set (refusal_numbers r) 3 (runs_wanted list)) (refusal_numbers r) ++ behind
    go true = set-append_left (refusal_numbers r) behind 3 (runs_wanted list) (omega (arith, refusal_four r))
    go false = refl
