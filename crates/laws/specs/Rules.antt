-- Rules in an order, and the first broken one: 01, the order of checks.
use Rattle.std.specs.Prelude.{◌≡◌, Bool, true, false, cond, List, [], ◌∷◌, ◌++◌}
use Rattle.std.proofs.Math.Option.{Option, none, some}

-- 01, the order of checks: a rule: whether it holds, and the refusal of what breaks it
pub record Rule (Refusal : Type 0) : Type 0 where
  pub holds : Bool
  pub refusal : Refusal

-- 01, the order of checks: the first broken rule decides
abbrev pub first_broken : {Refusal : Type 0} → List (Rule Refusal) → Option Refusal
first_broken [] = none
first_broken (rule ∷ rules) = cond rule.holds (first_broken rules) (some rule.refusal)

-- 01, the order of checks: all of the rules hold
abbrev pub Hold : {Refusal : Type 0} → List (Rule Refusal) → Type 0
Hold [] = Unit {0}
Hold (rule ∷ rules) = (rule.holds ≡ true) × Hold rules

-- 01, the order of checks: one of the rules is broken, with this refusal, and all before it hold
pub record Broken {Refusal : Type 0} (rules : List (Rule Refusal)) (refusal : Refusal) : Type 0 where
  pub before : List (Rule Refusal)
  pub rule : Rule Refusal
  pub behind : List (Rule Refusal)
  pub in_order : rules ≡ before ++ (rule ∷ behind)
  pub hold : Hold before
  pub breaks : rule.holds ≡ false
  pub refusal_is : rule.refusal ≡ refusal
