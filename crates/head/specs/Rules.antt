-- The first broken rule's fault decides a message: 01, the order of checks.
use Rattle.std.specs.Prelude.{List, ℕ, Ok, Err}
use Rattle.std.proofs.Math.Option.{Option, none, some}
use Rattle.laws.specs.Rules.{Rule, first_broken}
use Rattle.head.specs.declared.head.Fault.{Fault}
use Rattle.head.specs.Faults.{Head}
use Rattle.head.specs.Head.{head_rules}

-- 01, the table of refusals: no broken rule is no fault
abbrev pub head_by : Option Fault → Head
head_by none = Ok tt
head_by (some fault) = Err fault

-- 01, the order of checks: the first broken rule decides
abbrev pub first_fault : List (Rule Fault) → Head
first_fault rules = head_by (first_broken rules)

-- 01, the order of checks: the first broken one decides
unfoldable pub head_of : ℕ → Option ℕ → List ℕ → Head
head_of letter segment bytes = first_fault (head_rules letter segment bytes)
