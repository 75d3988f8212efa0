-- The fault that is answered is that of the first broken rule.
use Rattle.std.specs.Prelude.{ℕ, ◌≡◌, refl, List, ◌++◌, Ok, Err}
use Rattle.std.proofs.Common.{ap, arith}
use Rattle.std.proofs.Math.Option.{Option, none, some}
use Rattle.laws.specs.Rules.{Rule, first_broken, Hold, Broken}
use Rattle.laws.specs.RulesLaws.{none_hold, hold_none, some_broken, broken_some, front_holds, front_broken}
use Rattle.head.specs.declared.head.Fault.{Fault}
use Rattle.head.specs.Faults.{Head}
use Rattle.head.specs.Rules.{head_by, first_fault}

pub unlike : {fault : Fault} → ◌≡◌ {A = Head} (Err fault) (Ok tt) → ⊥
unlike e = let z : ◌≡◌ {A = ℕ} 0 1 = cc in omega arith

by_none : (o : Option Fault) → head_by o ≡ Ok tt → o ≡ none
by_none none e = refl
by_none (some fault) e = absurd (unlike e)

by_some : (o : Option Fault) (fault : Fault) → head_by o ≡ Err fault → o ≡ some fault
by_some none fault e = cc
by_some (some other) fault e = cc

-- none is broken exactly when all hold
pub good_hold : (rules : List (Rule Fault)) → first_fault rules ≡ Ok tt → Hold rules
good_hold rules e = none_hold rules (by_none (first_broken rules) e)

pub hold_good : (rules : List (Rule Fault)) → Hold rules → first_fault rules ≡ Ok tt
hold_good rules h = ap head_by (hold_none rules h)

-- a fault is answered exactly when its rule is broken and all before it hold
pub bad_broken : (rules : List (Rule Fault)) (fault : Fault) → first_fault rules ≡ Err fault → Broken rules fault
bad_broken rules fault e = some_broken rules fault (by_some (first_broken rules) fault e)

pub broken_bad : (rules : List (Rule Fault)) (fault : Fault) → Broken rules fault → first_fault rules ≡ Err fault
broken_bad rules fault b = ap head_by (broken_some rules fault b)

-- rules in front of others are judged first
abbrev pub and_then : Head → Head → Head
and_then (Ok _) next = next
and_then (Err fault) next = Err fault

pub first_append : (rules more : List (Rule Fault)) → first_fault (rules ++ more) ≡ and_then (first_fault rules) (first_fault more)
first_append rules more = go (first_broken rules) refl
  where
    go : (o : Option Fault) → first_broken rules ≡ o → first_fault (rules ++ more) ≡ and_then (first_fault rules) (first_fault more)
    go none e = rw (e, front_holds rules more (none_hold rules e))
    go (some fault) e = rw (e, front_broken rules more fault e)
