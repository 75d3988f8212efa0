-- The loop's invariant: halving the keys that are left finds what halving all of them finds, and with those compared so far it
-- compares as many. The keys left are among all, and each one compared is no longer left, so that nothing overflows.
use Rattle.std.proofs.Common.{ℕ, List, ◌+◌, ◌-◌, ◌*◌, ◌/◌, ◌<◌, ◌≡◌, sym, ap, ◌∙◌, arith, get_or}
use Rattle.laws.specs.Refused.{contract_no}
use Rattle.std.specs.declared.cmp.Ordering.{Ordering}
use Rattle.files.specs.declared.habit.Habit.{Habit}
use Rattle.lookup.specs.Answers.{looked_up}
use Rattle.files.specs.File.{offset_at, key_from}
use Rattle.files.specs.FileLaws.{count_under, offset_under}
use Rattle.lookup.specs.Halving.{Halved, halved_from}
use Rattle.lookup.specs.HalvingLaws.{none_left, match_stops, goes_below, goes_above}
use Rattle.files.specs.Keys.{order_of}
use Rattle.lookup.specs.Lookup.{lookup, stands_to}
use Rattle.lookup.specs.LookupLaws.{reported}
use Rattle.lookup.proofs.lookup.place_of.Goals as goal

-- how the key sought stands to the one that is compared with it
stands : (habit : Habit) (list : List ℕ) (i : ℕ) (wanted key : List ℕ) (offset k : ℕ) (order : Ordering) → offset ≡ offset_at list i
    → key ≡ key_from habit.key list (offset + habit.key * k) → order ≡ order_of wanted key → stands_to habit list i wanted k ≡ order
stands habit list i wanted key offset k order e f g =
    ap (order_of wanted) (ap (λ (o : ℕ). key_from habit.key list (o + habit.key * k)) (sym e) ∙ sym f) ∙ sym g

pub loop-left-init : goal.loop-left-init
unfolding lookup
loop-left-init c =
    let a = c.args in
    let keys : ℕ → Halved = halved_from (stands_to a.habit a.list.now a.segment a.wanted.now) 0 in
    let all = ap keys (sym c.count_at-left.ensures) in
    (omega arith, omega arith, ap (λ (h : Halved). h.place) all, ap (λ (h : Halved). h.compared) all ∙ omega arith)

pub key_in-requires : goal.key_in-requires
key_in-requires c =
    let l = c.args.list.now in
    let byte : (j : ℕ) → get_or l j 0 < 256 = λ j. (c.type_inv.list j).fits in
    (omega (arith, offset_under l byte c.args.segment), omega (arith, count_under l byte c.args.segment))

pub returns-in-Equal : goal.returns-in-Equal
returns-in-Equal c =
    let a = c.args in
    let at = c.loop-left in
    let to : ℕ → Ordering = stands_to a.habit a.list.now a.segment a.wanted.now in
    let e = match_stops to at.low at.left (omega (arith, c.loop-left-test.true)) (stands a.habit a.list.now a.segment a.wanted.now _ _ (at.low + (at.left - 1) / 2) _ c.offset_at-offset.ensures c.key_in.ensures c.in-Equal.ensures) in
    reported _ _ _ _ _ (ap (looked_up contract_no) (sym (at.invariant.2 ∙ ap (λ (h : Halved). h.place) e))) (sym (at.invariant.3 ∙ ap (λ (h : Halved). at.compared + h.compared) e))

pub loop-left-preserved-in-Less : goal.loop-left-preserved-in-Less
loop-left-preserved-in-Less c =
    let a = c.args in
    let at = c.loop-left in
    let to : ℕ → Ordering = stands_to a.habit a.list.now a.segment a.wanted.now in
    let e = goes_below to at.low at.left (omega (arith, c.loop-left-test.true)) (stands a.habit a.list.now a.segment a.wanted.now _ _ (at.low + (at.left - 1) / 2) _ c.offset_at-offset.ensures c.key_in.ensures c.in-Less.ensures) in
    (omega arith, omega arith, at.invariant.2 ∙ ap (λ (h : Halved). h.place) e, at.invariant.3 ∙ ap (λ (h : Halved). at.compared + h.compared) e ∙ omega arith)

pub loop-left-preserved : goal.loop-left-preserved
loop-left-preserved c =
    let a = c.args in
    let at = c.loop-left in
    let to : ℕ → Ordering = stands_to a.habit a.list.now a.segment a.wanted.now in
    let e = goes_above to at.low at.left (omega (arith, c.loop-left-test.true)) (stands a.habit a.list.now a.segment a.wanted.now _ _ (at.low + (at.left - 1) / 2) _ c.offset_at-offset.ensures c.key_in.ensures c.in-Greater.ensures) in
    (omega arith, omega arith, at.invariant.2 ∙ ap (λ (h : Halved). h.place) e, at.invariant.3 ∙ ap (λ (h : Halved). at.compared + h.compared) e ∙ omega arith)

pub returns : goal.returns
returns c =
    let a = c.args in
    let at = c.loop-left in
    let s = stands_to a.habit a.list.now a.segment a.wanted.now in
    let none-left-over : at.left ≡ 0 = omega arith in
    let e = ap (λ (n : ℕ). halved_from s at.low n) none-left-over ∙ none_left s 0 at.low in
    reported _ _ _ _ _ (ap (looked_up contract_no) (sym (at.invariant.2 ∙ ap (λ (h : Halved). h.place) e))) (sym (at.invariant.3 ∙ ap (λ (h : Halved). at.compared + h.compared) e ∙ omega arith))
