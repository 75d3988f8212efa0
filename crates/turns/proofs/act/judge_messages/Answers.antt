-- The loop's invariant: all messages before message i have passed, and left this row, these stores and these counts.
use Rattle.std.proofs.Common.{Result, ◌+◌, ◌≤◌, ◌≡◌, ap, sym, refl, ◌∙◌, true, arith, length, drop, length-drop}
use Rattle.pairs.specs.Lists.{lists}
use Rattle.state.specs.declared.refusal.Refusal.{Refusal}
use Rattle.message.specs.Reads.{message_of}
use Rattle.turns.specs.declared.act.Act.{Act}
use Rattle.turns.specs.Acts.{counted, passed, MessageActs}
use Rattle.turns.specs.ComparedLaws.{step_most}
use Rattle.turns.proofs.MessagesLaws.{turned_told, begins, going_on, going_refused, going_over, going_ends, counted_one, rest_is}
use Rattle.turns.proofs.act.judge_messages.Goals as goal

pub loop-i-init : goal.loop-i-init
loop-i-init c = rw c.none-counts.ensures (omega arith, omega arith, c.requires.0.sound, refl, refl, begins _ _ _ _ _ _ _, omega arith)

pub overflow_add-compared : goal.overflow_add-compared
overflow_add-compared c =
    let a = c.args in
    let l = c.loop-i in
    let both = lists a.list.now a.spreads.now in
    let step = c.message_acts-step.result in
    let rest = drop l.at a.«data».now in
    let acts : MessageActs both a.letter l.row l.stores l.kept l.i rest step c.message_acts-step.new.row c.message_acts-step.new.stores =
    rw (rest_is a.«data».now l.at l.invariant.1) at c.message_acts-step.ensures in
    let few : step.compared ≤ 13 = step_most both c.requires.0.headers a.letter rest (message_of both a.letter rest).what acts.steps in
    omega (arith, few, l.invariant.6, c.loop-i-test.true, c.requires.1)

pub returns-in-Err : goal.returns-in-Err
returns-in-Err c =
    let a = c.args in
    let l = c.loop-i in
    let acts = rw (rest_is a.«data».now l.at l.invariant.1) at c.message_acts-step.ensures in
    rw (turned_told c.answered.ensures)
    (going_refused _ _ _ _ _ _ l.row l.stores l.kept l.counts l.compared l.at l.i l.invariant.5 c.loop-i-test.true
    c.message_acts-step.result c.message_acts-step.new.row c.message_acts-step.new.stores acts _ c.in-Err.is _ _)

pub loop-i-preserved : goal.loop-i-preserved
loop-i-preserved c =
    let a = c.args in
    let l = c.loop-i in
    let both = lists a.list.now a.spreads.now in
    let step = c.message_acts-step.result in
    let rest = drop l.at a.«data».now in
    let acts : MessageActs both a.letter l.row l.stores l.kept l.i rest step c.message_acts-step.new.row c.message_acts-step.new.stores =
    rw (rest_is a.«data».now l.at l.invariant.1) at c.message_acts-step.ensures in
    let few : step.compared ≤ 13 = step_most both c.requires.0.headers a.letter rest (message_of both a.letter rest).what acts.steps in
    let p : passed step.act ≡ true = rw c.in-Ok.is refl in
    let inside : l.at + step.length ≤ length a.«data».now = omega (arith, l.invariant.1, acts.inside p, length-drop l.at a.«data».now) in
    let same = c.message_acts-step.auto.stores in
    let counts_are : c.counted-counts.result ≡ counted step.act l.counts = c.counted-counts.ensures ∙ ap (λ (act : Result Act Refusal). counted act l.counts) (sym c.in-Ok.is) in
    let more = counted_one step.act l.counts p in (
      omega (arith, c.loop-i-test.true),
      inside,
      acts.sound,
      rw counts_are (omega (arith, more, l.invariant.3)),
      same ∙ l.invariant.4,
      rw counts_are
          (going_on _ _ _ _ _ _ l.row l.stores l.kept l.counts l.compared l.at l.i l.invariant.5 c.loop-i-test.true step c.message_acts-step.new.row c.message_acts-step.new.stores acts l.invariant.4 p inside),
      omega (arith, few, l.invariant.6),
    )

pub returns-then-at-data : goal.returns-then-at-data
returns-then-at-data c =
    let l = c.loop-i in
    rw (turned_told c.answered-then-at-data.ensures)
    (going_over _ _ _ _ _ _ l.row l.stores l.kept l.counts l.compared l.at l.i l.invariant.5 c.loop-i-test.false l.invariant.0 c.if-at-data.true _ _)

pub returns : goal.returns
returns c =
    let l = c.loop-i in
    rw (turned_told c.answered-2.ensures)
    (going_ends _ _ _ _ _ _ l.row l.stores l.kept l.counts l.compared l.at l.i l.invariant.5 c.loop-i-test.false l.invariant.0 c.if-at-data.false l.invariant.2 l.invariant.4)
