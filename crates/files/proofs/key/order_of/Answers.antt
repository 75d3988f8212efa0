-- In a turn both keys go on for eight bytes, whose numbers decide.
use Rattle.std.proofs.Common.{◌≡◌, ◌+◌, ◌*◌, ◌/◌, sym, ◌∙◌, arith}
use Rattle.files.proofs.Order.{rest_order, word_order}
use Rattle.files.specs.KeysLaws.{by_word}
use Rattle.files.proofs.key.order_of.Goals as goal

pub returns-then-x-y : goal.returns-then-x-y
returns-then-x-y c =
    let word = by_word c.args.a.now c.args.b.now (λ j. (c.type_inv.a j).fits) (λ j. (c.type_inv.b j).fits) 8 (8 * c.loop-i.i) (omega arith) (omega arith) in
    sym (c.loop-i.invariant ∙ word_order word c.u64_at-x.ensures c.u64_at-y.ensures c.if-x-y.true c.cmp.ensures)

pub loop-i-preserved : goal.loop-i-preserved
loop-i-preserved c =
    let word = by_word c.args.a.now c.args.b.now (λ j. (c.type_inv.a j).fits) (λ j. (c.type_inv.b j).fits) 8 (8 * c.loop-i.i) (omega arith) (omega arith) in
    let on : 8 * (c.loop-i.i + 1) ≡ 8 * c.loop-i.i + 8 = omega arith in
    rw on (c.loop-i.invariant ∙ word.same (sym c.u64_at-x.ensures ∙ c.if-x-y.false ∙ c.u64_at-y.ensures))

pub returns : goal.returns
returns c =
    let all : c.loop-i.i ≡ c.min-words.result / 8 = omega arith in
    sym (c.loop-i.invariant ∙ rw all (sym (c.cmp-2.ensures ∙ rest_order c.args.a.now c.args.b.now (8 * (c.min-words.result / 8)))))
