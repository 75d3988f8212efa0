-- `contracts::spreads::pair_listed` meets its contract: a pair is parted behind its first 39 bytes, or where it ends.
use Rattle.std.proofs.Common.{ℕ, ◌-◌, ◌≡◌, ap, ap₂, ◌∙◌, ◌&&◌, List, arith, length, take, drop, length-drop, take_all}
use Rattle.laws.specs.Lists.{take_min, drop_min}
use Rattle.lookup.specs.Lookup.{place_in}
use Rattle.pairs.specs.Spreads.{pair_at, first_half, second_half}
use Rattle.pairs.specs.SpreadTests.{is_found}
use Rattle.pairs.proofs.spreads.pair_listed.Goals as goal

pub returns : goal.returns
returns c =
    let d = c in
    let a = d.args in
    let pair = d.key_of-pair.result.now in
    let here = d.key_of-pair.ensures in
    let left : length (drop d.min-half.result pair) ≡ length pair - d.min-half.result = length-drop d.min-half.result pair in
    let first : take d.min-half.result pair ≡ first_half (pair_at a.spreads.now a.segment a.place) =
    ap (λ (n : ℕ). take n pair) d.min-half.ensures ∙ take_min 39 pair ∙ ap first_half here in
    let second : take (length pair - d.min-half.result) (drop d.min-half.result pair) ≡ second_half (pair_at a.spreads.now a.segment a.place) =
    take_all (length pair - d.min-half.result) (drop d.min-half.result pair) (omega arith)
    ∙ ap (λ (n : ℕ). drop n pair) d.min-half.ensures ∙ drop_min 39 pair ∙ ap second_half here in
    ap₂ ◌&&◌
    (c.half_listed.ensures ∙ ap (λ (half : List ℕ). is_found (place_in a.list.now a.segment half)) first)
    (c.half_listed-2.ensures ∙ ap (λ (half : List ℕ). is_found (place_in a.list.now a.segment half)) second)
