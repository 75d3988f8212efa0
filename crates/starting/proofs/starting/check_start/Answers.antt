-- Check by check, each answer is the first broken rule's.
use Rattle.std.proofs.Common.{◌≡◌, sym, ap, ◌∙◌, true}
use Rattle.pairs.specs.Lists.{lists}
use Rattle.files.specs.File.{segments_of}
use Rattle.pairs.specs.SpreadTests.{spreads_sound}
use Rattle.contracts.specs.SoundTests.{sound}
use Rattle.state.specs.Answers.{checked_by}
use Rattle.starting.specs.Start.{each_starts}
use Rattle.starting.specs.StartLaws.{unsound_list, unsound_spreads, no_start, memory_decides}
use Rattle.starting.proofs.starting.check_start.Goals as goal

pub returns-then-not-sound : goal.returns-then-not-sound
returns-then-not-sound c =
    let a = c.args in
    let fails = c.if-not-sound.true in
    ap checked_by (sym (unsound_list (lists a.list.now a.spreads.now) a.starts.now a.rows a.records (sym c.sound.ensures ∙ fails)))

pub returns-then-not-spreads_sound : goal.returns-then-not-spreads_sound
returns-then-not-spreads_sound c =
    let held : sound c.args.list.now ≡ true = sym c.sound.ensures ∙ c.if-not-sound.false in
    let a = c.args in
    let fails = c.if-not-spreads_sound.true in
    ap checked_by (sym (unsound_spreads (lists a.list.now a.spreads.now) a.starts.now a.rows a.records held (sym c.spreads_sound.ensures ∙ fails)))

pub returns-then-not-each_starts : goal.returns-then-not-each_starts
returns-then-not-each_starts c =
    let held : sound c.args.list.now ≡ true = sym c.sound.ensures ∙ c.if-not-sound.false in
    let fitting : spreads_sound c.args.list.now c.args.spreads.now ≡ true = sym c.spreads_sound.ensures ∙ c.if-not-spreads_sound.false in
    let tested : each_starts (segments_of c.args.list.now) c.args.starts.now ≡ c.each_starts.result =
    let a = c.args in
    ap (λ n. each_starts n a.starts.now) (sym c.segments.ensures) ∙ sym c.each_starts.ensures in
    let a = c.args in
    let fails = c.if-not-each_starts.true in
    ap checked_by (sym (no_start (lists a.list.now a.spreads.now) a.starts.now a.rows a.records held fitting (tested ∙ fails)))

pub returns : goal.returns
returns c =
    let held : sound c.args.list.now ≡ true = sym c.sound.ensures ∙ c.if-not-sound.false in
    let fitting : spreads_sound c.args.list.now c.args.spreads.now ≡ true = sym c.spreads_sound.ensures ∙ c.if-not-spreads_sound.false in
    let tested : each_starts (segments_of c.args.list.now) c.args.starts.now ≡ c.each_starts.result =
    let a = c.args in
    ap (λ n. each_starts n a.starts.now) (sym c.segments.ensures) ∙ sym c.each_starts.ensures in
    let a = c.args in
    let passes = c.if-not-each_starts.false in
    c.check_memory.ensures ∙ ap checked_by (sym (memory_decides (lists a.list.now a.spreads.now) a.starts.now a.rows a.records held fitting (tested ∙ passes)))
