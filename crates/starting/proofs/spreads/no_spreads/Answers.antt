-- The header first, then the room.
use Rattle.std.specs.Prelude.{Ok, Err}
use Rattle.std.proofs.Common.{ℕ, ◌≤◌, ◌<◌, ◌≡◌, sym, ◌∙◌, true, false, List, arith, le-leb, length}
use borrow.Author.Tests.{lt-leb}
use lib.Seq.{sets}
use Rattle.pairs.specs.NoSpreads.{no_spreads}
use Rattle.pairs.specs.NoSpreadsLaws.{no_spreads_size}
use Rattle.contracts.specs.SoundTests.{header_sound}
use Rattle.state.specs.declared.refusal.Refusal.TheVariants as refusal
use Rattle.starting.specs.StartPromises.{PutNoSpreads}
use Rattle.starting.specs.NoSpreadsRules.{no_spreads_rules}
use Rattle.starting.proofs.spreads.no_spreads.Goals as goal

module _ (list out : List ℕ) where
  unsound : header_sound list ≡ false → PutNoSpreads list out (Err refusal.List) out
  unfolding no_spreads_rules
  unsound h = record { answers = rw h; left = rw h }

  module _ (h : header_sound list ≡ true) (size : ℕ) (is : size ≡ length (no_spreads list)) where
    short : length out < size → PutNoSpreads list out (Err (refusal.Memory size)) out
    unfolding no_spreads_rules
    short few =
        let no = lt-leb (length (no_spreads list)) (length out) (omega (arith, is)) in
        record { answers = rw (h, no, is); left = rw (h, no) }

    put : size ≤ length out → PutNoSpreads list out (Ok size) (sets out 0 (no_spreads list))
    unfolding no_spreads_rules
    put room =
        let yes = le-leb (length (no_spreads list)) (length out) (omega (arith, is)) in
        record { answers = rw (h, yes, is); left = rw (h, yes) }

pub returns-then-not-header_sound : goal.returns-then-not-header_sound
returns-then-not-header_sound c =
    let a = c.args in
    unsound a.list.now a.out.now (sym c.header_sound.ensures ∙ c.if-not-header_sound.true)

pub returns-then-out-size : goal.returns-then-out-size
returns-then-out-size c =
    let held : header_sound c.args.list.now ≡ true = sym c.header_sound.ensures ∙ c.if-not-header_sound.false in
    let a = c.args in
    short a.list.now a.out.now held _ (c.no_spreads_size-size.ensures ∙ sym (no_spreads_size a.list.now)) c.if-out-size.true

pub returns : goal.returns
returns c =
    let held : header_sound c.args.list.now ≡ true = sym c.header_sound.ensures ∙ c.if-not-header_sound.false in
    let a = c.args in
    rw c.put_no_spreads.ensures
    (put a.list.now a.out.now held _ (c.no_spreads_size-size.ensures ∙ sym (no_spreads_size a.list.now)) (omega (arith, c.if-out-size.false)))
