-- The rules in turn: each return has the rules before it, and its own broken.
use Rattle.std.proofs.Common.{◌+◌, ◌≡◌, true, pos_of_ne-zero, le-leb, lt-ltb, eq-eqb, ne_eqb, leb, ltb, eqb, length}
use borrow.Author.Tests.{lt-leb}
use Rattle.batch.specs.Batch.{flag_of, size_of, count_of}
use Rattle.batch.proofs.batch.check.Goals.{After-u16_at, After-u16_at-size, After-u8_at-flag}
use Rattle.batch.proofs.batch.check.Goals as goal

flag_is : (c : After-u8_at-flag) → c.u8_at-flag.result ≡ flag_of c.args.batch.now
unfolding flag_of
flag_is c = c.u8_at-flag.ensures

size_is : (c : After-u16_at-size) → c.u16_at-size.result ≡ size_of c.args.batch.now
unfolding size_of
size_is c = c.u16_at-size.ensures

count_is : (c : After-u16_at) → c.u16_at.result ≡ count_of c.args.batch.now
unfolding count_of
count_is c = c.u16_at.ensures

pub returns-then-flag-eq0 : goal.returns-then-flag-eq0
returns-then-flag-eq0 c =
    let begun : leb 5 (length c.args.batch.now) ≡ true = le-leb 5 (length c.args.batch.now) c.if-batch-lt-FRONT.false in
    rw (begun, ← flag_is (goal.at.returns-then-flag-eq0 c).After-u8_at-flag, c.if-flag-eq0.true)

pub returns-then-flag-gt1 : goal.returns-then-flag-gt1
returns-then-flag-gt1 c =
    let begun : leb 5 (length c.args.batch.now) ≡ true = le-leb 5 (length c.args.batch.now) c.if-batch-lt-FRONT.false in
    let unpacked : ltb 0 (flag_of c.args.batch.now) ≡ true = rw (← flag_is (goal.at.returns-then-flag-gt1 c).After-u8_at-flag) (lt-ltb 0 c.u8_at-flag.result (pos_of_ne-zero c.if-flag-eq0.false)) in
    rw (begun, unpacked, ← flag_is (goal.at.returns-then-flag-gt1 c).After-u8_at-flag, lt-leb c.u8_at-flag.result 1 c.if-flag-gt1.true)

pub returns-then-size-gt-MOST_DATA : goal.returns-then-size-gt-MOST_DATA
returns-then-size-gt-MOST_DATA c =
    let begun : leb 5 (length c.args.batch.now) ≡ true = le-leb 5 (length c.args.batch.now) c.if-batch-lt-FRONT.false in
    let unpacked : ltb 0 (flag_of c.args.batch.now) ≡ true = rw (← flag_is (goal.at.returns-then-size-gt-MOST_DATA c).After-u8_at-flag) (lt-ltb 0 c.u8_at-flag.result (pos_of_ne-zero c.if-flag-eq0.false)) in
    let plain : leb (flag_of c.args.batch.now) 1 ≡ true = rw (← flag_is (goal.at.returns-then-size-gt-MOST_DATA c).After-u8_at-flag) (le-leb c.u8_at-flag.result 1 c.if-flag-gt1.false) in
    rw (begun, unpacked, plain, ← size_is (goal.at.returns-then-size-gt-MOST_DATA c).After-u16_at-size, lt-leb c.u16_at-size.result 32767 c.if-size-gt-MOST_DATA.true)

pub returns-then-batch-size : goal.returns-then-batch-size
returns-then-batch-size c =
    let begun : leb 5 (length c.args.batch.now) ≡ true = le-leb 5 (length c.args.batch.now) c.if-batch-lt-FRONT.false in
    let unpacked : ltb 0 (flag_of c.args.batch.now) ≡ true = rw (← flag_is (goal.at.returns-then-batch-size c).After-u8_at-flag) (lt-ltb 0 c.u8_at-flag.result (pos_of_ne-zero c.if-flag-eq0.false)) in
    let plain : leb (flag_of c.args.batch.now) 1 ≡ true = rw (← flag_is (goal.at.returns-then-batch-size c).After-u8_at-flag) (le-leb c.u8_at-flag.result 1 c.if-flag-gt1.false) in
    let not-over : leb (size_of c.args.batch.now) 32767 ≡ true = rw (← size_is (goal.at.returns-then-batch-size c).After-u16_at-size) (le-leb c.u16_at-size.result 32767 c.if-size-gt-MOST_DATA.false) in
    rw (begun, unpacked, plain, not-over, ← size_is (goal.at.returns-then-batch-size c).After-u16_at-size, ne_eqb (length c.args.batch.now) (c.u16_at-size.result + 5) c.if-batch-size.true)

pub returns-then-u16_at-eq0 : goal.returns-then-u16_at-eq0
returns-then-u16_at-eq0 c =
    let begun : leb 5 (length c.args.batch.now) ≡ true = le-leb 5 (length c.args.batch.now) c.if-batch-lt-FRONT.false in
    let unpacked : ltb 0 (flag_of c.args.batch.now) ≡ true = rw (← flag_is (goal.at.returns-then-u16_at-eq0 c).After-u8_at-flag) (lt-ltb 0 c.u8_at-flag.result (pos_of_ne-zero c.if-flag-eq0.false)) in
    let plain : leb (flag_of c.args.batch.now) 1 ≡ true = rw (← flag_is (goal.at.returns-then-u16_at-eq0 c).After-u8_at-flag) (le-leb c.u8_at-flag.result 1 c.if-flag-gt1.false) in
    let not-over : leb (size_of c.args.batch.now) 32767 ≡ true = rw (← size_is (goal.at.returns-then-u16_at-eq0 c).After-u16_at-size) (le-leb c.u16_at-size.result 32767 c.if-size-gt-MOST_DATA.false) in
    let sized : eqb (length c.args.batch.now) (size_of c.args.batch.now + 5) ≡ true = rw (← size_is (goal.at.returns-then-u16_at-eq0 c).After-u16_at-size) (eq-eqb (length c.args.batch.now) (c.u16_at-size.result + 5) c.if-batch-size.false) in
    rw (begun, unpacked, plain, not-over, sized, ← count_is (goal.at.returns-then-u16_at-eq0 c).After-u16_at, c.if-u16_at-eq0.true)

pub returns : goal.returns
returns c =
    let begun : leb 5 (length c.args.batch.now) ≡ true = le-leb 5 (length c.args.batch.now) c.if-batch-lt-FRONT.false in
    let unpacked : ltb 0 (flag_of c.args.batch.now) ≡ true = rw (← flag_is (goal.at.returns c).After-u8_at-flag) (lt-ltb 0 c.u8_at-flag.result (pos_of_ne-zero c.if-flag-eq0.false)) in
    let plain : leb (flag_of c.args.batch.now) 1 ≡ true = rw (← flag_is (goal.at.returns c).After-u8_at-flag) (le-leb c.u8_at-flag.result 1 c.if-flag-gt1.false) in
    let not-over : leb (size_of c.args.batch.now) 32767 ≡ true = rw (← size_is (goal.at.returns c).After-u16_at-size) (le-leb c.u16_at-size.result 32767 c.if-size-gt-MOST_DATA.false) in
    let sized : eqb (length c.args.batch.now) (size_of c.args.batch.now + 5) ≡ true = rw (← size_is (goal.at.returns c).After-u16_at-size) (eq-eqb (length c.args.batch.now) (c.u16_at-size.result + 5) c.if-batch-size.false) in
    rw (begun, unpacked, plain, not-over, sized, ← count_is (goal.at.returns c).After-u16_at, lt-ltb 0 c.u16_at.result (pos_of_ne-zero c.if-u16_at-eq0.false))
