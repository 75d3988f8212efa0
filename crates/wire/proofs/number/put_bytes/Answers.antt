-- The number's bytes, or as many as there is room for.
use Rattle.std.proofs.Common.{◌≡◌, ◌+◌, ◌-◌, arith, rules, length}
use Rattle.wire.proofs.Put.{put_all, put_part}
use Rattle.wire.proofs.number.put_bytes.Goals as goal

pub returns-then-room : goal.returns-then-room
returns-then-room g c =
    let long : length c.args.bytes ≡ g.row.N = search rules in
    rw c.copy_from_slice.ensures.after (put_all c.args.bytes c.args.s.now c.args.at c.min-at.result (c.min-at.result + g.row.N - c.min-at.result) (omega arith) (omega arith) (omega arith))

pub returns : goal.returns
returns g c =
    let long : length c.args.bytes ≡ g.row.N = search rules in
    rw c.copy_from_slice-2.ensures.after (put_part c.args.bytes c.args.s.now c.args.at c.min-at.result c.min-room.result (c.min-at.result + c.min-room.result - c.min-at.result) (omega arith) (omega arith) (omega arith))
