-- What is left behind the bytes that were used.
use Rattle.std.proofs.Common.{◌-◌, ◌≤◌, length, drop, ap, ◌∙◌, arith, length-take}
use Rattle.console.proofs.Rooms.{left_behind}
use Rattle.console.proofs.room.Room.consume.Goals as goal

pub returns : goal.returns
returns g c =
    let r = c.self.inside in
    let within : c.args.count ≤ r.end - r.at =
    omega (arith, c.requires, ap length c.self.view_is, length-take (r.end - r.at) (drop r.at r.bytes)) in
    left_behind r.bytes r.at r.end c.args.count within ∙ ap (drop c.args.count) c.self.view_is
