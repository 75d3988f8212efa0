-- As many updates as the data can hold, 160 at most.
use Rattle.std.proofs.Common.{arith, rules}
use Rattle.batch.proofs.batch.take_data.Goals as goal

pub take_on-requires-then-data-lt-SOME_DATA : goal.take_on-requires-then-data-lt-SOME_DATA
take_on-requires-then-data-lt-SOME_DATA c = let s = c in (s.requires.0, s.requires.1, record { slots = 4; there = search rules; enough = omega (arith, c.if-data-lt-SOME_DATA.true) })

pub take_on-requires-then-data-lt-MANY_DATA : goal.take_on-requires-then-data-lt-MANY_DATA
take_on-requires-then-data-lt-MANY_DATA c = let s = c in (s.requires.0, s.requires.1, record { slots = 24; there = search rules; enough = omega (arith, c.if-data-lt-MANY_DATA.true) })

pub take_on-requires-2 : goal.take_on-requires-2
take_on-requires-2 c = let s = c in (s.requires.0, s.requires.1, record { slots = 160; there = search rules; enough = omega (arith, s.requires.2) })
