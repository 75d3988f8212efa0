use Rattle.std.proofs.Common.{◌≡◌, drop}
use Rattle.checksum.specs.Checksum.{sum_from}
use Rattle.checksum.proofs.on_bytes.Given as goal

abbrev pub invariant-loop-byte : goal.invariant-loop-byte
invariant-loop-byte l = sum_from l.after (drop l.byte-index l.text) ≡ sum_from l.acc l.text
