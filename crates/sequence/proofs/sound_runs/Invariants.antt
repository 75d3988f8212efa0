use Rattle.std.proofs.Common.{◌≡◌, drop}
use Rattle.sequence.specs.SoundTests.{sound_runs}
use Rattle.sequence.specs.Row.{gaps_of, runs_of}
use Rattle.sequence.proofs.sound_runs.Given as goal

abbrev pub invariant-loop-i : goal.invariant-loop-i
invariant-loop-i l = sound_runs (gaps_of l.row).start (runs_of l.row) l.highest ≡ sound_runs l.from (drop l.i (runs_of l.row)) l.highest
