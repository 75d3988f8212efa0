-- Gap rows first, then records.
use Rattle.std.proofs.Common.{ℕ, ◌<◌, arith, get_or}
use Rattle.files.specs.FileLaws.{segments_under}
use Rattle.state.proofs.state.check_memory.Goals.{After-shared_slice_known-1}
use Rattle.state.proofs.state.check_memory.Goals as goal

bytes : (c : After-shared_slice_known-1) (j : ℕ) → get_or c.args.list.now j 0 < 256
bytes c j = (c.type_inv.list j).fits

pub overflow_mul-rows_wanted : goal.overflow_mul-rows_wanted
overflow_mul-rows_wanted c = omega (arith, segments_under c.args.list.now (bytes (goal.at.overflow_mul-rows_wanted c).After-shared_slice_known-1))
