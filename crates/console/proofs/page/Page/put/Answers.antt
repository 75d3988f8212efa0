-- The text fits behind what the page has.
use Rattle.std.proofs.Common.{arith}
use Rattle.console.proofs.Pages.{put_behind}
use Rattle.console.proofs.page.Page.put.Goals as goal

pub returns-then-fits-clause-puts : goal.returns-then-fits-clause-puts
returns-then-fits-clause-puts g c =
    put_behind c.args.self.now.bytes c.args.text.now c.copy_from_slice.new.self c.args.self.now.used (omega arith) c.copy_from_slice.ensures.after
