-- The letters of the test bench's commands: DECISIONS, "The test bench's commands".
use Rattle.std.specs.Prelude.{ℕ, Option, Some, None, cond, ◌==◌}
use Rattle.forms.specs.declared.forms.Item.TheVariants.{Contract, Pair}
use Rattle.forms.specs.declared.rows.Level.{Level}
use Rattle.forms.specs.declared.rows.Level.TheVariants.{One, Two}
use Rattle.commands.specs.declared.kind.Command.{Command}
use Rattle.commands.specs.declared.kind.Command.TheVariants as does

-- the command that a letter stands for, in the table's order; none for another
abbrev pub command_of : ℕ → Option Command
command_of letter =
    cond (letter == 0x53) (Some does.Start) (
    cond (letter == 0x4a) (Some does.Judge) (
    cond (letter == 0x4b) (Some does.Take) (
    cond (letter == 0x47) (Some does.Gaps) (
    cond (letter == 0x4f) (Some does.Off) (
    cond (letter == 0x52) (Some (does.Read Contract)) (
    cond (letter == 0x51) (Some (does.Read Pair)) (
    cond (letter == 0x57) (Some (does.Write Contract)) (
    cond (letter == 0x56) (Some (does.Write Pair)) (
    cond (letter == 0x4d) (Some does.Lend) (
    cond (letter == 0x4c) (Some does.List) (
    cond (letter == 0x58) (Some does.Spreads) (
    cond (letter == 0x50) (Some does.Store) (
    None)))))))))))))

-- the level that a character stands for, `1` or `2`; none for another
abbrev pub level_by : ℕ → Option Level
level_by character = cond (character == 0x31) (Some One) (cond (character == 0x32) (Some Two) None)
