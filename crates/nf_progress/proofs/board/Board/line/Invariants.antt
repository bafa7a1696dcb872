use Rattle.std.proofs.Common.{◌≤◌, string_len}
use Rattle.nf_progress.proofs.board.Board.line.Given as goal

abbrev pub invariant-loop-tasks : goal.invariant-loop-tasks
invariant-loop-tasks l = string_len l.line ≤ 79
