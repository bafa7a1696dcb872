use Rattle.std.proofs.Common.{◌<◌, arith, length}
use Rattle.nf_progress.proofs.Told.{told_at, told_past}
use Rattle.nf_progress.proofs.board.Board.told.Goals as goal

pub returns-then-process-len : goal.returns-then-process-len
returns-then-process-len c =
    let lt : c.args.process < length c.args.self.now.processes.items = omega (arith, c.len.ensures, c.if-process-len.true) in
    told_at _ c.args.process c.args.step c.index_mut-tasks.result.now c.after-tasks.result lt c.index_mut-tasks.ensures.value c.after-tasks.ensures

pub returns-else-process-len : goal.returns-else-process-len
returns-else-process-len c = told_past _ c.args.process c.args.step (λ lt. absurd (let no = c.if-process-len.false in omega (arith, c.len.ensures, no, lt)))
