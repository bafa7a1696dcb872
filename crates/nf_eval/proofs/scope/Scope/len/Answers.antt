use Rattle.std.proofs.Common.{arith}
use Rattle.nf_eval.proofs.Names.{length-bindings}
use Rattle.nf_eval.proofs.scope.Scope.len.Goals as goal

pub returns : goal.returns
returns c = omega (arith, length-bindings c.args.self.now.names.items, c.len.ensures)
