use Rattle.nf_eval.proofs.Names.{left}
use Rattle.nf_eval.proofs.scope.Scope.leave.Goals as goal

pub returns : goal.returns
returns c = left c.args.self.now.names.items c.truncate.new.self.items c.args.count c.truncate.ensures.items
