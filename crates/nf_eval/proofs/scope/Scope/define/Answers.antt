use Rattle.nf_eval.proofs.Names.{one_defined}
use Rattle.nf_eval.proofs.scope.Scope.define.Goals as goal

pub returns : goal.returns
returns c = one_defined c.args.self.now.names.items c.push.new.self.items c.args.name c.args.value c.in_ok-push.ensures.items
