use Rattle.nf_ast.specs.View.{view}
use Rattle.nf_walked.proofs.Names.{read_still}
use Rattle.nf_walked.proofs.walker.Walker.only_read.Goals as goal

pub returns : goal.returns
returns g c =
    read_still g.N.Natives.titles g.N.Natives.answer c.args.self.now (view c.args.expr.now) c.names.result.now c.args.state.now c.only_read.result c.names.ensures c.requires.lowering c.only_read.ensures
