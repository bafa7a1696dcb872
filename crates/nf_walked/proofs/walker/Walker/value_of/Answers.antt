use Rattle.std.proofs.Common.{ap}
use Rattle.nf_ast.specs.View.{view}
use Rattle.nf_fronts.specs.Fronts.{tree_of}
use Rattle.nf_walked.proofs.Names.{value_still}
use Rattle.nf_walked.proofs.walker.Walker.value_of.Goals as goal

pub returns-in-Whole : goal.returns-in-Whole
returns-in-Whole g c =
    value_still g.N.Natives.titles g.N.Natives.answer c.args.self.now (tree_of c.args.front) (view c.in-Whole.expr.now) c.names.result.now c.args.state.now c.value_of.result
    (ap tree_of c.in-Whole.is) c.names.ensures c.requires.lowering c.value_of.ensures
