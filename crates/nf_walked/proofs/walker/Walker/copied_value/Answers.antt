use Rattle.std.proofs.Common.{sym}
use Rattle.nf_ast.specs.View.{view}
use Rattle.nf_fronts.specs.Fronts.{tree_of}
use Rattle.nf_walked.proofs.Names.{value_still}
use Rattle.nf_walked.proofs.walker.Walker.copied_value.Goals as goal

pub returns : goal.returns
returns g c =
    value_still g.N.Natives.titles g.N.Natives.answer c.args.self.now (tree_of c.args.front) (view c.in_ok-copy.copy) c.names.result.now c.args.state.now c.value_of.result
    (sym c.in_ok-copy.ensures) c.names.ensures c.requires.lowering c.value_of.ensures
