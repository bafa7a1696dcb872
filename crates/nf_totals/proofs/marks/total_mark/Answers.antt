use Rattle.nf_ast.specs.View.{view}
use Rattle.nf_fronts.specs.Fronts.{tree_of}
use Rattle.nf_totals.proofs.Folded.{of_call, of_sign}
use Rattle.nf_totals.proofs.marks.total_mark.Goals as goal

pub returns-in-Some : goal.returns-in-Some
returns-in-Some c = of_call (view c.args.expr.now) (tree_of c.in-Some.function) c.word_total.result c.in-Some.ensures c.word_total.ensures

pub returns-in-None : goal.returns-in-None
returns-in-None c = of_sign (view c.args.expr.now) c.operator_total.result c.in-None.ensures c.operator_total.ensures
