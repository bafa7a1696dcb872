use Rattle.nf_ast.specs.View.{view}
use Rattle.nf_around.proofs.Evaluated.{option_at_closure, option_by}
use Rattle.nf_around.proofs.surroundings.Surroundings.option_value.Goals as goal

pub returns-in-Some : goal.returns-in-Some
returns-in-Some g c a s h = option_at_closure c.args.place (view c.args.expr.now) c.in-Some.field-0.now a s c.in-Some.ensures

pub returns-in-None : goal.returns-in-None
returns-in-None g c a s h = option_by c.args.place (view c.args.expr.now) a s c.value_of.result c.in-None.ensures (c.value_of.ensures a s h)
