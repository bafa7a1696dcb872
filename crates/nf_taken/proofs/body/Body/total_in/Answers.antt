use Rattle.std.proofs.Common.{ap}
use Rattle.nf_ast.specs.View.{view}
use Rattle.nf_meaning.specs.Taken.{total_wanted}
use Rattle.nf_taken.specs.Bodies.{IsSame}
use Rattle.nf_taken.proofs.Options.{no_total}
use Rattle.nf_taken.proofs.Walks.{by_walk}
use Rattle.nf_taken.proofs.body.Body.total_in.Goals as goal

pub returns-in-Some : goal.returns-in-Some
returns-in-Some g c = λ a s here. by_walk IsSame _ _ a s _ (ap total_wanted c.in-Some.ensures) (c.total_wanted.ensures a s)

pub returns-in_ok-no_closure-in-None : goal.returns-in_ok-no_closure-in-None
returns-in_ok-no_closure-in-None g c = λ a s here. no_total (view c.args.expr.now) a s c.in_ok-no_closure-in-None.field-0 c.in-None.ensures (c.in_ok-no_closure-in-None.ensures a s here)
