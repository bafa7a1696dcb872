use Rattle.std.proofs.Common.{ap}
use Rattle.std.proofs.lemmas.Result.{IfOk-weaker}
use Rattle.nf_ast.specs.View.{view}
use Rattle.nf_names_used.specs.Uses.{is_name}
use Rattle.nf_around.proofs.Taken.{other_wrong}
use Rattle.nf_around.proofs.surroundings.Surroundings.no_closure.Goals as goal

pub returns-in-Some : goal.returns-in-Some
returns-in-Some g c = IfOk-weaker c.bare_name.result _ _ (λ f k a s h. k a s h (ap is_name c.in-Some.ensures)) c.bare_name.ensures

pub returns-in-None : goal.returns-in-None
returns-in-None g c a s h = let is = c.bad_option.ensures in rw is (other_wrong (view c.args.expr.now) a s c.in-None.ensures)
