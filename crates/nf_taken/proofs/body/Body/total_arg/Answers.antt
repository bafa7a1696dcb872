use Rattle.std.proofs.Common.{ap}
use Rattle.nf_meaning.specs.Taken.{total_wanted}
use Rattle.nf_taken.specs.Bodies.{IsSame}
use Rattle.nf_taken.proofs.Trees.{arg_is, closure_is}
use Rattle.nf_taken.proofs.Walks.{by_walk}
use Rattle.nf_taken.proofs.body.Body.total_arg.Goals as goal

pub returns-in-Arg : goal.returns-in-Arg
returns-in-Arg g c = λ a s here. by_walk (IsSame) _ _ a s _ (ap (total_wanted) (arg_is c.args.arg c.in-Arg.arg c.in-Arg.is)) (c.total_in.ensures a s here)

pub returns-in-Closure : goal.returns-in-Closure
returns-in-Closure g c = λ a s here. by_walk (IsSame) _ _ a s _ (ap (total_wanted) (closure_is c.args.arg c.in-Closure.closure c.in-Closure.is)) (c.total_wanted.ensures a s)
