use Rattle.std.proofs.Common.{ap}
use Rattle.nf_around.specs.Gives.{IsClosing}
use Rattle.nf_known.specs.Reading.{reading_of}
use Rattle.nf_meaning.specs.Closures.{closure_arg}
use Rattle.nf_taken.proofs.Trees.{arg_is, closure_is}
use Rattle.nf_taken.proofs.Walks.{by_walk}
use Rattle.nf_taken.proofs.body.Body.closure_arg.Goals as goal

pub returns-in-Arg : goal.returns-in-Arg
returns-in-Arg g c = λ a s here. by_walk (IsClosing a.given.program) _ _ a s _ (ap (closure_arg (reading_of c.args.reading)) (arg_is c.args.arg c.in-Arg.arg c.in-Arg.is)) (c.closure_arg.ensures a s here)

pub returns-in-Closure : goal.returns-in-Closure
returns-in-Closure g c = λ a s here. by_walk (IsClosing a.given.program) _ _ a s _ (ap (closure_arg (reading_of c.args.reading)) (closure_is c.args.arg c.in-Closure.closure c.in-Closure.is)) (c.without_labels.ensures a s here)
