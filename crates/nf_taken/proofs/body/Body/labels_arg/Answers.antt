use Rattle.std.proofs.Common.{ap}
use Rattle.nf_around.specs.Labels.{AreLabels}
use Rattle.nf_meaning.specs.Closures.{labels_arg}
use Rattle.nf_taken.proofs.Trees.{arg_is, closure_is}
use Rattle.nf_taken.proofs.Walks.{by_walk}
use Rattle.nf_taken.proofs.body.Body.labels_arg.Goals as goal

pub returns-in-Arg : goal.returns-in-Arg
returns-in-Arg g c = λ a s here. by_walk (AreLabels a.given.program) _ _ a s _ (ap (labels_arg) (arg_is c.args.arg c.in-Arg.arg c.in-Arg.is)) (c.labels_arg.ensures a s here)

pub returns-in-Closure : goal.returns-in-Closure
returns-in-Closure g c = λ a s here. by_walk (AreLabels a.given.program) _ _ a s _ (ap (labels_arg) (closure_is c.args.arg c.in-Closure.closure c.in-Closure.is)) (c.with_labels.ensures a s here)
