use Rattle.std.proofs.Common.{sym, subst}
use Rattle.nf_ast.specs.View.{view}
use Rattle.nf_meaning.specs.Closures.{labels_arg}
use Rattle.nf_around.specs.Gives.{Reads}
use Rattle.nf_around.specs.Labels.{AreLabels}
use Rattle.nf_around.proofs.Taken.{no_labelled}
use Rattle.nf_around.proofs.surroundings.Surroundings.labels_arg.Goals as goal

pub returns-in-Some : goal.returns-in-Some
returns-in-Some g c a s h = subst (λ t. Reads (AreLabels a.given.program) (labels_arg t) a s c.with_labels.result) (sym c.in-Some.ensures) (c.with_labels.ensures a s h)

pub returns-in_ok-no_closure-in-None : goal.returns-in_ok-no_closure-in-None
returns-in_ok-no_closure-in-None g c a s h = no_labelled (view c.args.expr.now) a s c.in_ok-no_closure-in-None.field-0 c.in-None.ensures (c.in_ok-no_closure-in-None.ensures a s h)
