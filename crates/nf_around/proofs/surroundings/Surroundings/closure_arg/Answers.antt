use Rattle.std.proofs.Common.{sym, subst}
use Rattle.nf_ast.specs.View.{view}
use Rattle.nf_meaning.specs.Closures.{closure_arg}
use Rattle.nf_known.specs.Reading.{reading_of}
use Rattle.nf_around.specs.Gives.{IsClosing, Reads}
use Rattle.nf_around.proofs.Taken.{no_closing}
use Rattle.nf_around.proofs.surroundings.Surroundings.closure_arg.Goals as goal

pub returns-in-Some : goal.returns-in-Some
returns-in-Some g c a s h = subst (λ t. Reads (IsClosing a.given.program) (closure_arg (reading_of c.args.reading) t) a s c.without_labels.result) (sym c.in-Some.ensures) (c.without_labels.ensures a s h)

pub returns-in_ok-no_closure-in-None : goal.returns-in_ok-no_closure-in-None
returns-in_ok-no_closure-in-None g c a s h = no_closing (view c.args.expr.now) a s c.in_ok-no_closure-in-None.field-0 c.in-None.ensures (c.in_ok-no_closure-in-None.ensures a s h) (reading_of c.args.reading)
