use Rattle.std.proofs.Common.{◌≡◌, ◌∷◌, [], Err, rules}
use Rattle.nf_value.specs.Plain.{null}
use Rattle.nf_arguments.specs.Args.{written_arg}
use Rattle.nf_around.specs.Gives.{IsClosing, IsValue}
use Rattle.nf_eval.specs.Evaluation.{apply_of}
use Rattle.nf_meaning.specs.Closures.{closure_arg}
use Rattle.nf_meaning.specs.Lowered.{known}
use Rattle.nf_meaning.specs.Names.{before_run}
use Rattle.nf_meaning.specs.Walk.{lifted}
use Rattle.nf_taken.proofs.Walks.{fails_first, goes_on, lifted_read}
use Rattle.nf_taken.proofs.body.Body.filled.Goals as goal

pub returns-in_err-closure : goal.returns-in_err-closure
returns-in_err-closure g c =
    let e = c.in_err-closure.field-0.0 in
    let err : c.from_residual.result ≡ Err e = search rules in
    rw err (λ a s here. fails_first (IsClosing a.given.program) IsValue (closure_arg before_run (written_arg c.args.arg).tree) (λ k. lifted (known (apply_of k (null ∷ [])))) a s e (c.in_err-closure.ensures a s here))

pub returns : goal.returns
returns g c =
    λ a s here.
    goes_on (IsClosing a.given.program) IsValue (closure_arg before_run (written_arg c.args.arg).tree) (λ k. lifted (known (apply_of k (null ∷ [])))) a s c.in_ok-closure.closure c.applied_to_null.result
    (c.in_ok-closure.ensures a s here) (λ y q. lifted_read IsValue (known (apply_of y (null ∷ []))) a s c.applied_to_null.result (c.applied_to_null.ensures a y here.around q))
