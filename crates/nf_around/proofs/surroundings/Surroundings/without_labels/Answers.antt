use Rattle.std.proofs.Common.{◌≡◌, Err, rules}
use Rattle.nf_known.specs.Reading.{reading_of}
use Rattle.nf_around.proofs.Taken.{has_some, closure_wrong, closure_right}
use Rattle.nf_around.proofs.surroundings.Surroundings.without_labels.Goals as goal

pub returns-in-Some : goal.returns-in-Some
returns-in-Some g c a s h = has_some (reading_of c.args.reading) c.args.closure.now a s c.in-Some.ensures.some

pub returns-in_err-check_closure-in-None : goal.returns-in_err-check_closure-in-None
returns-in_err-check_closure-in-None g c a s h =
    let err : c.from_residual.result ≡ Err c.in_err-check_closure-in-None.field-0.0 = search rules in
    rw err (closure_wrong (reading_of c.args.reading) c.args.closure.now a s c.in-None.ensures c.in_err-check_closure-in-None.field-0.0 (c.in_err-check_closure-in-None.ensures a s.scope h))

pub returns-in_ok-captured-in-None : goal.returns-in_ok-captured-in-None
returns-in_ok-captured-in-None g c a s h =
    closure_right (reading_of c.args.reading) c.args.closure.now a s c.in-None.ensures c.in_ok-check_closure-in-None.field-0 c.in_ok-captured-in-None.field-0
    (c.in_ok-check_closure-in-None.ensures a s.scope h) (c.in_ok-captured-in-None.ensures a s.scope h)
