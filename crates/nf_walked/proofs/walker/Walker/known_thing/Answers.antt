use Rattle.std.proofs.Common.{◌≡◌, Err, rules}
use Rattle.nf_fronts.specs.Fronts.{tree_of}
use Rattle.nf_meaning.specs.Expressions.{value_of}
use Rattle.nf_walked.specs.Around.{Knows}
use Rattle.nf_walked.proofs.Stills.{known_fault, known_given}
use Rattle.nf_walked.proofs.walker.Walker.known_thing.Goals as goal

pub returns-in_err-value : goal.returns-in_err-value
returns-in_err-value g c =
    let e = c.in_err-value.field-0.0 in
    let err : c.from_residual.result ≡ Err e = search rules in
    rw err (known_fault (Knows g.N.Natives.titles g.N.Natives.answer c.args.self.now) (value_of (tree_of c.args.front)) c.args.state.now e c.in_err-value.ensures)

pub returns : goal.returns
returns g c = known_given (Knows g.N.Natives.titles g.N.Natives.answer c.args.self.now) (value_of (tree_of c.args.front)) c.args.state.now c.in_ok-value.value c.in_ok-value.ensures
