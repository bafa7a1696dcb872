use Rattle.std.proofs.Common.{◌≡◌, Ok, Err, rules}
use Rattle.nf_value.specs.View.{plain_of}
use Rattle.nf_opargs.specs.Sources.{fits_kind}
use Rattle.nf_meaning.specs.Sources.{path_wanted}
use Rattle.nf_taken.proofs.Options.{still_read}
use Rattle.nf_taken.proofs.Sourcing.{no_path, path_given}
use Rattle.nf_taken.proofs.paths.PathArgs.with_path.Goals as goal

pub returns-in_err-path : goal.returns-in_err-path
returns-in_err-path c =
    let e = c.in_err-path.field-0.0 in
    let err : c.from_residual.result ≡ Err e = search rules in
    let w = path_wanted (fits_kind c.args.kind) c.args.place (plain_of c.args.value) in
    rw err (λ a s. no_path (fits_kind c.args.kind) c.args.place (plain_of c.args.value) c.args.self a s e (still_read w a s (Err e) (c.in_err-path.ensures a s)))

pub returns : goal.returns
returns c =
    let w = path_wanted (fits_kind c.args.kind) c.args.place (plain_of c.args.value) in
    λ a s. path_given (fits_kind c.args.kind) c.args.place (plain_of c.args.value) c.args.self a s c.in_ok-path.path (still_read w a s (Ok c.in_ok-path.path) (c.in_ok-path.ensures a s))
