use Rattle.std.proofs.Common.{refl}
use Rattle.nf_ast.specs.View.{view_closure}
use Rattle.nf_arguments.proofs.Behind.{the_closure}
use Rattle.nf_taken.proofs.Options.{a_total, bad_total}
use Rattle.nf_taken.proofs.body.total_wanted.Goals as goal

pub returns-in-Some : goal.returns-in-Some
returns-in-Some c =
    let is = the_closure (view_closure c.args.closure.now) c.args.closure.now refl in
    λ a s. a_total (view_closure c.args.closure.now) c.args.closure.now.place is.closure is.place a s c.in-Some.total c.in-Some.ensures

pub returns-in-None : goal.returns-in-None
returns-in-None c =
    let is = the_closure (view_closure c.args.closure.now) c.args.closure.now refl in
    λ a s. bad_total (view_closure c.args.closure.now) c.args.closure.now.place is.closure is.place a s c.in-None.ensures
