use Rattle.std.proofs.Common.{◌≡◌, Err, false, rules, true}
use Rattle.std.specs.Prelude.{bytes_eq, codes}
use Rattle.nf_ast.specs.View.{view}
use Rattle.nf_meaning.specs.declared.fault.LowerFault.TheVariants.{BadOption}
use Rattle.nf_walked.specs.Around.{Knows}
use Rattle.nf_walked.proofs.Names.{logged_info, logged_other}
use Rattle.nf_walked.proofs.walker.Walker.logged.Goals as goal

pub returns-then-eq : goal.returns-then-eq
returns-then-eq g c =
    let is : bytes_eq c.args.name.now (codes "info") ≡ true = search rules in
    logged_info (Knows g.N.Natives.titles g.N.Natives.answer c.args.self.now) c.args.place c.args.name.now (view c.args.expr.now) c.args.state.now c.only_read.result is c.only_read.ensures

pub returns : goal.returns
returns g c =
    let is : bytes_eq c.args.name.now (codes "info") ≡ false = search rules in
    let fault : c.bad_option.result ≡ Err (BadOption c.args.place) = search rules in
    logged_other (Knows g.N.Natives.titles g.N.Natives.answer c.args.self.now) c.args.place c.args.name.now (view c.args.expr.now) c.args.state.now c.bad_option.result c.requires.lowering is fault
