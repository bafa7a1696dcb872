use Rattle.std.proofs.Common.{◌≡◌, rules}
use Rattle.nf_callees.specs.Found.{held}
use Rattle.nf_walked.specs.Around.{files_of}
use Rattle.nf_applied.proofs.Looking.{is_found}
use Rattle.nf_applied.proofs.files.files.Goals as goal

pub returns-in-Some : goal.returns-in-Some
returns-in-Some g c =
    let is : c.in-Some.files.now ≡ files_of (held c.args.path.now c.args.walker.now.found.now.entries) = search rules in
    is_found g.N.Natives.titles g.N.Natives.answer c.args.walker.now c.args.path.now c.in-Some.files.now is
