use Rattle.std.proofs.Common.{◌∙◌, subst}
use Rattle.nf_ast.specs.View.{view_closure}
use Rattle.nf_known.specs.Reading.{reading_of}
use Rattle.nf_around.specs.Around.{asked_in}
use Rattle.nf_around.specs.Gives.{Judges}
use Rattle.nf_around.proofs.Asked.{asked, wrong}
use Rattle.nf_around.proofs.surroundings.Surroundings.check_closure.Goals as goal

pub returns : goal.returns
returns g c a s h =
    let titles = g.N.Natives.titles in
    let answer = g.N.Natives.answer in
    let x = c.args.self.now in
    subst (λ f. Judges f c.judged.result)
    (c.in_ok-closure_fault.ensures (asked_in a s) (asked titles answer x c.args.names a s h) ∙ wrong titles answer x c.args.names a s h (reading_of c.args.reading) (view_closure c.args.closure.now))
    c.judged.ensures
