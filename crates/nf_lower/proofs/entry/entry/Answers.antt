use Rattle.std.proofs.Common.{map, ap, subst, sym}
use Rattle.std.specs.Prelude.{Option}
use Rattle.nf_ast.specs.Tops.{view_top}
use Rattle.nf_ast.specs.Tree.{Tree}
use Rattle.nf_ast.specs.View.{trees}
use Rattle.nf_meaning.specs.Places.{first_place}
use Rattle.nf_meaning.specs.Script.{entry_in, entry_walk}
use Rattle.nf_meaning.specs.declared.fault.LowerFault.TheVariants.{NoEntry}
use Rattle.nf_walked.specs.Around.{Knows}
use Rattle.nf_walked.specs.Forms.{outputs}
use Rattle.nf_walked.specs.Steps.{Walked, due}
use Rattle.nf_walked.proofs.Stills.{refused_here}
use Rattle.nf_lower.proofs.entry.entry.Goals as goal

pub returns-in-Some : goal.returns-in-Some
returns-in-Some g c =
    let P : Option Tree → Type 0 = λ o. Walked (Knows g.N.Natives.titles g.N.Natives.answer c.args.walker.now) (due outputs (entry_walk o)) c.args.state.now c.entered.new.state c.entered.result in
    subst P c.in-Some.ensures c.entered.ensures

pub returns-in-None : goal.returns-in-None
returns-in-None g c =
    let w = entry_in (trees (map view_top c.args.tops.now)) in
    refused_here (Knows g.N.Natives.titles g.N.Natives.answer c.args.walker.now) (due outputs (entry_walk w)) c.args.state.now (NoEntry first_place) c.requires.lowering
    (λ p y stands is. ap (λ o. entry_walk o p.around p.state) (sym c.in-None.ensures))
