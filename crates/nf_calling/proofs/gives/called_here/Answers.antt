use Rattle.std.proofs.Common.{refl}
use Rattle.std.specs.Prelude.{map}
use Rattle.nf_meaning.specs.Calls as meaning
use Rattle.nf_scopes.specs.Things.{output_of}
use Rattle.nf_lowering.specs.State.{IsLowering}
use Rattle.nf_lowering.specs.Workflows.{gives_call}
use Rattle.nf_walked.specs.Around.{Knows}
use Rattle.nf_walked.specs.Forms.{a_thing, outputs as made}
use Rattle.nf_walked.specs.Steps.{Goes, from}
use Rattle.nf_walked.proofs.Stepping.{goes_as, later_as, on_ok, stepped}
use Rattle.nf_calling.proofs.gives.called_here.Goals as goal

pub returns : goal.returns
returns g c =
    let old = c.args.state.now in
    let new = c.called_here.new.self in
    let e = c.called_here.ensures in
    let n = c.args.name.now in
    let os = c.args.outputs in
    stepped (Knows g.N.Natives.titles g.N.Natives.answer c.args.walker.now) (gives_call n (map output_of os.items)) (from made os a_thing (meaning.called_here n)) old new c.called_here.result
    (later_as old.plan new.plan e.plan) (on_ok c.called_here.result (IsLowering new) (Goes old new) (λ k. goes_as old new k e.calls e.plan e.within) e.keeps) e.reads e.walk
    (λ p y stands is. (record { reads = c.requires.reads; stands = is }, refl)) (λ x v z h. h.1)
