use Rattle.std.proofs.Common.{◌∙◌, [], refl}
use Rattle.nf_meaning.specs.Walk.{begins_call}
use Rattle.nf_lowering.specs.Steps.{begins, begins_process}
use Rattle.nf_walked.specs.Around.{Knows}
use Rattle.nf_walked.specs.Forms.{nothing}
use Rattle.nf_walked.specs.Steps.{due}
use Rattle.nf_walked.proofs.Goings.{anything}
use Rattle.nf_walked.proofs.Stepping.{later_as, stepped}
use Rattle.nf_calling.specs.Calls.{begins_path}
use Rattle.nf_calling.proofs.Lasting.{begun_now, goes_begun}
use Rattle.nf_calling.proofs.Texts.{contains_is}
use Rattle.nf_calling.proofs.begins.begin_call.Goals as goal

pub begin_call-requires-clause-fresh : goal.begin_call-requires-clause-fresh
begin_call-requires-clause-fresh g c = contains_is c.args.state.now.called c.args.name.now ∙ c.requires.new

pub returns-clause-process : goal.returns-clause-process
returns-clause-process g c =
    let old = c.args.state.now in
    let new = c.begin_call.new.self in
    let e = c.begin_call.ensures in
    let n = c.args.name.now in
    stepped (Knows g.N.Natives.titles g.N.Natives.answer c.args.walker.now) (begins_process n) (due nothing (begins_path n)) old new c.begin_call.result (later_as old.plan new.plan e.plan)
    (goes_begun c.paths_stay_apart.ensures.again old new c.begin_call.result e.keeps e.goes e.plan e.within) (anything c.begin_call.result) e.process (λ p y stands is. (tt, refl)) (λ x v z h. tt)

pub returns-clause-workflow : goal.returns-clause-workflow
returns-clause-workflow g c =
    let old = c.args.state.now in
    let new = c.begin_call.new.self in
    let e = c.begin_call.ensures in
    let n = c.args.name.now in
    stepped (Knows g.N.Natives.titles g.N.Natives.answer c.args.walker.now) (begins n) (due nothing (begins_call n [])) old new c.begin_call.result (later_as old.plan new.plan e.plan)
    (goes_begun c.paths_stay_apart.ensures.again old new c.begin_call.result e.keeps e.goes e.plan e.within) (anything c.begin_call.result) e.workflow (λ p y stands is. (tt, refl)) (λ x v z h. tt)

pub returns-clause-begun : goal.returns-clause-begun
returns-clause-begun g c =
    begun_now c.args.name.now c.begin_call.new.self c.begin_call.result c.requires.plain c.begin_call.ensures.here c.begin_call.ensures.none
