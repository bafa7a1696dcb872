use Rattle.std.proofs.Common.{◌∙◌, ◌+◌, drop, refl, ap}
use Rattle.std.proofs.lemmas.List.{at_drop_all}
use Rattle.nf_known.specs.Known.{definitions_in}
use Rattle.nf_known.specs.Stuck.{wrong_in_call, wrong_in_calls}
use Rattle.nf_known.proofs.Firsts.{use_here, none_here, some_here}
use Rattle.nf_known.proofs.Leads.{first_leads}
use Rattle.nf_known.proofs.names.KnownScript.led.Goals as goal

pub loop-one-preserved : goal.loop-one-preserved
loop-one-preserved g c i inside =
    let ds = definitions_in c.args.self.now in
    c.loop-one.invariant i inside
    ∙ none_here c.args.uses.now c.loop-one.one-index c.one-item.result c.loop-one-test.true c.one-item.is (λ u. wrong_in_call ds i u.kind u.place u.text) (wrong_in_calls ds i) (λ u us. refl) (c.in-Nowhere.ensures.leads i inside)

pub returns-in-Fault-clause-leads : goal.returns-in-Fault-clause-leads
returns-in-Fault-clause-leads g c i inside =
    let ds = definitions_in c.args.self.now in
    c.loop-one.invariant i inside
    ∙ some_here c.args.uses.now c.loop-one.one-index c.one-item.result c.loop-one-test.true c.one-item.is (λ u. wrong_in_call ds i u.kind u.place u.text) (wrong_in_calls ds i) (λ u us. refl) c.in-Fault.fault (c.in-Fault.ensures.leads i inside)

pub returns-in-To-clause-leads : goal.returns-in-To-clause-leads
returns-in-To-clause-leads g c i inside =
    let ds = definitions_in c.args.self.now in
    c.loop-one.invariant i inside
    ∙ ap (wrong_in_calls ds i) (use_here c.args.uses.now c.loop-one.one-index c.one-item.result c.loop-one-test.true c.one-item.is)
    ∙ first_leads g.N.Natives.titles c.args.self.now c.args.within.now.keys i inside c.in-To.function.now c.in-To.ensures.to c.one-item.result (drop (c.loop-one.one-index + 1) c.args.uses.now) (c.in-To.ensures.leads i inside)

pub returns-clause-leads : goal.returns-clause-leads
returns-clause-leads g c i inside =
    c.loop-one.invariant i inside ∙ at_drop_all (wrong_in_calls (definitions_in c.args.self.now) i) c.args.uses.now c.loop-one.one-index c.loop-one-test.false
