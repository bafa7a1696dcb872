use Rattle.std.proofs.Common.{◌<◌, sym, subst}
use Rattle.nf_known.specs.Known.{definitions_in}
use Rattle.nf_known.specs.Stuck.{IsLedTo, IsWrongAs, LeadsOn, left_after, wrong_in_function}
use Rattle.nf_known.proofs.Leads.{none_around, wrong_next, fewer_after}
use Rattle.nf_known.proofs.names.KnownScript.stuck_fault.Goals as goal

pub leads-init : goal.leads-init
leads-init g c = record {
  to = c.in_ok-led.ensures.to;
  same = λ i inside. c.in_ok-led.ensures.leads i (none_around g.N.Natives.titles c.args.self.now c.new-within.result.keys c.new-within.ensures.empty i inside);
}

pub leads-preserved : goal.leads-preserved
leads-preserved g c = record {
  to = c.in_ok-led-in-To.ensures.to;
  same = λ i inside.
      let x = c.args.self.now in
      let names = c.leads.within.keys in
      let wrong = wrong_in_function (definitions_in x) i c.args.first.now in
      let w : IsWrongAs g.N.Natives.titles x names c.in-To.function.now wrong = subst (LeadsOn g.N.Natives.titles x names wrong) c.in-To.is (c.leads.invariant.same i inside) in
      wrong_next g.N.Natives.titles x names c.led_on-in-To.new.within.keys c.in-To.function.now wrong w c.in_ok-led-in-To.led (c.in_ok-led-in-To.ensures.leads w.inside w.is);
}

pub leads-smaller : goal.leads-smaller
leads-smaller g c =
    let x = c.args.self.now in
    let names = c.leads.within.keys in
    let more = c.led_on-in-To.new.within.keys in
    subst (λ z. left_after x more c.in_ok-led-in-To.led < left_after x names z) (sym c.in-To.is)
    (fewer_after g.N.Natives.titles x names more c.in-To.function.now (subst (IsLedTo x names) c.in-To.is c.leads.invariant.to) c.in_ok-led-in-To.led c.in_ok-led-in-To.ensures.within)

pub returns-in-Nowhere : goal.returns-in-Nowhere
returns-in-Nowhere g c i inside =
    sym (subst (LeadsOn g.N.Natives.titles c.args.self.now c.leads.within.keys (wrong_in_function (definitions_in c.args.self.now) i c.args.first.now)) c.in-Nowhere.is (c.leads.invariant.same i inside))

pub returns-in-Fault : goal.returns-in-Fault
returns-in-Fault g c i inside =
    sym (subst (LeadsOn g.N.Natives.titles c.args.self.now c.leads.within.keys (wrong_in_function (definitions_in c.args.self.now) i c.args.first.now)) c.in-Fault.is (c.leads.invariant.same i inside))
