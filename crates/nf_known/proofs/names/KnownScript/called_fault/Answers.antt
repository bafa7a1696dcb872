use Rattle.std.proofs.Common.{◌∙◌, sym, subst}
use Rattle.std.proofs.lemmas.Result.{IfOk-weaker}
use Rattle.nf_known.specs.Known.{definitions_in}
use Rattle.nf_known.specs.Stuck.{IsCalled, outermost}
use Rattle.nf_known.proofs.Leads.{outside, outside_all}
use Rattle.nf_known.proofs.names.KnownScript.called_fault.Goals as goal

pub returns-in-Nowhere : goal.returns-in-Nowhere
returns-in-Nowhere g c given script =
    sym (c.in-Nowhere.ensures.leads (outermost given (definitions_in c.args.self.now)) (outside g.N.Natives.titles c.args.self.now given script c.new-within.result.keys c.new-within.ensures.empty))

pub returns-in-Fault : goal.returns-in-Fault
returns-in-Fault g c given script =
    sym (c.in-Fault.ensures.leads (outermost given (definitions_in c.args.self.now)) (outside g.N.Natives.titles c.args.self.now given script c.new-within.result.keys c.new-within.ensures.empty))

pub stuck_fault-requires : goal.stuck_fault-requires
stuck_fault-requires g c = subst (λ ns. IsCalled c.args.self.now ns c.in-To.function.now) c.new-within.ensures.empty c.in-To.ensures.to

pub returns : goal.returns
returns g c =
    IfOk-weaker c.stuck_fault.result _ _
    (λ o h given script. h (outermost given (definitions_in c.args.self.now)) (outside_all g.N.Natives.titles c.args.self.now given script)
    ∙ sym (c.in-To.ensures.leads (outermost given (definitions_in c.args.self.now)) (outside g.N.Natives.titles c.args.self.now given script c.new-within.result.keys c.new-within.ensures.empty)))
    c.stuck_fault.ensures
