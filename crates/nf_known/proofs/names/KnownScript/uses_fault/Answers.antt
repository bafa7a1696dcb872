use Rattle.std.proofs.Common.{◌∙◌, sym}
use Rattle.std.proofs.lemmas.Result.{IfOk-weaker}
use Rattle.nf_meaning.specs.Names.{uses_fault}
use Rattle.nf_known.specs.Known.{definitions_in}
use Rattle.nf_known.specs.Reading.{reading_of}
use Rattle.nf_known.specs.Stuck.{outermost, wrong_in_calls}
use Rattle.nf_known.proofs.Firsts.{none_first, some_first}
use Rattle.nf_known.proofs.Whole.{whole_fault}
use Rattle.nf_known.proofs.names.KnownScript.uses_fault.Goals as goal

pub returns-in-Some : goal.returns-in-Some
returns-in-Some g c q asked =
    let ds = definitions_in c.args.self.now in
    let us = c.args.uses.now in
    sym (some_first (uses_fault q.given ds q.known (reading_of c.args.reading) us) (wrong_in_calls ds (outermost q.given ds) us) c.in-Some.fault
    (sym (c.in-Some.ensures q.given q.known asked.script.program asked.names)))
    ∙ whole_fault g.N.Natives.titles c.args.self.now c.args.around.now q asked (reading_of c.args.reading) us

pub returns : goal.returns
returns g c =
    let ds = definitions_in c.args.self.now in
    let us = c.args.uses.now in
    IfOk-weaker c.called_fault.result _ _
    (λ o h q asked. h q.given asked.script
    ∙ sym (none_first (uses_fault q.given ds q.known (reading_of c.args.reading) us) (wrong_in_calls ds (outermost q.given ds) us) (sym (c.in_default.ensures q.given q.known asked.script.program asked.names)))
    ∙ whole_fault g.N.Natives.titles c.args.self.now c.args.around.now q asked (reading_of c.args.reading) us)
    c.called_fault.ensures
