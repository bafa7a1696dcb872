use Rattle.std.proofs.Common.{refl}
use Rattle.nf_declared.proofs.Reading.{function_goes, log_goes, println_goes, process_goes, workflow_goes}
use Rattle.nf_declared.proofs.read.TopReader.top.Goals as goal

pub returns-in-Process-clause-walk : goal.returns-in-Process-clause-walk
returns-in-Process-clause-walk g c =
    let x = c.args.self.now in
    process_goes g.N.Natives.titles g.N.Natives.answer c.args.top.now c.in-Process.process x (record x { names = c.new_name.new.self }) c.new_name.result c.in-Process.is c.new_name.ensures refl

pub returns-in-Workflow-clause-walk : goal.returns-in-Workflow-clause-walk
returns-in-Workflow-clause-walk g c =
    let x = c.args.self.now in
    workflow_goes g.N.Natives.titles g.N.Natives.answer c.args.top.now c.in-Workflow.workflow x (record x { names = c.workflow.new.self }) c.workflow.result c.in-Workflow.is c.workflow.ensures refl

pub returns-in-Function-clause-walk : goal.returns-in-Function-clause-walk
returns-in-Function-clause-walk g c =
    let x = c.args.self.now in
    function_goes g.N.Natives.titles g.N.Natives.answer c.args.top.now c.in-Function.function x (record x { names = c.new_name-in-Function.new.self }) c.new_name-in-Function.result c.in-Function.is c.new_name-in-Function.ensures refl

pub returns-in-Println-clause-walk : goal.returns-in-Println-clause-walk
returns-in-Println-clause-walk g c =
    println_goes g.N.Natives.titles g.N.Natives.answer c.args.top.now c.in-Println.field-0 c.in-Println.expr c.args.self.now c.read_alone.result c.in-Println.is c.read_alone.ensures

pub returns-in-Log-clause-walk : goal.returns-in-Log-clause-walk
returns-in-Log-clause-walk g c =
    log_goes g.N.Natives.titles g.N.Natives.answer c.args.top.now c.in-Log.field-0 c.in-Log.place c.in-Log.name c.in-Log.expr c.args.self.now c.log_alone.result c.in-Log.is c.log_alone.ensures
