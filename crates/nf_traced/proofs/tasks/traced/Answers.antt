use Rattle.std.proofs.Common.{List, ◌++◌, ap, ◌∙◌}
use Rattle.std.specs.List.{flat_map}
use Rattle.nf_tasks.specs.Memory.{program}
use Rattle.nf_flow.specs.Questions.{inputs_in}
use Rattle.nf_trace.specs.declared.task.TracedTask.{TracedTask}
use Rattle.nf_traced.specs.declared.taken.Taken.{Taken}
use Rattle.nf_traced.specs.Traced.{nodes_of, task_by}
use Rattle.nf_traced.proofs.Showing.{given_all, given_at}
use Rattle.nf_traced.proofs.tasks.traced.Goals as goal

pub loop-taken-init : goal.loop-taken-init
loop-taken-init g c =
    let m = nodes_of (program (g.N.Natives.titles c.args.natives.now) (g.N.Natives.answer c.args.natives.now)) c.args.infos.now in
    let f : Taken → List TracedTask = λ x. task_by m x (inputs_in c.args.flow.now x.ticket) in
    ap (λ (ts : List TracedTask). ts ++ flat_map f c.deref-taken-items.result.now) c.new-tasks.ensures.items

pub loop-taken-preserved : goal.loop-taken-preserved
loop-taken-preserved g c =
    let m = nodes_of (program (g.N.Natives.titles c.args.natives.now) (g.N.Natives.answer c.args.natives.now)) c.args.infos.now in
    let f : Taken → List TracedTask = λ x. task_by m x (inputs_in c.args.flow.now x.ticket) in
    let xs = c.deref-taken-items.result.now in
    given_at f (flat_map f xs) c.loop-taken.tasks.items c.push_task.new.tasks.items xs c.loop-taken.taken-index _
    c.loop-taken-test.true c.loop-taken.invariant c.in_ok-push_task.ensures

pub returns : goal.returns
returns g c =
    let m = nodes_of (program (g.N.Natives.titles c.args.natives.now) (g.N.Natives.answer c.args.natives.now)) c.args.infos.now in
    let f : Taken → List TracedTask = λ x. task_by m x (inputs_in c.args.flow.now x.ticket) in
    let xs = c.deref-taken-items.result.now in
    given_all f (flat_map f xs) c.loop-taken.tasks.items xs c.loop-taken.taken-index c.loop-taken-test.false c.loop-taken.invariant
    ∙ ap (flat_map f) (c.deref-taken-items.ensures.value ∙ c.in_ok-takes.ensures.takes)
