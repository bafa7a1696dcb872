use Rattle.std.proofs.Common.{◌≡◌, ◌++◌, drop}
use Rattle.std.specs.List.{flat_map}
use Rattle.nf_tasks.specs.Memory.{program}
use Rattle.nf_flow.specs.Questions.{inputs_in}
use Rattle.nf_traced.specs.Traced.{nodes_of, task_by}
use Rattle.nf_traced.proofs.tasks.traced.Given as goal

abbrev pub invariant-loop-taken : goal.invariant-loop-taken
invariant-loop-taken g l =
    let m = nodes_of (program (g.N.Natives.titles l.natives) (g.N.Natives.answer l.natives)) l.infos in
    l.tasks.items ++ flat_map (λ x. task_by m x (inputs_in l.fn.flow x.ticket)) (drop l.taken-index l.taken-items)
    ≡ flat_map (λ x. task_by m x (inputs_in l.fn.flow x.ticket)) l.taken-items
