use Rattle.std.proofs.Common.{◌≡◌}
use Rattle.nf_tasks.specs.Memory.{program}
use Rattle.nf_traced.specs.Traced.{attempts_to, nodes_of}
use Rattle.nf_traced.proofs.attempts.attempts.Given as goal

abbrev pub invariant-loop-number : goal.invariant-loop-number
invariant-loop-number g l =
    let m = nodes_of (program (g.N.Natives.titles l.natives) (g.N.Natives.answer l.natives)) l.infos in
    l.attempts.items ≡ attempts_to m l.taken l.inputs l.number
