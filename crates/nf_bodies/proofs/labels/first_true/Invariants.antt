use Rattle.std.proofs.Common.{◌≡◌, map, drop}
use Rattle.nf_tasks.specs.Memory.{formula_of, program}
use Rattle.nf_bodies.specs.Labels.{first_true}
use Rattle.nf_bodies.proofs.labels.first_true.Given as goal

abbrev pub invariant-loop-number : goal.invariant-loop-number
invariant-loop-number g l =
    let f = formula_of (program (g.N.Natives.titles l.natives) (g.N.Natives.answer l.natives)) in
    first_true (map f (drop l.number l.labels)) l.number l.args ≡ first_true (map f l.labels) 0 l.args
