use Rattle.std.proofs.Common.{◌≡◌, map, drop}
use Rattle.nf_value.specs.View.{plain_of}
use Rattle.nf_tasks.specs.Memory.{formula_of, program}
use Rattle.nf_bodies.specs.Labels.{all_values, and_values}
use Rattle.nf_bodies.proofs.labels.label_values.Given as goal

abbrev pub invariant-loop-label : goal.invariant-loop-label
invariant-loop-label g l =
    let f = formula_of (program (g.N.Natives.titles l.natives) (g.N.Natives.answer l.natives)) in
    and_values (map plain_of l.values.items) (all_values (map f (drop l.label-index l.labels)) l.args) ≡ all_values (map f l.labels) l.args
