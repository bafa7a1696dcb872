use Rattle.std.proofs.Common.{◌≡◌, map, drop}
use Rattle.nf_value.specs.View.{plain_of}
use Rattle.nf_tasks.specs.Judged.{added}
use Rattle.nf_tasks.specs.Memory.{program, part_of}
use Rattle.nf_tasks.specs.Emission.{given, part_values}
use Rattle.nf_tasks.proofs.emission.part_values.Given as goal

abbrev pub invariant-loop-part : goal.invariant-loop-part
invariant-loop-part g l =
    let n = program (g.N.Natives.titles l.natives) (g.N.Natives.answer l.natives) in
    added (map plain_of l.values.items) (part_values (given l.giving) (map (part_of n) (drop l.part-index l.parts)) l.left) ≡ part_values (given l.giving) (map (part_of n) l.parts) l.initial.left
