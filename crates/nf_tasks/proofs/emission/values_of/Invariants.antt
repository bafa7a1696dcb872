use Rattle.std.proofs.Common.{◌≡◌, map, option_map, drop}
use Rattle.nf_value.specs.View.{plain_of}
use Rattle.nf_tasks.specs.Judged.{added}
use Rattle.nf_tasks.specs.Memory.{program, output_of}
use Rattle.nf_tasks.specs.Emission.{given, values_of}
use Rattle.nf_tasks.proofs.emission.values_of.Given as goal

abbrev pub invariant-loop-output : goal.invariant-loop-output
invariant-loop-output g l =
    let n = program (g.N.Natives.titles l.natives) (g.N.Natives.answer l.natives) in
    added (map (option_map plain_of) l.values.items) (values_of (given l.giving) (map (output_of n) (drop l.output-index l.outputs)) l.left) ≡ values_of (given l.giving) (map (output_of n) l.outputs) l.initial.left
