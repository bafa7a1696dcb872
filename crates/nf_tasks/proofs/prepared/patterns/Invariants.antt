use Rattle.std.proofs.Common.{◌≡◌, map, drop}
use Rattle.nf_tasks.specs.Judged.{added}
use Rattle.nf_tasks.specs.Meaning.{patterns_in}
use Rattle.nf_tasks.specs.Memory.{program, output_of}
use Rattle.nf_tasks.specs.Prepared.{texts_of}
use Rattle.nf_tasks.proofs.prepared.patterns.Given as goal

abbrev pub invariant-loop-output : goal.invariant-loop-output
invariant-loop-output g l =
    let n = program (g.N.Natives.titles l.natives) (g.N.Natives.answer l.natives) in
    added l.texts.items (texts_of (patterns_in (map (output_of n) (drop l.output-index l.outputs))) l.seen) ≡ texts_of (patterns_in (map (output_of n) l.outputs)) l.seen
