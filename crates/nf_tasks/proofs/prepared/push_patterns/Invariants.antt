use Rattle.std.proofs.Common.{◌≡◌, map, drop}
use Rattle.nf_tasks.specs.Judged.{added}
use Rattle.nf_tasks.specs.Meaning.{parts_patterns}
use Rattle.nf_tasks.specs.Memory.{program, part_of}
use Rattle.nf_tasks.specs.Prepared.{texts_of}
use Rattle.nf_tasks.proofs.prepared.push_patterns.Given as goal

abbrev pub invariant-loop-part : goal.invariant-loop-part
invariant-loop-part g l =
    let n = program (g.N.Natives.titles l.natives) (g.N.Natives.answer l.natives) in
    added l.texts.items (texts_of (parts_patterns l.output.place (map (part_of n) (drop l.part-index l.part-items))) l.seen) ≡ added l.initial.texts.items (texts_of (parts_patterns l.output.place (map (part_of n) l.part-items)) l.seen)
