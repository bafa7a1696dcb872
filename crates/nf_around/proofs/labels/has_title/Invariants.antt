use Rattle.std.proofs.Common.{◌≡◌, drop}
use Rattle.nf_builtins.specs.Natives.{is_among}
use Rattle.nf_around.proofs.labels.has_title.Given as goal

abbrev pub invariant-loop-title : goal.invariant-loop-title
invariant-loop-title l = is_among l.name l.titles ≡ is_among l.name (drop l.title-index l.titles)
