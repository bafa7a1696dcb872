use Rattle.std.proofs.Common.{◌≡◌, map, take}
use Rattle.nf_meaning.specs.Walk as walk
use Rattle.nf_around.specs.Around.{IsBody}
use Rattle.nf_around.specs.Labels.{HasParams}
use Rattle.nf_around.proofs.Labelled.{Goes}
use Rattle.nf_around.proofs.surroundings.Surroundings.each_label.Given as goal

abbrev pub invariant-loop-label : goal.invariant-loop-label
invariant-loop-label g l =
    (l.titles.items ≡ map (λ x. x.name) (take l.label-index l.labels))
    × ((a : walk.Around) (s : walk.Scope) → IsBody g.N.Natives.titles g.N.Natives.answer l.self l.names a s → HasParams a s l.closure
    → Goes a s l.closure l.labels l.label-index l.titles.items l.closures.items)
