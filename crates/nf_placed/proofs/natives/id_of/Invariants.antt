use Rattle.std.proofs.Common.{◌≡◌, drop}
use Rattle.nf_placed.specs.Calls.{id_from}
use Rattle.nf_placed.proofs.natives.id_of.Given as goal

abbrev pub invariant-loop-id : goal.invariant-loop-id
invariant-loop-id g l = id_from 0 l.name (g.N.Natives.titles l.natives) ≡ id_from l.id l.name (drop l.id (g.N.Natives.titles l.natives))
