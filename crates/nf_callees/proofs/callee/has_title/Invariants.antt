use Rattle.std.proofs.Common.{◌≡◌, drop}
use Rattle.nf_builtins.specs.Natives.{is_among}
use Rattle.nf_callees.proofs.callee.has_title.Given as goal

abbrev pub invariant-loop-id : goal.invariant-loop-id
invariant-loop-id g l = is_among l.name (g.N.Natives.titles l.natives) ≡ is_among l.name (drop l.id (g.N.Natives.titles l.natives))
