use Rattle.std.proofs.Common.{◌≡◌, drop}
use Rattle.nf_known.specs.Known.{definitions_in}
use Rattle.nf_known.specs.Stuck.{Inside, IsInside, wrong_in_calls}
use Rattle.nf_known.proofs.names.KnownScript.led.Given as goal

abbrev pub invariant-loop-one : goal.invariant-loop-one
invariant-loop-one g l =
    (i : Inside) → IsInside g.N.Natives.titles l.self l.within.keys i
    → wrong_in_calls (definitions_in l.self) i l.uses ≡ wrong_in_calls (definitions_in l.self) i (drop l.one-index l.uses)
