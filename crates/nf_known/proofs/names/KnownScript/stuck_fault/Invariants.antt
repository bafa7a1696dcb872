use Rattle.std.proofs.Common.{[]}
use Rattle.nf_known.specs.Known.{definitions_in}
use Rattle.nf_known.specs.Stuck.{Inside, IsInside, IsLedTo, LeadsOn, left_after, wrong_in_function}
use Rattle.nf_known.proofs.names.KnownScript.stuck_fault.Given as goal

abbrev pub invariant-leads : goal.invariant-leads
invariant-leads g l = record {
  to : IsLedTo l.self l.within.keys l.led;
  same : (i : Inside) → IsInside g.N.Natives.titles l.self [] i → LeadsOn g.N.Natives.titles l.self l.within.keys (wrong_in_function (definitions_in l.self) i l.first) l.led;
}

abbrev pub decreases-leads : goal.decreases-leads
decreases-leads g l = left_after l.self l.within.keys l.led
