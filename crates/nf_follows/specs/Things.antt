-- Things that read a plan.
use Rattle.std.specs.Prelude.{List, [], ◌∷◌, length}
use Rattle.nf_graph.specs.declared.port.Port.{Port}
use Rattle.nf_graph.specs.WellMade.{ReadsEarlier}
use Rattle.nf_meaning.specs.Stands.{PortOutput, PortThing, known, read, results}
use Rattle.nf_plan.specs.declared.builder.PlanBuilder.{PlanBuilder}

-- the port reads an output of a node of the plan, a value port that of a value channel
abbrev pub PortReads : PlanBuilder → Port → Type 0
PortReads b p = ReadsEarlier b.nodes.items (length b.nodes.items) p

abbrev pub OutputsRead : PlanBuilder → List PortOutput → Type 0
OutputsRead b [] = Unit {0}
OutputsRead b (o ∷ os) = PortReads b o.port × OutputsRead b os

-- so do all ports of the thing
abbrev pub ThingReads : PlanBuilder → PortThing → Type 0
ThingReads b (known v) = Unit {0}
ThingReads b (read port) = PortReads b port
ThingReads b (results os) = OutputsRead b os
