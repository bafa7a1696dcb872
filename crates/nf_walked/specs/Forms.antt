-- What comes out of steps.
use Rattle.std.specs.Prelude.{◌≡◌, ℕ, List, map}
use Rattle.std.specs.Global.{Vec}
use Rattle.nf_value.specs.Plain.{Plain}
use Rattle.nf_value.specs.View.{pair_of, plain_of}
use Rattle.nf_value.specs.declared.value.Value.{Value}
use Rattle.nf_graph.specs.declared.port.Port.{Port}
use Rattle.nf_meaning.specs.Nodes.{PortsStand}
use Rattle.nf_meaning.specs.Stands.{OutputStands, OutputsStand, StandsFor, ThingStands}
use Rattle.nf_meaning.specs.Things as meaning
use Rattle.nf_meaning.specs.Things.{Channel, Output}
use Rattle.nf_scopes.specs.declared.things.Thing.{Thing}
use Rattle.nf_scopes.specs.declared.things.CallOutput.{CallOutput}
use Rattle.nf_scopes.specs.Things.{output_of, thing_of}
use Rattle.nf_plan.specs.declared.builder.PlanBuilder.{PlanBuilder}
use Rattle.nf_plan.specs.Plans.{ReadPlan}
use Rattle.nf_plan.specs.Runs.{bags_of}
use Rattle.nf_follows.specs.Things.{OutputsRead, PortReads, ThingReads}
use Rattle.nf_walked.specs.Steps.{Form}

-- for any value, as long as it isn't looked at
abbrev pub Anything : {A : Type 0} → PlanBuilder → A → Type 0
Anything b v = Unit {0}

abbrev pub nothing : Form (Unit {0}) (Unit {0})
nothing = record { Fits = Anything; Stands = λ x b v y. Unit {0} }

-- a thing in memory for one of the meaning
abbrev pub a_thing : Form Thing meaning.Thing
a_thing = record {
  Fits = λ b t. ThingReads b (thing_of t);
  Stands = λ x b t y. ThingStands (bags_of x b) (thing_of t) y;
}

-- a value
abbrev pub a_value : Form Value Plain
a_value = record { Fits = Anything; Stands = λ x b v y. plain_of v ≡ y }

-- values in a row
abbrev pub values : Form (Vec Value) (List Plain)
values = record { Fits = Anything; Stands = λ x b vs ys. map plain_of vs.items ≡ ys }

-- names with values, in a row
abbrev pub pairs : Form (Vec (List ℕ × Value)) (List (List ℕ × Plain))
pairs = record { Fits = Anything; Stands = λ x b ps bs. map pair_of ps.items ≡ bs }

-- what is the same in both
abbrev pub same : {A : Type 0} → Form A A
same = record { Fits = Anything; Stands = λ x b v y. v ≡ y }

-- a port for a channel
abbrev pub a_port : Form Port Channel
a_port = record { Fits = PortReads; Stands = λ x b p c. StandsFor (bags_of x b) p c }

-- ports for channels, place by place
abbrev pub ports : Form (Vec Port) (List Channel)
ports = record { Fits = λ b ps. ReadPlan b ps.items; Stands = λ x b ps cs. PortsStand (bags_of x b) ps.items cs }

-- what a call gives
abbrev pub outputs : Form (Vec CallOutput) (List Output)
outputs = record {
  Fits = λ b os. OutputsRead b (map output_of os.items);
  Stands = λ x b os qs. OutputsStand (bags_of x b) (map output_of os.items) qs;
}

-- one output of a call
abbrev pub an_output : Form CallOutput Output
an_output = record {
  Fits = λ b o. PortReads b o.port;
  Stands = λ x b o q. OutputStands (bags_of x b) (output_of o) q;
}
