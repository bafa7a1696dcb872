-- Where a scope of ports stands for an environment of bags.
use Rattle.std.specs.Prelude.{◌≡◌, ◌<◌, ℕ, List, [], ◌∷◌, Option}
use Rattle.nf_value.specs.Plain.{Plain}
use Rattle.nf_graph.specs.declared.port.Port.{Port}
use Rattle.nf_graph.specs.Meaning.{Bags, bag_of}
use Rattle.nf_meaning.specs.Things.{Thing, a_value, a_channel, outputs, Channel, Output}

-- an output of a call as a graph has it
pub record PortOutput : Type 0 where
  pub label : Option (List ℕ)
  pub port : Port

-- what a name stands for where a graph is made: a value, a port that reads a node, or the outputs of a call
pub data PortThing : Type 0 where
  known : Plain → PortThing
  read : Port → PortThing
  results : List PortOutput → PortThing

-- the port has the channel's kind, and in these bags the channel's bag
pub record StandsFor (bags : Bags) (port : Port) (c : Channel) : Type 0 where
  pub kind : port.value ≡ c.is_value
  pub bag : bag_of bags port ≡ c.bag

pub record OutputStands (bags : Bags) (o : PortOutput) (q : Output) : Type 0 where
  pub label : o.label ≡ q.label
  pub channel : StandsFor bags o.port q.channel

abbrev pub OutputsStand : Bags → List PortOutput → List Output → Type 0
OutputsStand bags [] [] = Unit {0}
OutputsStand bags (o ∷ os) (q ∷ qs) = OutputStands bags o q × OutputsStand bags os qs
OutputsStand bags [] (q ∷ qs) = ⊥
OutputsStand bags (o ∷ os) [] = ⊥

abbrev pub ThingStands : Bags → PortThing → Thing → Type 0
ThingStands bags (known v) (a_value w) = v ≡ w
ThingStands bags (read port) (a_channel c) = StandsFor bags port c
ThingStands bags (results os) (outputs qs) = OutputsStand bags os qs
ThingStands bags (known v) (a_channel c) = ⊥
ThingStands bags (known v) (outputs qs) = ⊥
ThingStands bags (read port) (a_value w) = ⊥
ThingStands bags (read port) (outputs qs) = ⊥
ThingStands bags (results os) (a_value w) = ⊥
ThingStands bags (results os) (a_channel c) = ⊥

-- the same names, in the same order, and each stands for the same
abbrev pub ScopeStands : Bags → List (List ℕ × PortThing) → List (List ℕ × Thing) → Type 0
ScopeStands bags [] [] = Unit {0}
ScopeStands bags (x ∷ xs) (y ∷ ys) = ((x.0 ≡ y.0) × ThingStands bags x.1 y.1) × ScopeStands bags xs ys
ScopeStands bags [] (y ∷ ys) = ⊥
ScopeStands bags (x ∷ xs) [] = ⊥

-- ---- ports that read the first n nodes

abbrev pub OutputsBelow : ℕ → List PortOutput → Type 0
OutputsBelow n [] = Unit {0}
OutputsBelow n (o ∷ os) = (o.port.from < n) × OutputsBelow n os

abbrev pub ThingBelow : ℕ → PortThing → Type 0
ThingBelow n (known v) = Unit {0}
ThingBelow n (read port) = port.from < n
ThingBelow n (results os) = OutputsBelow n os

abbrev pub ScopeBelow : ℕ → List (List ℕ × PortThing) → Type 0
ScopeBelow n [] = Unit {0}
ScopeBelow n (x ∷ xs) = ThingBelow n x.1 × ScopeBelow n xs
