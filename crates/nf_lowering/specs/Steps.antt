-- What the steps owe that go through no tree.
use Rattle.std.specs.Prelude.{ℕ, List, [], ◌∷◌, ◌++◌, Result, Ok, Err}
use Rattle.nf_value.specs.declared.place.Place.{Place}
use Rattle.nf_value.specs.declared.value.Value.{Value}
use Rattle.nf_value.specs.View.{plain_of}
use Rattle.nf_graph.specs.declared.port.Port.{Port}
use Rattle.nf_meaning.specs.declared.fault.LowerFault.{LowerFault}
use Rattle.nf_meaning.specs.declared.fault.LowerFault.TheVariants.{BadOption}
use Rattle.nf_meaning.specs.Expressions.{channel_wanted}
use Rattle.nf_meaning.specs.Sizes.{counted}
use Rattle.nf_meaning.specs.Stands.{PortOutput}
use Rattle.nf_meaning.specs.Things as meaning
use Rattle.nf_meaning.specs.Things.{Channel, a_value}
use Rattle.nf_meaning.specs.Walk.{◌>>=◌, assigning, begins_call, defining, the_scope, with_scope}
use Rattle.nf_scopes.specs.declared.things.Thing.{Thing}
use Rattle.nf_follows.specs.Lowers.{Owed}
use Rattle.nf_lowering.specs.State.{IsDone, IsPort, IsThing, Nothing}

-- a source or a call is counted
abbrev pub counting : Place → ℕ → Owed (Unit {0}) (Unit {0}) (Unit {0})
counting p ports = record { In = Nothing; walk = λ y. counted p ports; Out = IsDone }

-- a value becomes a value channel
abbrev pub as_value_channel : Place → Value → Owed (Unit {0}) Port Channel
as_value_channel p v = record { In = Nothing; walk = λ y. channel_wanted p (a_value (plain_of v)); Out = IsPort }

-- what a thing is as a channel
abbrev pub as_channel : Place → Thing → Owed meaning.Thing Port Channel
as_channel p t = record { In = IsThing t; walk = channel_wanted p; Out = IsPort }

-- the port of the only output of a call
abbrev pub only_port : Place → List PortOutput → Result Port LowerFault
only_port p (o ∷ []) = Ok o.port
only_port p [] = Err (BadOption p)
only_port p (o ∷ q ∷ more) = Err (BadOption p)

-- `def n = ..`
abbrev pub defines : List ℕ → Thing → Owed meaning.Thing (Unit {0}) (Unit {0})
defines n t = record { In = IsThing t; walk = λ y. with_scope (defining n y); Out = IsDone }

-- `n = ..`
abbrev pub assigns : List ℕ → Thing → Owed meaning.Thing (Unit {0}) (Unit {0})
assigns n t = record { In = IsThing t; walk = λ y. with_scope (assigning n y); Out = IsDone }

-- a call of a workflow of this name begins
abbrev pub begins : List ℕ → Owed (Unit {0}) (Unit {0}) (Unit {0})
begins n = record { In = Nothing; walk = λ y. begins_call n []; Out = IsDone }

-- a call of a process of this name begins: its path is kept
abbrev pub begins_process : List ℕ → Owed (Unit {0}) (Unit {0}) (Unit {0})
begins_process n = record {
  In = Nothing;
  walk = λ y. the_scope >>= λ x. begins_call n ((x.path ++ n) ∷ []);
  Out = IsDone;
}
