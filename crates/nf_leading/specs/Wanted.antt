-- What is wanted of a thing in memory.
use Rattle.std.specs.Prelude.{◌≡◌, ℕ, ℤ, pos, negsuc, List, [], ◌∷◌, Option, Some, None, map, option_map, slice_get, if◌then◌else◌, ◌⊎◌, Result, Ok, Err}
use Rattle.nf_value.specs.Plain.{Plain}
use Rattle.nf_value.specs.View.{plain_of}
use Rattle.nf_value.specs.declared.place.Place.{Place}
use Rattle.nf_value.specs.declared.value.Value.{Value}
use Rattle.nf_graph.specs.declared.port.Port.{Port}
use Rattle.nf_graph.specs.Meaning.{Bags}
use Rattle.nf_meaning.specs.declared.fault.LowerFault.{LowerFault}
use Rattle.nf_meaning.specs.Expressions as expressions
use Rattle.nf_meaning.specs.Stands.{OutputsStand, PortOutput, PortThing, ThingStands, known, read, results}
use Rattle.nf_meaning.specs.Things.{Output, Thing, channels_of, has_label}
use Rattle.nf_meaning.specs.Walk.{Walk}
use Rattle.nf_meaning.specs.Workflow as workflow
use Rattle.nf_scopes.specs.declared.things.CallOutput.{CallOutput}
use Rattle.nf_scopes.specs.declared.things.Thing as memory
use Rattle.nf_scopes.specs.Things.{output_of, thing_of}
use Rattle.nf_leading.specs.Stays.{Stays}

-- of what the thing in memory stands for, in any bags, the answer is what the walk comes to
abbrev pub AnswersFor : {A B : Type 0} → memory.Thing → (Bags → A → B → Type 0) → (Thing → Walk B) → Result A LowerFault → Type 0
AnswersFor t stands w r = (bags : Bags) (y : Thing) → ThingStands bags (thing_of t) y → Stays (stands bags) (w y) r

abbrev pub IsValue : Bags → Value → Plain → Type 0
IsValue bags v w = plain_of v ≡ w

abbrev pub IsUnit : Bags → Unit {0} → Unit {0} → Type 0
IsUnit bags u v = Unit {0}

abbrev pub IsThing : Bags → memory.Thing → Thing → Type 0
IsThing bags t y = ThingStands bags (thing_of t) y

-- ---- a value; no file

-- nothing, or this fault
abbrev pub fault_or_none : Option LowerFault → Result (Unit {0}) LowerFault
fault_or_none None = Ok tt
fault_or_none (Some e) = Err e

abbrev pub WantsValue : Place → memory.Thing → Result Value LowerFault → Type 0
WantsValue p t r = AnswersFor t IsValue (expressions.value_wanted p) r

abbrev pub HasNoFile : Place → memory.Thing → Result (Unit {0}) LowerFault → Type 0
HasNoFile p t r = AnswersFor t IsUnit (expressions.not_tied_to_file p) r

-- ---- an output of a call

-- the port of the output of a name
abbrev pub port_named : List ℕ → List PortOutput → Option Port
port_named n [] = None
port_named n (o ∷ os) = if has_label n o.label then Some o.port else port_named n os

-- the port of the output at a place among all
abbrev pub port_at : ℤ → List PortOutput → Option Port
port_at (pos k) os = option_map (λ o. o.port) (slice_get os k)
port_at (negsuc k) os = None

-- one of these outputs has the port
abbrev pub HasPort : List PortOutput → Port → Type 0
HasPort [] p = ⊥
HasPort (o ∷ os) p = (o.port ≡ p) ⊎ HasPort os p

-- a channel, by the port of one of these outputs
abbrev pub IsPortOf : List PortOutput → PortThing → Type 0
IsPortOf os (read p) = HasPort os p
IsPortOf os (known v) = ⊥
IsPortOf os (results qs) = ⊥

-- the outputs that a thing is
abbrev pub outputs_in : PortThing → List PortOutput
outputs_in (results os) = os
outputs_in (known v) = []
outputs_in (read p) = []

abbrev pub IsMember : Place → Place → List ℕ → memory.Thing → Result memory.Thing LowerFault → Type 0
IsMember q p n t r = AnswersFor t IsThing (workflow.member_of q p n) r

abbrev pub IsOutputAt : Place → Place → Plain → List CallOutput → Result memory.Thing LowerFault → Type 0
IsOutputAt p q v os r =
    (bags : Bags) (qs : List Output) → OutputsStand bags (map output_of os) qs
    → Stays (IsThing bags) (workflow.output_at p q v (channels_of qs)) r
