-- What is due of the calls of operators that took their arguments.
use Rattle.std.specs.Prelude.{◌≡◌, ◌∷◌, ℕ, List, length, map}
use Rattle.std.specs.Global.{Vec}
use Rattle.nf_value.specs.declared.place.Place.{Place}
use Rattle.nf_bag.specs.declared.rows.Row.{Row}
use Rattle.nf_graph.specs.Meaning.{Bags}
use Rattle.nf_graph.specs.declared.port.Port.{Port}
use Rattle.nf_tasks.specs.Memory.{Program}
use Rattle.nf_meaning.specs.Expressions.{channel_wanted}
use Rattle.nf_meaning.specs.Operators.{applied, named_so, set_channel, set_outputs}
use Rattle.nf_meaning.specs.Sizes.{counted}
use Rattle.nf_meaning.specs.Stands.{OutputsStand, PortOutput, StandsFor}
use Rattle.nf_meaning.specs.Taken as meaning
use Rattle.nf_meaning.specs.Things as things
use Rattle.nf_meaning.specs.Things.{Channel, Output, Thing, a_channel}
use Rattle.nf_meaning.specs.Walk.{Walk, ◌>>=◌, gives}
use Rattle.nf_scopes.specs.declared.things.CallOutput.{CallOutput}
use Rattle.nf_scopes.specs.declared.things.Thing as memory
use Rattle.nf_scopes.specs.Things.{output_of}
use Rattle.nf_plan.specs.Runs.{bags_of}
use Rattle.nf_taken.specs.Calls.{TookName}
use Rattle.nf_taken.specs.Taken.{IsTaken}
use Rattle.nf_taken.specs.declared.taken.Taken.{Taken}
use Rattle.nf_walked.specs.Forms.{a_port, a_thing, nothing, outputs}
use Rattle.nf_walked.specs.Steps.{Due}

-- ---- the beginning of a call

-- the thing as a channel, and then the call is counted, which reads so many
abbrev pub opened : Place → ℕ → Thing → Walk Channel
opened p n t = channel_wanted p t >>= λ c. counted p n >>= λ _. gives c

-- a `set` is counted, and then its thing is a channel, whose expression begins at q
abbrev pub set_opened : Place → Place → Thing → Walk Channel
set_opened p q t = counted p 1 >>= λ _. channel_wanted q t

-- ---- the call

-- the channel that the port reads, with what the operator took
abbrev pub of_applied : Place → Row → Port → Taken → Due (meaning.Taken × Channel) memory.Thing Thing
of_applied p r q v = record {
  In = λ pt z y. IsTaken pt.run.program (bags_of pt.run z.plan) v y.0 × StandsFor (bags_of pt.run z.plan) q y.1;
  walk = λ y. applied (record { place = p; row = r; taken = y.0; channels = y.1 ∷ y.0.channels });
  form = a_thing;
}

-- ---- `set`

-- what was taken is a name, and nothing else
pub record IsNamed (n : Program) (bags : Bags) (v : Taken) (t : meaning.Taken) : Type 0 where
  pub taken : IsTaken n bags v t
  pub name : TookName t

-- so many outputs
abbrev pub of_count : ℕ → (List Output → Walk (Unit {0})) → Due (List Output) (Unit {0}) (Unit {0})
of_count n w = record { In = λ pt z qs. length qs ≡ n; walk = w; form = nothing }

-- the channel that a port reads, where a name was taken
abbrev pub of_set : Place → Port → Due (meaning.Taken × Channel) Port Channel
of_set p q = record {
  In = λ pt z y. TookName y.0 × StandsFor (bags_of pt.run z.plan) q y.1;
  walk = λ y. set_channel p y.0 y.1;
  form = a_port;
}

-- the same of each output
abbrev pub of_sets : Place → List CallOutput → Due (meaning.Taken × List Output) (Vec CallOutput) (List Output)
of_sets p os = record {
  In = λ pt z y. TookName y.0 × OutputsStand (bags_of pt.run z.plan) (map output_of os) y.1;
  walk = λ y. set_outputs p y.0 y.1;
  form = outputs;
}

-- another port of the same name
abbrev pub with_port : Port → PortOutput → PortOutput
with_port q o = record o { port = q }

-- a channel that gets the name that was taken
abbrev pub of_named : Place → Port → Taken → Due (meaning.Taken × Channel) memory.Thing Thing
of_named p q v = record {
  In = λ pt z y. IsNamed pt.run.program (bags_of pt.run z.plan) v y.0 × StandsFor (bags_of pt.run z.plan) q y.1;
  walk = λ y. set_channel p y.0 y.1 >>= λ d. named_so y.0.word (a_channel d);
  form = a_thing;
}

-- all that a call gives
abbrev pub of_named_outputs : Place → List CallOutput → Taken → Due (meaning.Taken × List Output) memory.Thing Thing
of_named_outputs p os v = record {
  In = λ pt z y.
      (let bags = bags_of pt.run z.plan in IsNamed pt.run.program bags v y.0 × OutputsStand bags (map output_of os) y.1);
  walk = λ y. set_outputs p y.0 y.1 >>= λ more. named_so y.0.word (things.outputs more);
  form = a_thing;
}
