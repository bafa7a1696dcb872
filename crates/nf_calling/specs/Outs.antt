-- What the call of a process or a workflow gave.
use Rattle.std.specs.Prelude.{ℕ, List}
use Rattle.nf_value.specs.declared.place.Place.{Place}
use Rattle.nf_meaning.specs.Things.{Thing, thing_named}
use Rattle.nf_meaning.specs.Walk.{Walk}
use Rattle.nf_meaning.specs.Workflow.{out_of}

-- `P.out`, where the name P stands at q
abbrev pub out_at : Place → List ℕ → Walk Thing
out_at q m a s = out_of q (thing_named m s.scope.calls) a s
