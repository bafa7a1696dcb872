-- What a name in memory stands for.
use Rattle.std.specs.Prelude.{map}
use Rattle.nf_value.specs.View.{plain_of}
use Rattle.nf_meaning.specs.Stands.{PortOutput, PortThing, known, read, results}
use Rattle.nf_scopes.specs.declared.things.CallOutput.{CallOutput}
use Rattle.nf_scopes.specs.declared.things.Thing.{Thing}
use Rattle.nf_scopes.specs.declared.things.Thing.TheVariants as thing

abbrev pub output_of : CallOutput → PortOutput
output_of o = record { label = o.label; port = o.port }

abbrev pub thing_of : Thing → PortThing
thing_of (thing.Known v) = known (plain_of v)
thing_of (thing.Channel p) = read p
thing_of (thing.Outputs os) = results (map output_of os.items)
