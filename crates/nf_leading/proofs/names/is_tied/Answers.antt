use Rattle.std.proofs.Common.{refl}
use Rattle.nf_scopes.specs.declared.things.Thing.TheVariants as thing
use Rattle.nf_leading.proofs.Naming.{tied_as}
use Rattle.nf_leading.proofs.names.is_tied.Goals as goal

pub returns-in-Known : goal.returns-in-Known
returns-in-Known c bags t h = tied_as c.args.thing.now (thing.Known c.in-Known.value) c.holds_file.result bags t c.in-Known.is c.holds_file.ensures h

pub returns-in-Channel : goal.returns-in-Channel
returns-in-Channel c bags t h = tied_as c.args.thing.now (thing.Channel c.in-Channel.field-0) _ bags t c.in-Channel.is refl h

pub returns-in-Outputs : goal.returns-in-Outputs
returns-in-Outputs c bags t h = tied_as c.args.thing.now (thing.Outputs c.in-Outputs.field-0) _ bags t c.in-Outputs.is refl h
