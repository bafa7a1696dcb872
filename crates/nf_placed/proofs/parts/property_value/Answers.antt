use Rattle.nf_value.specs.View.{plain_of}
use Rattle.nf_infix.specs.Property.{property}
use Rattle.nf_placed.proofs.Placing.{evaluates}
use Rattle.nf_placed.proofs.parts.property_value.Goals as goal

pub returns : goal.returns
returns c = evaluates c.args.place (property (plain_of c.args.value.now) c.args.name.now) c.property.result c.placed.result c.placed.ensures c.property.ensures
