use Rattle.std.specs.Prelude.{Ok}
use Rattle.nf_value.specs.Plain.{text}
use Rattle.nf_placed.proofs.Placing.{evaluates}
use Rattle.nf_placed.proofs.parts.text_value.Goals as goal

pub returns : goal.returns
returns c = λ t w. evaluates c.args.place (Ok (text t)) c.end.result c.placed.result c.placed.ensures (c.end.ensures t w)
