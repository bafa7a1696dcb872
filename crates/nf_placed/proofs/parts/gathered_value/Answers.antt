use Rattle.nf_infix.specs.Literal.{new_list}
use Rattle.nf_placed.proofs.Placing.{evaluates}
use Rattle.nf_placed.proofs.parts.gathered_value.Goals as goal

pub returns : goal.returns
returns c = λ vs w. evaluates c.args.place (new_list vs) c.end.result c.placed.result c.placed.ensures (c.end.ensures vs w)
