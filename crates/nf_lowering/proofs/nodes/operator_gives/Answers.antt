use Rattle.nf_lowering.proofs.Outputs.{gives_one}
use Rattle.nf_lowering.proofs.nodes.operator_gives.Goals as goal

pub returns-in_default : goal.returns-in_default
returns-in_default c = gives_one c.args.row c.args.first c.args.labels.now c.in_default.not-Branch c.in_default.not-MultiMap
