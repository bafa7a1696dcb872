use Rattle.nf_lowering.proofs.Outputs.{same_output}
use Rattle.nf_lowering.proofs.copies.copy_output.Goals as goal

pub returns : goal.returns
returns c = same_output c.args.output.now c.in_ok-label.label c.in_ok-label.ensures
