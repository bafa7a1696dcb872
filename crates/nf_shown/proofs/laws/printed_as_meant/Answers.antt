use Rattle.nf_shown.proofs.Printed.{printed_well}
use Rattle.nf_shown.proofs.laws.printed_as_meant.Goals as goal

pub returns : goal.returns
returns c = printed_well
