use Rattle.nf_nodes.proofs.Stepping.{tickets_alone}
use Rattle.nf_nodes.proofs.laws.tickets_change.Goals as goal

pub returns : goal.returns
returns c nodes s u d h es et counts = tickets_alone nodes s u d h es et counts
