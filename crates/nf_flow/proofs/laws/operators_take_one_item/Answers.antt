use Rattle.nf_flow.proofs.Standing.{one_input}
use Rattle.nf_flow.proofs.laws.operators_take_one_item.Goals as goal

pub returns : goal.returns
returns c z x t k w m there kind = one_input z x t k (c.well_made.ensures z.graph w) m there kind
