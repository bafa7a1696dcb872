use Rattle.nf_graph.proofs.WellMade.{graph_of_nodes}
use Rattle.nf_graph.proofs.laws.well_made.Goals as goal

pub returns : goal.returns
returns c = graph_of_nodes c.operators.ensures c.kinds.ensures
