use Rattle.std.proofs.Common.{ap, ◌+◌}
use Rattle.nf_graph.specs.Meaning.{weight_of}
use Rattle.nf_flow.proofs.parts.delivery_cost.Goals as goal

pub returns-clause-value : goal.returns-clause-value
unfolding weight_of
returns-clause-value c = ap (λ n. 64 + n) c.weight.ensures
