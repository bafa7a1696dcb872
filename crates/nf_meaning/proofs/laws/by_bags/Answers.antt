use Rattle.nf_graph.specs.Meaning.{cost}
use Rattle.nf_meaning.proofs.Alike.{report_alike, costs_alike}
use Rattle.nf_meaning.proofs.laws.by_bags.Goals as goal

pub returns-clause-report : goal.returns-clause-report
returns-clause-report c m n s = report_alike m n c.sorting.ensures.by_bag c.distinct_values.ensures.by_bag s

pub returns-clause-charge : goal.returns-clause-charge
returns-clause-charge c m n s = costs_alike m.deliveries n.deliveries (λ a b h. c.sums.ensures.same cost a b h) s
