use Rattle.fmt_laws.proofs.Reading.{fixed, once}
use Rattle.fmt_laws.proofs.laws.formatted_once.Goals as goal

pub returns : goal.returns
returns c = record { fixed = fixed; same = once c.one_list.ensures c.one_tree.ensures }
