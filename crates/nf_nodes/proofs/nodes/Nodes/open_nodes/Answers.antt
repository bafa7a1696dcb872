use Rattle.std.proofs.Common.{rules, ◌≡◌, ◌∙◌}
use Rattle.std.specs.Prelude.{not, count_by}
use Rattle.nf_nodes.proofs.Counting.{open_there}
use Rattle.nf_nodes.proofs.nodes.Nodes.open_nodes.Goals as goal

pub returns : goal.returns
returns c nodes s h = (let n : c.count_false.result ≡ count_by not c.args.self.now.closed.items = search rules in n) ∙ open_there nodes s c.args.self.now h.shows
