use Rattle.std.proofs.Common.{rules, ◌≡◌, subst, sym, true}
use Rattle.std.specs.Prelude.{◌↔◌}
use Rattle.nf_graph.specs.WellMade.{plain_graph}
use Rattle.nf_nodes.specs.Marks.{CanTake}
use Rattle.nf_nodes.proofs.Showing.{fits_there, take_told}
use Rattle.nf_nodes.proofs.nodes.Nodes.can_take.Goals as goal

pub can_take-requires : goal.can_take-requires
can_take-requires c = fits_there c.args.nodes.now c.requires.state c.args.self.now c.requires.shows c.args.node c.index-nodes-at.result c.requires.below c.index-nodes-at.is

pub returns : goal.returns
returns c s h =
    subst (λ b. (b ≡ true) ↔ CanTake (plain_graph c.args.nodes.now) s c.args.node) (sym c.is_some.ensures)
    (take_told c.args.nodes.now s c.args.self.now h c.args.node c.index-nodes-at.result c.index.result.now c.can_take.result c.requires.below c.index-nodes-at.is (search rules) c.can_take.ensures)
