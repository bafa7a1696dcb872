use Rattle.std.proofs.Common.{◌∙◌, refl}
use Rattle.nf_nodes.proofs.index.Index.set_node.Goals as goal

pub returns-clause-takes : goal.returns-clause-takes
returns-clause-takes c = c.set.ensures.set

pub returns-clause-closes : goal.returns-clause-closes
returns-clause-closes c = c.set-2.ensures.set

pub returns-clause-ports : goal.returns-clause-ports
returns-clause-ports c = (refl, refl)

pub returns-clause-sized : goal.returns-clause-sized
returns-clause-sized c nodes h = record {
  passable = h.passable;
  takeable = c.set.ensures.limit ∙ h.takeable;
  closable = c.set-2.ensures.limit ∙ h.closable;
  live = h.live;
  ports = h.ports;
}
