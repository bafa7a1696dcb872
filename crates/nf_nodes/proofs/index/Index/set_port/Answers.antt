use Rattle.std.proofs.Common.{◌<◌, ◌∙◌, refl, subst, sym, ap}
use Rattle.std.proofs.lemmas.List.{length-set}
use Rattle.nf_spot.specs.Numbers.{limit_of}
use Rattle.nf_nodes.proofs.Sets.{lives_set, limits_set}
use Rattle.nf_nodes.proofs.index.Index.set_port.Goals as goal

pub set-requires-2 : goal.set-requires-2
set-requires-2 c = subst (λ z. c.args.place.port < limit_of z) (sym c.index_mut.ensures.value) (c.requires.port c.index_mut.result.now)

pub returns-clause-passes : goal.returns-clause-passes
returns-clause-passes c = c.set.ensures.set

pub returns-clause-lives : goal.returns-clause-lives
returns-clause-lives c = lives_set c.args.self.now.live.items c.args.place.node c.args.place.port c.args.stays_live c.index_mut.result.now c.set-2.new.self c.requires.node c.index_mut.ensures.value c.set-2.ensures.set

pub returns-clause-nodes : goal.returns-clause-nodes
returns-clause-nodes c = (refl, refl)

pub returns-clause-sized : goal.returns-clause-sized
returns-clause-sized c nodes h = record {
  passable = c.set.ensures.limit ∙ h.passable;
  takeable = h.takeable;
  closable = h.closable;
  live = length-set c.args.self.now.live.items c.args.place.node c.set-2.new.self ∙ h.live;
  ports = λ i d l. limits_set c.args.self.now.live.items c.args.place.node c.index_mut.result.now c.set-2.new.self c.requires.node c.index_mut.ensures.value c.set-2.ensures.limit i d ∙ h.ports i d l;
}
