use Rattle.std.proofs.Common.{ap, ◌∙◌}
use Rattle.nf_keeper.specs.Held.{put}
use Rattle.nf_keeper.specs.MemKeeper.{held_of}
use Rattle.nf_keeper.proofs.Images.{held_after}
use Rattle.nf_keeper.proofs.mem_keeper.MemKeeperKeeper.put.Goals as goal

pub returns-clause-ok : goal.returns-clause-ok
returns-clause-ok c = λ q.
    held_after c.args.self.now.held c.insert.new.self c.args.key.now.0 _ c.in_ok-insert.ensures.updates q ∙ ap (λ bs. put (held_of c.args.self.now) c.args.key.now.0 bs q) (c.of-copy.ensures ∙ c.in_ok-from_slice.ensures.items)
