use Rattle.nf_locked.specs.Locked.{IsItemOf}
use Rattle.nf_worker.proofs.Answering.{all_more}
use Rattle.nf_pool.proofs.items.more_items.Goals as goal

pub loop-init : goal.loop-init
loop-init g c = all_more (IsItemOf g.J.Fixed.facts) c.new-items.result.items c.push.new.self.items c.args.first c.in_ok-push.ensures.items (rw c.new-items.ensures.items tt) c.requires.first
