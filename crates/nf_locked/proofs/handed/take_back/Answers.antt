use Rattle.std.proofs.Common.{rules}
use Rattle.nf_locked.proofs.Changes.{without_from}
use Rattle.nf_locked.proofs.handed.take_back.Goals as goal

pub returns-clause-left : goal.returns-clause-left
returns-clause-left c = without_from c.args.tickets.now.items c.remove.new.self.items c.in_ok-place.place c.remove.result (search rules) c.remove.ensures.value c.remove.ensures.items
