use Rattle.nf_value.specs.Plain.{list, plains_of}
use Rattle.nf_opjoin.proofs.Gathering.{held_more, rest_put}
use Rattle.nf_opjoin.proofs.gathered.gather.Goals as goal

pub returns-clause-held : goal.returns-clause-held
returns-clause-held c = λ k. held_more k c.args.keyed.key c.args.groups.now.entries c.remove.new.self.entries c.insert.new.self.entries c.remove.result c.of-2.result (list (plains_of c.args.keyed.rest)) c.remove.ensures.value c.remove.ensures.entries
    (rest_put c.remove.result c.of.result c.unwrap_or-rests.result c.of-2.result c.new.result.items c.into_items-items.result.items c.push.new.self.items c.args.keyed.rest c.new.ensures.items c.of.ensures c.unwrap_or-rests.ensures c.into_items-items.ensures
    c.in_ok-push.ensures.items c.of-2.ensures)
    c.in_ok-insert.ensures.entries
