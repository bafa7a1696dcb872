use Rattle.std.proofs.Common.{ap, ◌∙◌, arith}
use Rattle.nf_value.specs.View.{plain_of}
use Rattle.nf_opjoin.specs.Grouped.{group_of}
use Rattle.nf_opjoin.proofs.Gathering.{group_listed}
use Rattle.nf_opjoin.proofs.gathered.one_group.Goals as goal

pub returns : goal.returns
returns c =
    group_listed c.args.place c.min.result c.args.sort c.args.entry.0 c.in_ok-rests.rests c.in_ok-columns_of.field-0.items c.in_ok-items.items.items c.insert.new.self.items c.of.result c.in_ok-columns_of.ensures c.in_ok-items.ensures (omega arith)
    c.in_ok-insert.ensures.items c.of.ensures
    ∙ ap (group_of c.args.place c.args.sort (plain_of c.args.entry.0)) c.in_ok-rests.ensures
