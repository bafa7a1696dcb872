use Rattle.std.proofs.Common.{rules, ◌≡◌}
use Rattle.std.specs.Prelude.{Some, None}
use Rattle.std.specs.List.{position}
use Rattle.nf_order.specs.Standing.{is_unnamed}
use Rattle.nf_order.proofs.Receivers.{unnamed_taken, unnamed_none}
use Rattle.nf_order.proofs.receiver.take_receiver.Goals as goal

pub returns-in-Some : goal.returns-in-Some
returns-in-Some c =
    let at : position is_unnamed c.args.args.now.items ≡ Some c.in-Some.place = search rules in
    unnamed_taken c.args.args.now.items c.in-Some.place c.remove.result c.remove.new.self.items at c.remove.ensures.value c.remove.ensures.items

pub returns-in-None : goal.returns-in-None
returns-in-None c =
    let none : position is_unnamed c.args.args.now.items ≡ None = search rules in
    unnamed_none c.args.args.now.items none
