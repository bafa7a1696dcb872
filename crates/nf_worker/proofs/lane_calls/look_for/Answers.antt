use Rattle.nf_locked.proofs.Serving.{look_so}
use Rattle.nf_worker.proofs.lane_calls.look_for.Goals as goal

pub returns-in-Ok-clause-look : goal.returns-in-Ok-clause-look
returns-in-Ok-clause-look g c =
    look_so g.J.Fixed.facts g.L.Seen.Present.genuine g.L.Seen.Present.told c.args.report.now c.in-Ok.look (g.L.Lane.world c.args.lane.now) (g.L.Lane.store c.args.lane.now) c.requires
    c.in-Ok.ensures.genuine c.in-Ok.ensures.of_the_report c.in-Ok.ensures.looked
