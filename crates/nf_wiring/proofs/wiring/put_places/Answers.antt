use Rattle.std.proofs.Common.{◌∙◌}
use Rattle.nf_wiring.proofs.Numbers.{row_grows}
use Rattle.nf_wiring.proofs.wiring.put_places.Goals as goal

pub loop-port-preserved : goal.loop-port-preserved
loop-port-preserved c = let e = row_grows c.args.places.now.items c.loop-port.places.items c.args.node c.loop-port.port c.loop-port.invariant in c.in_ok-push.ensures.items ∙ e
