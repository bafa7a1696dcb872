use Rattle.nf_wiring.specs.Places.{plain_place}
use Rattle.nf_nodes.proofs.Noting.{noted_port, kept_rest}
use Rattle.nf_nodes.proofs.nodes.Nodes.note_port.Goals as goal

pub returns-clause-marks : goal.returns-clause-marks
returns-clause-marks c s p q h =
    noted_port c.args.nodes.now s p q c.args.self.now c.set_port.new.self c.args.number (plain_place c.place-place.result) c.passed-passed.result c.fed-emitted.result
    c.is_producer_closed-is_closed.result c.is_live-stays_live.result h (c.place-place.ensures c.args.nodes.now h.shows.wiring) (c.passed-passed.ensures s h.shows) (c.fed-emitted.ensures s h.shows)
    (c.is_producer_closed-is_closed.ensures s h.shows) c.is_live-stays_live.ensures c.set_port.ensures.passes (λ r d. c.set_port.ensures.lives r.node r.port d) c.set_port.ensures.nodes.0
    c.set_port.ensures.nodes.1 (c.set_port.ensures.sized c.args.nodes.now h.shows.sized)

pub returns-clause-rest : goal.returns-clause-rest
returns-clause-rest c = kept_rest c.args.nodes.now c.args.self.now c.set_port.new.self c.set_port.ensures.sized
