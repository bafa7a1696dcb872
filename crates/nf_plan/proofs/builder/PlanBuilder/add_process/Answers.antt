use Rattle.std.proofs.Common.{length}
use Rattle.nf_plan.specs.Plans.{Adds}
use Rattle.nf_plan.specs.Calls.{process_node, process_info}
use Rattle.nf_plan.proofs.Adding.{process_ports, process_stands}
use Rattle.nf_plan.proofs.Fitting.{fits_as, adds_as, process_fits, ports_few}
use Rattle.nf_plan.proofs.builder.PlanBuilder.add_process.Goals as goal

pub push-requires-clause-fits : goal.push-requires-clause-fits
push-requires-clause-fits c = fits_as c.args.self.now (process_node c.args.call) (process_info c.args.call) _ c.in_ok-node.ensures (process_fits c.args.self.now c.args.call c.requires.fits)

pub returns-clause-added : goal.returns-clause-added
returns-clause-added c = adds_as c.args.self.now c.push.new.self (process_node c.args.call) (process_info c.args.call) _ c.in_ok-node.ensures c.in_ok-from.ensures.added

pub returns-clause-reads : goal.returns-clause-reads
returns-clause-reads c =
    let adds : Adds c.args.self.now c.push.new.self (process_node c.args.call) (process_info c.args.call) = adds_as c.args.self.now c.push.new.self (process_node c.args.call) (process_info c.args.call) _ c.in_ok-node.ensures c.in_ok-from.ensures.added in
    process_ports c.args.self.now c.push.new.self c.args.call c.requires.plan c.requires.fits.queue adds

pub returns-clause-stands : goal.returns-clause-stands
returns-clause-stands c =
    let adds : Adds c.args.self.now c.push.new.self (process_node c.args.call) (process_info c.args.call) = adds_as c.args.self.now c.push.new.self (process_node c.args.call) (process_info c.args.call) _ c.in_ok-node.ensures c.in_ok-from.ensures.added in
    process_stands c.added_later.ensures c.well_made.ensures c.outputs_stand.ensures.tasks c.args.self.now c.push.new.self c.args.call (λ r call is. c.tasks.ensures r.program c.args.call.spec call.called is.process) c.requires.plan c.in_ok-from.ensures.plan c.requires.fits adds

pub into_node-requires-clause-ports : goal.into_node-requires-clause-ports
into_node-requires-clause-ports c = ports_few c.args.self.now (length c.args.call.ports) c.requires.plan c.requires.fits.room

pub into_node-requires-clause-outputs : goal.into_node-requires-clause-outputs
into_node-requires-clause-outputs c = c.requires.fits.outputs
