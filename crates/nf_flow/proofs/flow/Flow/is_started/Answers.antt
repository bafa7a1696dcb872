use Rattle.nf_flow.specs.Flow.{state_in}
use Rattle.nf_flow.proofs.Running.{flying_in, there_in}
use Rattle.nf_flow.proofs.flow.Flow.is_started.Goals as goal

pub is_started-requires : goal.is_started-requires
is_started-requires c = let f = c.self.inside in flying_in f.graph f.parts f.log c.args.self.now c.self.view_is c.self.invariant c.number.result c.args.ticket.now c.number.ensures c.requires

pub returns : goal.returns
returns c k e =
    let f = c.self.inside in let p = c.self.invariant.parts in
    c.is_started.ensures p.next (state_in f.graph f.log).tickets k p.flights (there_in f.graph f.parts f.log c.args.self.now c.self.view_is c.self.invariant c.number.result _ k c.number.ensures e)
