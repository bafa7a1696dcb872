use Rattle.std.proofs.Common.{subst, sym, ◌-◌, refl}
use Rattle.std.specs.Prelude.{Some}
use Rattle.nf_graph.specs.WellMade.{plain_graph}
use Rattle.nf_machine.specs.declared.stop.Stop.TheVariants as st
use Rattle.nf_machine.specs.Event.{close, halt}
use Rattle.nf_machine.specs.Step.{step}
use Rattle.nf_flow.specs.Parts.{Leads}
use Rattle.nf_flow.proofs.Calling.{can_close}
use Rattle.nf_flow.proofs.Moving.{closed_ill, closed_well, flying, halted, happens_err, one_open}
use Rattle.nf_flow.proofs.parts.Parts.close.Goals as goal

pub close-requires-clause-close : goal.close-requires-clause-close
close-requires-clause-close c = can_close c.args.nodes.now c.args.self.now c.args.node c.requires

pub close-requires-clause-flights : goal.close-requires-clause-flights
close-requires-clause-flights c = c.requires.parts.count

pub overflow_sub-self : goal.overflow_sub-self
overflow_sub-self c = let r = c.requires in one_open c.args.nodes.now r.state c.args.self.now r.parts c.args.node r.legal

pub overflow_sub-self-2 : goal.overflow_sub-self-2
overflow_sub-self-2 c = let r = c.requires in one_open c.args.nodes.now r.state c.args.self.now r.parts c.args.node r.legal

pub returns-in_default : goal.returns-in_default
returns-in_default c s h legal =
    let told = c.in_default.ensures s (h.nodes_are legal.running) (flying c.args.nodes.now s c.args.self.now h legal.running) in
    closed_well c.args.nodes.now s c.args.self.now h c.args.node legal c.close.new.self told.emits told.ends told.nodes_are

pub returns-in_err-fault : goal.returns-in_err-fault
returns-in_err-fault c s h legal = happens_err c.args.nodes.now s (close c.args.node) halt _ (record c.args.self.now { nodes = c.close.new.self }) c.from_residual.ensures.0
    (halted c.args.nodes.now s c.args.self.now h (record c.args.self.now { nodes = c.close.new.self }) refl refl)

pub returns : goal.returns
returns c s h legal =
    let ns = c.args.nodes.now in let p = c.args.self.now in let i = c.args.node in
    let told = c.in-Err.ensures s (h.nodes_are legal.running) (flying ns s p h legal.running) in
    let d = closed_ill ns s p h i legal c.close.new.self c.in-Err.fault told c.in_ok-fault.ensures.1 in
    subst (λ x. Leads ns s (step (plain_graph ns) s (close i)) (Some (st.Op i x)) (record p { nodes = c.close.new.self; open_nodes = p.open_nodes - 1 })) (sym c.in_ok-fault.ensures.0) d
