use Rattle.std.proofs.Common.{refl}
use Rattle.nf_flow.specs.declared.stopped.Stopped.TheVariants as st
use Rattle.nf_flow.proofs.Running.{begun_flow}
use Rattle.nf_flow.proofs.flow.Flow.begin.Goals as goal

pub invariant_of-result : goal.invariant_of-result
invariant_of-result c =
    begun_flow c.args.graph c.in_ok-parts.parts (record { history = c.in_ok-history.history; inputs = c.new.result; stop = st.No; room = 0 }) c.in_ok-history.ensures.items c.new.ensures refl refl c.in_ok-history.ensures.capacity c.in_ok-parts.ensures

pub returns : goal.returns
returns c = λ j. record { graph = c.args.graph; history = c.in_ok-history.ensures.items j; room = 0 }
