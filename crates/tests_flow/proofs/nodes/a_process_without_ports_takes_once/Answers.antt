use Rattle.std.proofs.Common.{refl}
use Rattle.tests_flow.proofs.Outs.{has_output}
use Rattle.tests_flow.proofs.nodes.a_process_without_ports_takes_once.Goals as goal

pub emitted-requires : goal.emitted-requires
emitted-requires g c = has_output _ _ _ (c.in_ok-emit_all.ensures _ _ (c.in_ok-emit_outputs.ensures _ _ (c.in_ok-taken.ensures.after _ c.in_ok-state.ensures))) refl
