use Rattle.std.proofs.Common.{sym, subst}
use Rattle.nf_ast.specs.Tops.{view_script}
use Rattle.nf_request.specs.Steps.{IsRefused}
use Rattle.nf_request.proofs.Refused.{disordered}
use Rattle.nf_request.proofs.order.accepted.Goals as goal

pub returns-in-Ok-clause-ordered : goal.returns-in-Ok-clause-ordered
returns-in-Ok-clause-ordered c = record { accepted = c.in-Ok.ensures.accepted; none = c.in-Ok.ensures.none }

pub returns-in-Err-clause-refused : goal.returns-in-Err-clause-refused
returns-in-Err-clause-refused c =
    subst (IsRefused (view_script c.args.script)) (sym c.order_end.ensures) (disordered (view_script c.args.script) c.in-Err.fault c.in-Err.ensures.refused c.in-Err.ensures.first)
