use Rattle.std.proofs.Common.{◌++◌, string_bytes, sym, ◌∙◌, ap, arith}
use Rattle.nf_params.proofs.Escapes.{escaped_other}
use Rattle.nf_params.proofs.pointer.push_mark.Goals as goal

pub returns-in_ok-push : goal.returns-in_ok-push
returns-in_ok-push c = c.in_ok-push.ensures.bytes ∙ ap (λ x. string_bytes c.args.out.now ++ x) (sym (escaped_other c.args.mark (omega arith) (omega arith)))
