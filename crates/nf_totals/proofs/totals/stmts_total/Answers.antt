use Rattle.std.proofs.Common.{sym, arith}
use Rattle.nf_totals.proofs.Bodies.{sole, not_sole}
use Rattle.nf_totals.proofs.totals.stmts_total.Goals as goal

pub returns-in-len1 : goal.returns-in-len1
returns-in-len1 c =
    sole c.args.first.now c.args.second.now c.args.stmts.now c.only-item.result c.stmt_total.result (omega (arith, c.in-len1.len_at_least, c.in-len1.len_below)) c.only-item.is c.stmt_total.ensures

pub returns-in_default : goal.returns-in_default
returns-in_default c = sym (not_sole c.args.first.now c.args.second.now c.args.stmts.now (λ h. omega arith))

pub returns-in_default-2 : goal.returns-in_default-2
returns-in_default-2 c = sym (not_sole c.args.first.now c.args.second.now c.args.stmts.now (λ h. omega arith))
