use Rattle.std.proofs.Common.{sym, arith}
use Rattle.std.specs.Option.{option_copied}
use Rattle.nf_around.proofs.OnlyNames.{sole, not_sole}
use Rattle.nf_around.proofs.words.sole_word.Goals as goal

pub returns-in-len1 : goal.returns-in-len1
returns-in-len1 c =
    sole c.args.stmts.now c.only-item.result (option_copied c.stmt_word.result) (omega (arith, c.in-len1.len_at_least, c.in-len1.len_below)) c.only-item.is c.stmt_word.ensures

pub returns-in-empty : goal.returns-in-empty
returns-in-empty c = sym (not_sole c.args.stmts.now (λ h. omega (arith, h, c.in-empty.len_below)))

pub returns-in-len2-up : goal.returns-in-len2-up
returns-in-len2-up c = sym (not_sole c.args.stmts.now (λ h. omega (arith, h, c.in-len2-up.len_at_least)))
