use Rattle.std.proofs.Common.{◌≡◌, ◌+◌, ◌-◌, ◌++◌, suc, ap, arith, rules}
use Rattle.nf_token.specs.declared.token.Mark.TheVariants as m
use Rattle.nf_writer.specs.Ink.{mark, spaced}
use Rattle.nf_printer.specs.Chains.{colons}
use Rattle.nf_printer.proofs.Puts.{moves}
use Rattle.nf_printer.proofs.branches.put_colons.Goals as goal

pub loop-colon-preserved : goal.loop-colon-preserved
loop-colon-preserved c =
    let n = c.args.asked in
    let i = c.loop-colon.colon in
    let one : n - i ≡ suc (n - (i + 1)) = omega arith in
    let due : colons (n - i) ≡ spaced (mark m.Colon) ++ colons (n - (i + 1)) = ap colons one in
    moves _ _ _ (spaced (mark m.Colon)) (colons (n - (i + 1))) (colons (n - i)) (search rules) c.loop-colon.invariant due
