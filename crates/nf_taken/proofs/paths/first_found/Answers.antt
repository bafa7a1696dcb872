use Rattle.std.proofs.Common.{arith}
use Rattle.nf_taken.proofs.Files.{a_first, no_first}
use Rattle.nf_taken.proofs.paths.first_found.Goals as goal

pub returns-in-empty : goal.returns-in-empty
returns-in-empty c = no_first c.args.path.now c.in_ok-name.name c.in_ok-name.ensures c.args.files.now (omega (arith, c.in-empty.len_below))

pub returns-in-len1-up : goal.returns-in-len1-up
returns-in-len1-up c = a_first c.args.path.now c.in_ok-name.name c.in_ok-name.ensures c.args.files.now c.first-item.result (omega (arith, c.in-len1-up.len_at_least)) c.first-item.is
