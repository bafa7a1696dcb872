use Rattle.std.proofs.Common.{◌≡◌, drop, false, not, ◌&&◌, arith, rules, tests}
use Rattle.std.proofs.lemmas.Bool.Decides.{nat_tests}
use Rattle.nf_tasks.specs.Failure.{first_files, is_due, is_there}
use Rattle.nf_tasks.proofs.Missing.{passes_at, none_at}
use Rattle.nf_tasks.proofs.failure.missing.Goals as goal

pub loop-i-preserved : goal.loop-i-preserved
loop-i-preserved c =
    let no : (is_due (drop c.loop-i.i c.args.options.now) && not (is_there (first_files (drop c.loop-i.i c.args.found.now)))) ≡ false = grind (arith, nat_tests) in
    passes_at c.args.options.now c.args.texts.now c.args.found.now c.loop-i.i _ c.loop-i-test.true no c.loop-i.invariant

pub returns : goal.returns
returns c = none_at c.args.options.now c.args.texts.now c.args.found.now c.loop-i.i _ c.loop-i-test.false c.loop-i.invariant
