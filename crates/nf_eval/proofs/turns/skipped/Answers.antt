use Rattle.std.proofs.Common.{◌≡◌, ◌-◌, suc, arith}
use Rattle.std.specs.Prelude.{None}
use Rattle.nf_eval.proofs.Turning.{inner_turned, skipped_turned}
use Rattle.nf_eval.proofs.turns.skipped.Goals as goal

pub returns-then-inner-gt0-clause-reads : goal.returns-then-inner-gt0-clause-reads
returns-then-inner-gt0-clause-reads c env p fs e h =
    let is : c.args.inner ≡ suc (c.args.inner - 1) = omega (arith, c.if-inner-gt0.true) in
    inner_turned env c.args.inner (c.args.inner - 1) None c.args.outer fs p e is h

pub returns-clause-reads : goal.returns-clause-reads
returns-clause-reads c env p fs e h =
    let is : c.args.inner ≡ 0 = omega (arith, c.if-inner-gt0.false) in
    skipped_turned env c.args.inner c.args.outer fs p e is h
