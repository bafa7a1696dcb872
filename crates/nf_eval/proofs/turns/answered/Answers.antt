use Rattle.std.proofs.Common.{◌≡◌, ◌∙◌, ◌-◌, suc, sym, arith}
use Rattle.nf_value.specs.View.{plain_of}
use Rattle.nf_eval.proofs.Turning.{answered_open, answered_true, answered_false}
use Rattle.nf_eval.proofs.turns.answered.Goals as goal

pub returns-then-outer-gt0-clause-reads : goal.returns-then-outer-gt0-clause-reads
returns-then-outer-gt0-clause-reads c env p fs e h =
    let is : c.args.outer ≡ suc (c.args.outer - 1) = omega (arith, c.if-outer-gt0.true) in
    answered_open env c.args.outer (c.args.outer - 1) (plain_of c.args.value) fs p e is h

pub returns-then-truth-clause-reads : goal.returns-then-truth-clause-reads
returns-then-truth-clause-reads c env p fs e h =
    let is : c.args.outer ≡ 0 = omega (arith, c.if-outer-gt0.false) in
    answered_true env c.args.outer (plain_of c.args.value) fs p e is (sym c.truth.ensures ∙ c.if-truth.true) h

pub returns-clause-reads : goal.returns-clause-reads
returns-clause-reads c env p fs e h =
    let is : c.args.outer ≡ 0 = omega (arith, c.if-outer-gt0.false) in
    answered_false env c.args.outer (plain_of c.args.value) fs p e is (sym c.truth.ensures ∙ c.if-truth.false) h
