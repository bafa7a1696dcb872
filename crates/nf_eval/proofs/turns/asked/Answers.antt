use Rattle.std.proofs.Common.{◌∙◌, sym, arith}
use Rattle.nf_value.specs.View.{plain_of}
use Rattle.nf_eval.proofs.Turning.{asked_true, asked_false}
use Rattle.nf_eval.proofs.turns.asked.Goals as goal

pub returns-then-truth-clause-reads : goal.returns-then-truth-clause-reads
returns-then-truth-clause-reads c env p fs e h = asked_true env c.args.outer _ (plain_of c.args.value) fs p e (omega arith) (sym c.truth.ensures ∙ c.if-truth.true) h

pub returns-clause-reads : goal.returns-clause-reads
returns-clause-reads c env p fs e h = asked_false env c.args.outer (plain_of c.args.value) fs p e (sym c.truth.ensures ∙ c.if-truth.false) h
