use Rattle.std.proofs.Common.{◌+◌, sym, subst, arith}
use Rattle.std.specs.Prelude.{Some, None}
use Rattle.nf_value.specs.View.{plain_of}
use Rattle.nf_ast.specs.declared.operators.BranchOperator.{BranchOperator}
use Rattle.nf_ast.specs.View.{framed}
use Rattle.nf_eval.specs.declared.turns.Turn.{Turn}
use Rattle.nf_eval.specs.Turns.{IsAt, IsNext, Shut, more_preferred}
use Rattle.nf_eval.proofs.Turning.{inner_asked}
use Rattle.nf_eval.proofs.turns.after.Goals as goal

pub returns-in-Then-clause-reads : goal.returns-in-Then-clause-reads
returns-in-Then-clause-reads c env p fs e h = subst (λ (k : BranchOperator). IsNext env (framed p k fs e) c.asked.result) (sym c.in-Then.is) (c.asked.ensures.reads env p fs e (subst (λ (t : Turn). IsAt env fs e t) c.in-Live.is h))

pub returns-in-Elvis-clause-reads : goal.returns-in-Elvis-clause-reads
returns-in-Elvis-clause-reads c env p fs e h = subst (λ (k : BranchOperator). IsNext env (framed p k fs e) c.preferred.result) (sym c.in-Elvis.is) (c.preferred.ensures.reads env p fs e (subst (λ (t : Turn). IsAt env fs e t) c.in-Live.is h))

pub returns-in-Else-clause-reads : goal.returns-in-Else-clause-reads
returns-in-Else-clause-reads c env p fs e h = subst (λ (k : BranchOperator). IsNext env (framed p k fs e) c.answered.result) (sym c.in-Else.is) (c.answered.ensures.reads env p fs e (subst (λ (t : Turn). IsAt env fs e t) c.in-Live.is h))

pub returns-in-Then-operator-clause-reads : goal.returns-in-Then-operator-clause-reads
returns-in-Then-operator-clause-reads c env p fs e h = subst (λ (k : BranchOperator). Shut env (c.in-Chosen.inner + 1) (Some (plain_of c.in-Chosen.value)) c.in-Chosen.outer (framed p k fs e)) (sym c.in-Then-operator.is) (inner_asked env c.in-Chosen.inner (c.in-Chosen.inner + 1) (Some (plain_of c.in-Chosen.value)) c.in-Chosen.outer fs p e (omega arith) (subst (λ (t : Turn). IsAt env fs e t) c.in-Chosen.is h))

pub returns-in-Elvis-operator-clause-reads : goal.returns-in-Elvis-operator-clause-reads
returns-in-Elvis-operator-clause-reads c env p fs e h = subst (λ (k : BranchOperator). Shut env c.in-Chosen.inner (Some (plain_of c.in-Chosen.value)) c.in-Chosen.outer (framed p k fs e)) (sym c.in-Elvis-operator.is) (more_preferred c.in-Chosen.inner (Some (plain_of c.in-Chosen.value)) c.in-Chosen.outer fs p e (subst (λ (t : Turn). IsAt env fs e t) c.in-Chosen.is h))

pub returns-in-Else-operator-clause-reads : goal.returns-in-Else-operator-clause-reads
returns-in-Else-operator-clause-reads c env p fs e h = subst (λ (k : BranchOperator). IsNext env (framed p k fs e) c.chosen.result) (sym c.in-Else-operator.is) (c.chosen.ensures.reads env p fs e (subst (λ (t : Turn). IsAt env fs e t) c.in-Chosen.is h))

pub returns-in-Then-operator-2-clause-reads : goal.returns-in-Then-operator-2-clause-reads
returns-in-Then-operator-2-clause-reads c env p fs e h = subst (λ (k : BranchOperator). Shut env (c.in-Skipped.inner + 1) None c.in-Skipped.outer (framed p k fs e)) (sym c.in-Then-operator-2.is) (inner_asked env c.in-Skipped.inner (c.in-Skipped.inner + 1) None c.in-Skipped.outer fs p e (omega arith) (subst (λ (t : Turn). IsAt env fs e t) c.in-Skipped.is h))

pub returns-in-Elvis-operator-2-clause-reads : goal.returns-in-Elvis-operator-2-clause-reads
returns-in-Elvis-operator-2-clause-reads c env p fs e h = subst (λ (k : BranchOperator). Shut env c.in-Skipped.inner None c.in-Skipped.outer (framed p k fs e)) (sym c.in-Elvis-operator-2.is) (more_preferred c.in-Skipped.inner None c.in-Skipped.outer fs p e (subst (λ (t : Turn). IsAt env fs e t) c.in-Skipped.is h))

pub returns-in-Else-operator-2-clause-reads : goal.returns-in-Else-operator-2-clause-reads
returns-in-Else-operator-2-clause-reads c env p fs e h = subst (λ (k : BranchOperator). IsNext env (framed p k fs e) c.skipped.result) (sym c.in-Else-operator-2.is) (c.skipped.ensures.reads env p fs e (subst (λ (t : Turn). IsAt env fs e t) c.in-Skipped.is h))
