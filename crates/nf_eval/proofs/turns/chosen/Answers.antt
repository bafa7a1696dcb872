use Rattle.std.proofs.Common.{◌≡◌, ◌-◌, suc, sym, subst, arith, List}
use Rattle.std.specs.Prelude.{Some}
use Rattle.nf_value.specs.View.{plain_of}
use Rattle.nf_ast.specs.View.{Frame}
use Rattle.nf_eval.specs.Turns.{IsNext}
use Rattle.nf_eval.proofs.Turning.{inner_turned, chosen_back}
use Rattle.nf_eval.proofs.turns.chosen.Goals as goal

pub returns-then-inner-gt0-clause-reads : goal.returns-then-inner-gt0-clause-reads
returns-then-inner-gt0-clause-reads c env p fs e h =
    let is : c.args.inner ≡ suc (c.args.inner - 1) = omega (arith, c.if-inner-gt0.true) in
    inner_turned env c.args.inner (c.args.inner - 1) (Some (plain_of c.args.value)) c.args.outer fs p e is h

pub returns-clause-reads : goal.returns-clause-reads
returns-clause-reads c env p fs e h =
    let is : c.args.inner ≡ 0 = omega (arith, c.if-inner-gt0.false) in
    let back = chosen_back env c.args.inner (plain_of c.args.value) c.args.outer fs p e is h in
    subst (λ (gs : List Frame). IsNext env gs c.answered.result) (sym back.same) (c.answered.ensures.reads env p back.frames back.expr (back.waiting, back.is))
