use Rattle.nf_tasks.proofs.Apart.{attempts_apart}
use Rattle.nf_tasks.proofs.laws.attempts_are_told_apart.Goals as goal

pub returns : goal.returns
returns c =
    attempts_apart c.instances_are_told_apart.ensures c.args.first.now c.args.second.now c.args.inputs.now c.args.others.now c.parts.ensures.sized c.parts-2.ensures.sized c.in_ok-inputs_code.ensures.fit c.in_ok-inputs_code-2.ensures.fit
