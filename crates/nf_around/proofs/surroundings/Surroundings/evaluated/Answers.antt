use Rattle.std.proofs.Common.{subst}
use Rattle.nf_ast.specs.View.{view}
use Rattle.nf_eval.specs.Evaluation.{eval_of}
use Rattle.nf_eval.specs.Memory.{env_of}
use Rattle.nf_lowered.specs.Given.{Gives}
use Rattle.nf_meaning.specs.Closures.{env_for}
use Rattle.nf_meaning.specs.Lowered.{known}
use Rattle.nf_meaning.specs.Names.{before_run}
use Rattle.nf_relevant.specs.Reads.{AreAlike}
use Rattle.nf_tasks.specs.Memory.{program}
use Rattle.nf_around.specs.Gives.{IsValue}
use Rattle.nf_around.proofs.Evaluated.{same_value}
use Rattle.nf_around.proofs.surroundings.Surroundings.evaluated.Goals as goal

pub returns : goal.returns
returns g c a s h =
    let natives = c.args.self.now.natives.now in
    let titles = g.N.Natives.titles natives in
    let answer = g.N.Natives.answer natives in
    let t = view c.args.expr.now in
    let env = c.in_ok-env.env in
    subst (λ v. Gives IsValue (known v) c.before_run.result)
    (same_value c.by_its_names.ensures a.given.program (program titles answer) t c.in_ok-used.used.items env (env_for before_run a s) h.around.everywhere.program c.in_ok-used.ensures.reads
    (subst (λ ns. AreAlike ns (env_of env a.given.program.titles a.given.program.answer) (env_for before_run a s)) c.deref.ensures.value (c.in_ok-env.ensures a s h)))
    (c.before_run.ensures (eval_of t (env_of env titles answer)) c.eval.ensures)
