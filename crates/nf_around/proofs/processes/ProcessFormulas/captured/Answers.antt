use Rattle.std.proofs.Common.{[], false, true, refl, sym, subst}
use Rattle.nf_eval.specs.Memory.{env_of}
use Rattle.nf_meaning.specs.Walk.{env_with}
use Rattle.nf_relevant.specs.Reads.{AreAlike}
use Rattle.nf_around.proofs.Made.{gives_as, alike_in_process}
use Rattle.nf_around.proofs.Nothing.{in_nothing, no_bags, no_table, nothing}
use Rattle.nf_around.proofs.processes.ProcessFormulas.captured.Goals as goal

pub returns : goal.returns
returns g c a h =
    let n = a.given.program in
    let used = c.in_ok-used.used.items in
    let names = c.new-names.result in
    let body = in_nothing g.N.Natives.titles g.N.Natives.answer c.args.self.now.around.now names a h (c.new-names.ensures.stands no_bags nothing refl refl (no_table c.new.result.entries c.new.ensures.empty)) in
    gives_as c.closures_by_their_names.ensures.applied n c.new-2.result c.args.code c.args.code used (env_of c.for_process.new.self n.titles n.answer) (env_with a [] true)
    (c.new-2.ensures n.titles n.answer) refl c.in_ok-used.ensures.reads
    (subst (λ e. AreAlike used e (env_with a [] true)) (sym (c.for_process.ensures n.titles n.answer))
    (alike_in_process used (env_of c.in_ok-env.env n.titles n.answer) (env_with a [] false)
    (subst (λ ns. AreAlike ns (env_of c.in_ok-env.env n.titles n.answer) (env_with a [] false)) c.deref.ensures.value (c.in_ok-env.ensures a nothing body))))
