use Rattle.std.proofs.Common.{◌≡◌, ◌∙◌, ◌+◌, ◌++◌, ◌∷◌, [], take, sym, ap, arith, subst, rules}
use Rattle.std.proofs.lemmas.List.{take_more, take_all}
use Rattle.nf_eval.specs.Memory.{IsOver, env_of}
use Rattle.nf_meaning.specs.Closures.{env_for}
use Rattle.nf_known.specs.Reading.{reading_of}
use Rattle.nf_around.specs.Kept.{KeepsNames}
use Rattle.nf_around.proofs.Captured.{alike}
use Rattle.nf_around.proofs.Views.{none_kept}
use Rattle.nf_around.proofs.view.View.env.Goals as goal

pub loop-name-init : goal.loop-name-init
loop-name-init c n a s h =
    let x = c.args.self.now.everywhere.now in
    let same : c.in_ok-clone.field-0.value ≡ x.library.value = search rules in
    none_kept x n a s (reading_of c.args.self.now.reading) c.new-env.result h.everywhere (subst (λ l. IsOver l c.new-env.result) same c.new-env.ensures)

pub loop-name-preserved : goal.loop-name-preserved
loop-name-preserved c n a s h =
    let names = c.args.names.now in
    let i = c.loop-name.name-index in
    let m = c.name-item.result in
    let more : take (i + 1) names ≡ take i names ++ m ∷ [] = take_more names i m (search rules) ∙ ap (λ y. take i names ++ y ∷ []) (sym c.name-item.is) in
    subst (λ ns. KeepsNames ns (env_of c.bind.new.env n.titles n.answer) (env_for (reading_of c.args.self.now.reading) a s)) (sym more) (c.in_ok-bind.ensures n a s h (take i names) (c.loop-name.invariant n a s h))

pub returns : goal.returns
returns c n a s h =
    let names = c.args.names.now in
    let all = env_for (reading_of c.args.self.now.reading) a s in
    let one = env_of c.loop-name.env n.titles n.answer in
    alike names one all (subst (λ ns. KeepsNames ns one all) (take_all c.loop-name.name-index names (omega arith)) (c.loop-name.invariant n a s h))
