use Rattle.std.proofs.Common.{◌≡◌, ◌∙◌, [], drop, ap, subst, rules}
use Rattle.nf_names_used.specs.Uses.{no_names, uses}
use Rattle.nf_known.specs.Around.{names_everywhere}
use Rattle.nf_around.specs.Gives.{Judges}
use Rattle.nf_around.specs.Processes.{repeats}
use Rattle.nf_around.proofs.InProcess.{asked_everywhere, wrong_inside, uses_left}
use Rattle.nf_around.proofs.processes.ProcessFormulas.check.Goals as goal

pub returns : goal.returns
returns g c a p b h is =
    let x = c.args.self.now.around.now in
    let seen = c.args.self.now.seen.now in
    let titles = g.N.Natives.titles in
    let answer = g.N.Natives.answer in
    let body : c.after-body.result.now ≡ drop (repeats [] seen) c.in_ok-uses.uses.items = search rules in
    let left = body ∙ uses_left p seen b c.in_ok-uses.uses.items (c.in_ok-uses.ensures ∙ ap (λ t. uses t no_names) is) in
    subst (λ f. Judges f c.judged.result)
    (c.in_ok-uses_fault.ensures (record { given = a.given; known = names_everywhere }) (asked_everywhere titles answer x a h) ∙ wrong_inside titles answer x a h seen b c.after-body.result.now left)
    c.judged.ensures
