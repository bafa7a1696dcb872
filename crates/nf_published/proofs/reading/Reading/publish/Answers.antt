use Rattle.std.proofs.Common.{◌≡◌, ◌++◌, List, get_or, false, ap, sym, ◌∙◌, append-nil, rules}
use Rattle.nf_flow.specs.Questions.{inputs_in}
use Rattle.nf_bodies.specs.Bodies.{body_in}
use Rattle.nf_tasks.specs.Memory.{program}
use Rattle.nf_tasks.specs.declared.target_list.Target.{Target}
use Rattle.nf_published.specs.declared.reading.Tried.{Tried}
use Rattle.nf_published.specs.Reading.{may_publish_body, no_try}
use Rattle.nf_published.proofs.Unpublished.{publishes_none}
use Rattle.nf_published.proofs.reading.Reading.publish.Goals as goal

pub returns-then-not-may_publish-clause-targets : goal.returns-then-not-may_publish-clause-targets
returns-then-not-may_publish-clause-targets g c =
    let n = program (g.N.Natives.titles c.args.natives.now) (g.N.Natives.answer c.args.natives.now) in
    let tried = get_or c.args.self.now.tries.items c.args.ticket no_try in
    let silent : c.may_publish.result ≡ false = search rules in
    let none : may_publish_body (body_in c.args.infos.now tried.node) ≡ false =
    ap (λ (x : Tried). may_publish_body (body_in c.args.infos.now x.node)) (sym c.tried-tried.ensures) ∙ sym c.may_publish.ensures ∙ silent in
    sym (ap (λ (ts : List Target). c.args.self.now.targets.items ++ ts) (publishes_none n c.args.infos.now tried (inputs_in c.args.flow.now c.args.ticket) c.args.report.now none)
    ∙ append-nil c.args.self.now.targets.items)
