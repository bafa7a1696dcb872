use Rattle.std.proofs.Common.{refl, subst, sym}
use Rattle.nf_bodies.specs.Means.{AnswersAs}
use Rattle.nf_bodies.specs.declared.body.NodeBody.TheVariants as body
use Rattle.nf_taken.proofs.Rows.{other_label}
use Rattle.nf_taken.proofs.calls.labelled_body.Goals as goal

pub returns-in-Branch : goal.returns-in-Branch
returns-in-Branch c = record {
  body = refl;
  answers = λ n t h. subst (λ r. AnswersAs n (body.Branch c.args.stored) r t) (sym c.in-Branch.is) (c.closures.ensures.branch n t c.args.stored h.closure h.first h.more h.taken h.has h.give);
}

pub returns-in_default : goal.returns-in_default
returns-in_default c =
    let is = other_label c.args.operator c.requires c.in_default.not-Branch in
    record {
      body = refl;
      answers = λ n t h. subst (λ r. AnswersAs n (body.MultiMap c.args.stored) r t) (sym is) (c.closures.ensures.multi_map n t c.args.stored h.closure h.first h.more h.taken h.has h.give);
    }
