use Rattle.std.proofs.Common.{refl, subst}
use Rattle.nf_taken.specs.Taken.{FitsClosing, IsClosing}
use Rattle.nf_taken.proofs.Rows.{applied}
use Rattle.nf_taken.proofs.calls.body_of.Goals as goal

pub labelled_body-requires : goal.labelled_body-requires
labelled_body-requires c = subst (FitsClosing c.args.operator) c.in-ByLabels.is c.requires

pub returns-in-Whole : goal.returns-in-Whole
returns-in-Whole c =
    let fits = subst (FitsClosing c.args.operator) c.in-Whole.is c.requires in
    record {
      body = refl;
      answers = λ n t took.
          (let h = subst (λ k. IsClosing n k t.closing) c.in-Whole.is took.closing in
          c.closures.ensures.applied n c.args.operator t c.in-Whole.closure h.closure (applied c.args.operator fits) h.taken h.gives);
    }

pub returns-in-ByLabels : goal.returns-in-ByLabels
returns-in-ByLabels c = record {
  body = c.labelled_body.ensures.body;
  answers = λ n t took. c.labelled_body.ensures.answers n t (subst (λ k. IsClosing n k t.closing) c.in-ByLabels.is took.closing);
}

pub returns-in-Nothing : goal.returns-in-Nothing
returns-in-Nothing c = record {
  body = c.unclosed_body.ensures.body;
  answers = λ n t took. c.unclosed_body.ensures.answers n c.args.operator t (subst (λ k. IsClosing n k t.closing) c.in-Nothing.is took.closing) took.matches took.equals;
}
