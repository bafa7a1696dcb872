use Rattle.std.proofs.Common.{◌≡◌, Err, refl, rules}
use Rattle.nf_around.specs.Labels.{AreLabels}
use Rattle.nf_arguments.specs.Args.{written_arg}
use Rattle.nf_meaning.specs.Closures.{labels_arg}
use Rattle.nf_taken.specs.Bodies.{IsIn}
use Rattle.nf_taken.specs.Taken.{with_labels}
use Rattle.nf_taken.proofs.Walks.{takes_more, takes_none}
use Rattle.nf_taken.proofs.Things.{some_labels}
use Rattle.nf_taken.proofs.body.Body.take_labels.Goals as goal

pub returns-in_err-labelled : goal.returns-in_err-labelled
returns-in_err-labelled g c =
    let e = c.in_err-labelled.field-0.0 in
    let err : c.from_residual.result ≡ Err e = search rules in
    rw err (record {
      takes = takes_none (IsIn g.N.Natives.titles g.N.Natives.answer c.args.self.now) (λ a. AreLabels a.given.program) (labels_arg (written_arg c.args.arg).tree) with_labels c.args.taken e (λ a s here. c.in_err-labelled.ensures a s here);
      keeps = λ r h. tt;
    })

pub returns : goal.returns
returns g c =
    let x = c.in_ok-labelled.labelled in
    record {
      takes =
          takes_more (IsIn g.N.Natives.titles g.N.Natives.answer c.args.self.now) (λ a. AreLabels a.given.program) (labels_arg (written_arg c.args.arg).tree) with_labels c.args.taken _ x (λ a s here. c.in_ok-labelled.ensures a s here)
          (λ a bags t y q is. some_labels a.given.program bags c.args.taken t is x.0 x.1 y q);
      keeps = λ r h. record { ports = refl; closing = λ k. h };
    }
