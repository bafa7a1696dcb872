use Rattle.std.proofs.Common.{◌≡◌, Err, rules, subst}
use Rattle.nf_around.specs.Gives.{IsValue}
use Rattle.nf_arguments.specs.Args.{written_arg}
use Rattle.nf_taken.specs.Wanted.{filled_walk}
use Rattle.nf_taken.specs.Bodies.{IsIn}
use Rattle.nf_taken.specs.Taken.{IsTaken, with_start}
use Rattle.nf_taken.proofs.Walks.{takes_more, takes_none}
use Rattle.nf_taken.proofs.body.Body.take_filling.Goals as goal

pub returns-in_err-value : goal.returns-in_err-value
returns-in_err-value g c =
    let e = c.in_err-value.field-0.0 in
    let err : c.from_residual.result ≡ Err e = search rules in
    rw err (record {
      takes = takes_none (IsIn g.N.Natives.titles g.N.Natives.answer c.args.self.now) (λ a. IsValue) (filled_walk (written_arg c.args.arg)) with_start c.args.taken e (λ a s here. c.in_err-value.ensures a s here);
      keeps = λ r. tt;
    })

pub returns : goal.returns
returns g c = record {
  takes =
      takes_more (IsIn g.N.Natives.titles g.N.Natives.answer c.args.self.now) (λ a. IsValue) (filled_walk (written_arg c.args.arg)) with_start c.args.taken c.and_start.result c.in_ok-value.value (λ a s here. c.in_ok-value.ensures a s here)
      (λ a bags t y q is. subst (λ v. IsTaken a.given.program bags c.and_start.result (with_start v t)) q (c.and_start.ensures.taken a.given.program bags t is));
  keeps = λ r. c.and_start.ensures.keeps r;
}
