use Rattle.std.proofs.Common.{◌≡◌, Err, refl, rules}
use Rattle.nf_arguments.specs.Args.{written_arg}
use Rattle.nf_meaning.specs.Taken.{total_wanted}
use Rattle.nf_taken.specs.Bodies.{IsIn, IsSame}
use Rattle.nf_taken.specs.Taken.{with_total}
use Rattle.nf_taken.proofs.Walks.{takes_more, takes_none}
use Rattle.nf_taken.proofs.Things.{a_total}
use Rattle.nf_taken.proofs.body.Body.take_total.Goals as goal

pub returns-in_err-total : goal.returns-in_err-total
returns-in_err-total g c =
    let e = c.in_err-total.field-0.0 in
    let err : c.from_residual.result ≡ Err e = search rules in
    rw err (record {
      takes = takes_none (IsIn g.N.Natives.titles g.N.Natives.answer c.args.self.now) (λ a. IsSame) (total_wanted (written_arg c.args.arg).tree) with_total c.args.taken e (λ a s here. c.in_err-total.ensures a s here);
      keeps = λ r. tt;
    })

pub returns : goal.returns
returns g c = record {
  takes =
      takes_more (IsIn g.N.Natives.titles g.N.Natives.answer c.args.self.now) (λ a. IsSame) (total_wanted (written_arg c.args.arg).tree) with_total c.args.taken _ c.in_ok-total.total (λ a s here. c.in_ok-total.ensures a s here)
      (λ a bags t y q is. a_total a.given.program bags c.args.taken t is c.in_ok-total.total y q);
  keeps = λ r. record { ports = refl; closing = λ k. k };
}
