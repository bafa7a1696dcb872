use Rattle.std.proofs.Common.{◌≡◌, Err, refl, rules}
use Rattle.nf_around.specs.Gives.{IsClosing}
use Rattle.nf_arguments.specs.Args.{written_arg}
use Rattle.nf_meaning.specs.Closures.{closure_arg}
use Rattle.nf_meaning.specs.Names.{in_run}
use Rattle.nf_taken.specs.Bodies.{IsIn}
use Rattle.nf_taken.specs.Taken.{with_closure}
use Rattle.nf_taken.proofs.Walks.{takes_more, takes_none}
use Rattle.nf_taken.proofs.Things.{a_closure}
use Rattle.nf_taken.proofs.body.Body.take_closure.Goals as goal

pub returns-in_err-closure : goal.returns-in_err-closure
returns-in_err-closure g c =
    let e = c.in_err-closure.field-0.0 in
    let err : c.from_residual.result ≡ Err e = search rules in
    rw err (record {
      takes = takes_none (IsIn g.N.Natives.titles g.N.Natives.answer c.args.self.now) (λ a. IsClosing a.given.program) (closure_arg in_run (written_arg c.args.arg).tree) with_closure c.args.taken e (λ a s here. c.in_err-closure.ensures a s here);
      keeps = λ r h. tt;
    })

pub returns : goal.returns
returns g c = record {
  takes =
      takes_more (IsIn g.N.Natives.titles g.N.Natives.answer c.args.self.now) (λ a. IsClosing a.given.program) (closure_arg in_run (written_arg c.args.arg).tree) with_closure c.args.taken _ c.in_ok-closure.closure (λ a s here. c.in_ok-closure.ensures a s here)
      (λ a bags t y q is. a_closure a.given.program bags c.args.taken t is c.in_ok-closure.closure y q);
  keeps = λ r h. record { ports = refl; closing = λ k. h };
}
