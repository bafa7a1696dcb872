use Rattle.std.proofs.Common.{◌≡◌, Err, refl, rules}
use Rattle.nf_around.specs.Gives.{IsUnit}
use Rattle.nf_taken.specs.Bodies.{IsIn}
use Rattle.nf_taken.specs.Taken.{with_pattern}
use Rattle.nf_taken.specs.Wanted.{pattern_walk}
use Rattle.nf_taken.proofs.Things.{a_pattern}
use Rattle.nf_taken.proofs.Walks.{takes_more, takes_none}
use Rattle.nf_taken.proofs.body.Body.take_pattern.Goals as goal

pub returns-in_err-check_pattern : goal.returns-in_err-check_pattern
returns-in_err-check_pattern g c =
    let e = c.in_err-check_pattern.field-0.0 in
    let err : c.from_residual.result ≡ Err e = search rules in
    rw err (record {
      takes = λ x. takes_none (IsIn g.N.Natives.titles g.N.Natives.answer c.args.self.now) (λ a. IsUnit) (pattern_walk c.args.place c.args.text.now) (λ (u : Unit {0}). with_pattern c.args.text.now) c.args.taken e (λ a s here. c.in_err-check_pattern.ensures a s here);
      keeps = λ r. tt;
    })

pub returns : goal.returns
returns g c = record {
  takes = λ x.
      takes_more (IsIn g.N.Natives.titles g.N.Natives.answer c.args.self.now) (λ a. IsUnit) (pattern_walk c.args.place c.args.text.now) (λ (u : Unit {0}). with_pattern c.args.text.now) c.args.taken _ tt (λ a s here. c.in_ok-check_pattern.ensures a s here)
      (λ a bags t y q is. a_pattern a.given.program bags c.args.taken t is c.in_ok-pattern.pattern c.args.text.now c.in_ok-pattern.ensures.pattern);
  keeps = λ r. record { ports = refl; closing = λ k. k };
}
