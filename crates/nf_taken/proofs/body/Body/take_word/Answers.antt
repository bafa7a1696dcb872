use Rattle.std.proofs.Common.{◌≡◌, ◌∙◌, Err, refl, rules}
use Rattle.nf_around.specs.Words.{IsWord}
use Rattle.nf_arguments.specs.Args.{written_arg}
use Rattle.nf_meaning.specs.Closures.{word_arg}
use Rattle.nf_taken.specs.Bodies.{IsIn}
use Rattle.nf_taken.specs.Taken.{with_word}
use Rattle.nf_taken.proofs.Walks.{takes_more, takes_none}
use Rattle.nf_taken.proofs.Things.{a_word}
use Rattle.nf_taken.proofs.body.Body.take_word.Goals as goal

pub returns-in_err-word : goal.returns-in_err-word
returns-in_err-word g c =
    let e = c.in_err-word.field-0.0 in
    let err : c.from_residual.result ≡ Err e = search rules in
    rw err (record {
      takes = takes_none (IsIn g.N.Natives.titles g.N.Natives.answer c.args.self.now) (λ a. IsWord) (word_arg (written_arg c.args.arg).tree) with_word c.args.taken e (λ a s here. c.in_err-word.ensures a s here);
      keeps = λ r. tt;
    })

pub returns : goal.returns
returns g c = record {
  takes =
      takes_more (IsIn g.N.Natives.titles g.N.Natives.answer c.args.self.now) (λ a. IsWord) (word_arg (written_arg c.args.arg).tree) with_word c.args.taken _ c.in_ok-word.word (λ a s here. c.in_ok-word.ensures a s here)
      (λ a bags t y q is. a_word a.given.program bags c.args.taken t is c.in_ok-copy.copy y (c.in_ok-copy.ensures ∙ q));
  keeps = λ r. record { ports = refl; closing = λ k. k };
}
