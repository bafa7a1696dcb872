use Rattle.std.proofs.Common.{◌∙◌, refl, sym}
use Rattle.nf_taken.proofs.calls.unclosed_body.Goals as goal

pub returns-in-Some : goal.returns-in-Some
returns-in-Some c = record {
  body = refl;
  answers = λ n r t closing pattern literal. c.answers.ensures.pattern n r t c.in-Some.pattern closing (sym pattern ∙ c.in-Some.is);
}
