use Rattle.std.proofs.Common.{Err, subst, sym}
use Rattle.nf_arguments.specs.Args.{written_arg}
use Rattle.nf_meaning.specs.declared.fault.LowerFault.TheVariants.{BadOption}
use Rattle.nf_taken.specs.Bodies.{IsIn, Takes}
use Rattle.nf_taken.specs.Wanted.{FitsAlone, alone_walk}
use Rattle.nf_taken.proofs.body.Body.take.Goals as goal

pub returns-in-Closure : goal.returns-in-Closure
returns-in-Closure g c = record {
  takes = subst (λ y. Takes (IsIn g.N.Natives.titles g.N.Natives.answer c.args.self.now) c.args.taken (alone_walk y (written_arg c.args.arg)) c.take_closure.result) (sym c.in-Closure.is) c.take_closure.ensures.takes;
  keeps = λ r h. c.take_closure.ensures.keeps r (subst (FitsAlone r) c.in-Closure.is h);
}

pub returns-in-Filling : goal.returns-in-Filling
returns-in-Filling g c = record {
  takes = subst (λ y. Takes (IsIn g.N.Natives.titles g.N.Natives.answer c.args.self.now) c.args.taken (alone_walk y (written_arg c.args.arg)) c.take_filling.result) (sym c.in-Filling.is) c.take_filling.ensures.takes;
  keeps = λ r h. c.take_filling.ensures.keeps r;
}

pub returns-in-Labels : goal.returns-in-Labels
returns-in-Labels g c = record {
  takes = subst (λ y. Takes (IsIn g.N.Natives.titles g.N.Natives.answer c.args.self.now) c.args.taken (alone_walk y (written_arg c.args.arg)) c.take_labels.result) (sym c.in-Labels.is) c.take_labels.ensures.takes;
  keeps = λ r h. c.take_labels.ensures.keeps r (subst (FitsAlone r) c.in-Labels.is h);
}

pub returns-in-Word : goal.returns-in-Word
returns-in-Word g c = record {
  takes = subst (λ y. Takes (IsIn g.N.Natives.titles g.N.Natives.answer c.args.self.now) c.args.taken (alone_walk y (written_arg c.args.arg)) c.take_word.result) (sym c.in-Word.is) c.take_word.ensures.takes;
  keeps = λ r h. c.take_word.ensures.keeps r;
}

pub returns-in-Total : goal.returns-in-Total
returns-in-Total g c = record {
  takes = subst (λ y. Takes (IsIn g.N.Natives.titles g.N.Natives.answer c.args.self.now) c.args.taken (alone_walk y (written_arg c.args.arg)) c.take_total.result) (sym c.in-Total.is) c.take_total.ensures.takes;
  keeps = λ r h. c.take_total.ensures.keeps r;
}

pub returns-in-Pattern : goal.returns-in-Pattern
returns-in-Pattern g c = record {
  takes = subst (λ y. Takes (IsIn g.N.Natives.titles g.N.Natives.answer c.args.self.now) c.args.taken (alone_walk y (written_arg c.args.arg)) c.take_pattern.result) (sym c.in-Pattern.is) (c.take_pattern.ensures.takes (written_arg c.args.arg));
  keeps = λ r h. c.take_pattern.ensures.keeps r;
}

pub returns-in-Nothing : goal.returns-in-Nothing
returns-in-Nothing g c = record {
  takes =
      subst (λ y. Takes (IsIn g.N.Natives.titles g.N.Natives.answer c.args.self.now) c.args.taken (alone_walk y (written_arg c.args.arg)) (Err (BadOption c.place.result))) (sym c.in-Nothing.is)
      (λ a s bags t here is i. Err (BadOption (sym c.place.ensures i)));
  keeps = λ r h. tt;
}
