use Rattle.nf_value.specs.View.{plain_of}
use Rattle.nf_texts.specs.Outcome.{Gives}
use Rattle.nf_builtins.specs.Call.{answer_of}
use Rattle.nf_builtins.proofs.Lines.{plain_at, at_row}
use Rattle.nf_builtins.proofs.calls.call.Goals as goal

pub answer-requires : goal.answer-requires
answer-requires c = plain_at c.args.row _ c.requires.0 c.requires.1

pub returns : goal.returns
returns c = at_row c.args.row _ (λ b. Gives (answer_of b.method (plain_of c.args.recv.now) c.args.args.now) c.answer.result) c.requires.0 c.answer.ensures
