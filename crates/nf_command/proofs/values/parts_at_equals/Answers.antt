use Rattle.nf_command.proofs.Words.{split_equals}
use Rattle.nf_command.proofs.values.parts_at_equals.Goals as goal

pub returns : goal.returns
returns c = split_equals c.args.text.now c.split_once.result c.split_once.ensures.cases
