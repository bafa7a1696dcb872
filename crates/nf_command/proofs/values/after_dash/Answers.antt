use Rattle.std.proofs.Common.{lit<}
use Rattle.std.proofs.lemmas.Str.Pattern.{strip_prefix_char}
use Rattle.nf_command.proofs.Words.{stripped}
use Rattle.nf_command.proofs.values.after_dash.Goals as goal

pub returns : goal.returns
returns c = stripped c.args.word.now c.strip_prefix.result (strip_prefix_char 45 c.args.word.now c.strip_prefix.result c.strip_prefix.ensures.cases (lit< tt))
