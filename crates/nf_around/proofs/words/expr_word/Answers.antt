use Rattle.std.proofs.Common.{sym, ap}
use Rattle.nf_ast.specs.View.{view}
use Rattle.nf_around.specs.Words.{name_alone}
use Rattle.nf_around.proofs.OnlyNames.{no_name_alone}
use Rattle.nf_around.proofs.words.expr_word.Goals as goal

pub returns-in-Some : goal.returns-in-Some
returns-in-Some c = sym (ap name_alone c.in-Some.ensures)

pub returns-in-None : goal.returns-in-None
returns-in-None c = sym (no_name_alone (view c.args.expr.now) c.in-None.ensures)
