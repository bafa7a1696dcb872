use Rattle.nf_ast.specs.View.{view}
use Rattle.nf_names_used.specs.Uses.{no_names}
use Rattle.nf_meaning.specs.Functions.{names_fault}
use Rattle.nf_meaning.specs.Names.{unread}
use Rattle.nf_meaning.specs.Walk.{known_in}
use Rattle.nf_around.proofs.Judged.{only_judged}
use Rattle.nf_around.proofs.surroundings.Surroundings.only_read.Goals as goal

pub returns : goal.returns
returns g c a s h = only_judged a s (names_fault a.given a.definitions (known_in a s.scope) unread (view c.args.expr.now) no_names) c.check.result (c.check.ensures a s.scope h)
