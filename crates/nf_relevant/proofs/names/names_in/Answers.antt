use Rattle.std.proofs.Common.{rules}
use Rattle.nf_ast.specs.View.{view}
use Rattle.nf_relevant.proofs.Own.{listed}
use Rattle.nf_relevant.proofs.names.names_in.Goals as goal

pub returns-clause-reads : goal.returns-clause-reads
returns-clause-reads c = listed c.put_expr.new.out.items (view c.args.expr.now) (search rules)
