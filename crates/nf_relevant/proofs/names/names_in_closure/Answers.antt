use Rattle.std.proofs.Common.{rules}
use Rattle.nf_ast.specs.View.{view_body}
use Rattle.nf_relevant.proofs.Own.{listed}
use Rattle.nf_relevant.proofs.names.names_in_closure.Goals as goal

pub returns-clause-reads : goal.returns-clause-reads
returns-clause-reads c = listed c.put_body.new.out.items (view_body c.args.closure.now.body) (search rules)
