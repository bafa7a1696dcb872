use Rattle.std.proofs.Common.{ℕ, List, refl, ap}
use Rattle.nf_grammar.proofs.Short.{ret, off, sees, maybe_not, maybe_is}
use Rattle.nf_ast.specs.Tree as tree
use Rattle.nf_ast.specs.Tree.{Tree}
use Rattle.nf_exprs.specs.Level.{Prim}
use Rattle.nf_exprs.proofs.Steps.{comes, took}
use Rattle.nf_exprs.proofs.prims.maybe_text.Goals as goal

pub returns-in_default-clause-parses : goal.returns-in_default-clause-parses
returns-in_default-clause-parses c = maybe_not c.in_default.ensures (off c.in_default.ensures)

pub returns-clause-parses : goal.returns-clause-parses
returns-clause-parses c = sees (ap (λ (x : List ℕ). tree.cons (tree.piece c.in-Some.place x) tree.empty) c.in_ok-copy.ensures) (maybe_is (comes c.in-Some.ensures) (took refl c.in-Some.ensures ret))
