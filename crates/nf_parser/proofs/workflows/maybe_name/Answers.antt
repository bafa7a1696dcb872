use Rattle.std.proofs.Common.{ℕ, List, ap}
use Rattle.nf_grammar.proofs.Short.{misses, maybe_not, maybe_is, sees}
use Rattle.nf_exprs.specs.Rules.{rules}
use Rattle.nf_exprs.proofs.Steps.{comes, took_one}
use Rattle.nf_ast.specs.Tree as tree
use Rattle.nf_parser.proofs.workflows.maybe_name.Goals as goal

pub returns-in_ok-name-in-Some-clause-parses : goal.returns-in_ok-name-in-Some-clause-parses
unfolding rules
returns-in_ok-name-in-Some-clause-parses c =
    sees (ap (λ (n : List ℕ). tree.name c.in-Some.place n) c.in_ok-name-in-Some.ensures) (maybe_is (comes c.in-Some.ensures) (took_one c.in-Some.ensures))

pub returns-in-None-clause-parses : goal.returns-in-None-clause-parses
unfolding rules
returns-in-None-clause-parses c =
    maybe_not c.in-None.ensures (misses c.in-None.ensures)
