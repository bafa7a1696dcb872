use Rattle.std.proofs.Common.{◌≤◌, ℕ, length, map}
use Rattle.nf_token.specs.declared.token.Lexeme.{Lexeme}
use Rattle.nf_grammar.specs.Gram.{many}
use Rattle.nf_grammar.specs.Outcome.{Out}
use Rattle.nf_ast.specs.Tree.{Tree}
use Rattle.nf_ast.specs.View.{trees, name_tree}
use Rattle.nf_exprs.specs.Parses.{Outcome}
use Rattle.nf_exprs.specs.Tokens as kind
use Rattle.nf_exprs.specs.Rules as row
use Rattle.nf_parser.proofs.workflows.names.Given as goal

abbrev pub invariant-loop-rest : goal.invariant-loop-rest
invariant-loop-rest l = (length l.rest ≤ length l.fn.tokens) × (n : ℕ) × ((o : Out Lexeme Tree) → Outcome (many kind.directives_end (row.separated (row.kind kind.name_of)) n (trees (map name_tree l.all.items))) l.rest o → Outcome (row.taken_names) l.fn.tokens o)

abbrev pub decreases-loop-rest : goal.decreases-loop-rest
decreases-loop-rest l = length l.rest
