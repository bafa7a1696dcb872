use Rattle.std.proofs.Common.{◌<◌, ℕ, length, map}
use Rattle.nf_token.specs.declared.token.Lexeme.{Lexeme}
use Rattle.nf_grammar.specs.Gram.{bind, many}
use Rattle.nf_grammar.specs.Outcome.{Out}
use Rattle.nf_ast.specs.Tree.{Tree}
use Rattle.nf_ast.specs.View.{trees}
use Rattle.nf_ast.specs.Tops.{view_output_part}
use Rattle.nf_exprs.specs.Parses.{Outcome}
use Rattle.nf_parser.specs.Ends.{tuple_end}
use Rattle.nf_ast.specs.Tree as tree
use Rattle.nf_exprs.specs.Tokens as kind
use Rattle.nf_exprs.specs.Rules as row
use Rattle.nf_parser.proofs.outputs.parts.Given as goal

abbrev pub invariant-loop-after : goal.invariant-loop-after
invariant-loop-after l = (length l.rest < length l.fn.tokens) × (n : ℕ) × ((o : Out Lexeme Tree) → Outcome (bind (many kind.outputs_end (row.comma_then row.output_value) n (trees (map view_output_part l.all.items))) (λ xs. row.with_sep (row.with_options (tree.tuple l.fn.place xs)))) l.rest o → Outcome (tuple_end l.fn.place) l.fn.tokens o)

abbrev pub decreases-loop-after : goal.decreases-loop-after
decreases-loop-after l = length l.rest
