use Rattle.std.proofs.Common.{◌<◌, ℕ, length, map}
use Rattle.nf_token.specs.declared.token.Lexeme.{Lexeme}
use Rattle.nf_grammar.specs.Gram.{many, rule}
use Rattle.nf_grammar.specs.Outcome.{Out}
use Rattle.nf_ast.specs.Tree.{Tree}
use Rattle.nf_ast.specs.View.{trees}
use Rattle.nf_ast.specs.Tops.{view_input_part}
use Rattle.nf_exprs.specs.Parses.{Outcome}
use Rattle.nf_exprs.specs.Level as level
use Rattle.nf_exprs.specs.Rules as row
use Rattle.nf_parser.proofs.inputs.parts.Given as goal

abbrev pub invariant-loop-after : goal.invariant-loop-after
invariant-loop-after l = (length l.rest < length l.fn.tokens) × (n : ℕ) × ((o : Out Lexeme Tree) → Outcome (many row.no_comma (row.comma_then (rule level.Input)) n (trees (map view_input_part l.all.items))) l.rest o → Outcome (row.commas (rule level.Input)) l.fn.tokens o)

abbrev pub decreases-loop-after : goal.decreases-loop-after
decreases-loop-after l = length l.rest
