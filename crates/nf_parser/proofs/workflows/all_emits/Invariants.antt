use Rattle.std.proofs.Common.{◌≤◌, ℕ, length, map}
use Rattle.nf_token.specs.declared.token.Lexeme.{Lexeme}
use Rattle.nf_grammar.specs.Gram.{many}
use Rattle.nf_grammar.specs.Outcome.{Out}
use Rattle.nf_ast.specs.Tree.{Tree}
use Rattle.nf_ast.specs.View.{trees}
use Rattle.nf_ast.specs.Tops.{view_emit}
use Rattle.nf_exprs.specs.Parses.{Outcome}
use Rattle.nf_exprs.specs.Tokens as kind
use Rattle.nf_exprs.specs.Rules as row
use Rattle.nf_parser.proofs.workflows.all_emits.Given as goal

abbrev pub invariant-loop-alloc : goal.invariant-loop-alloc
invariant-loop-alloc l = (length l.rest ≤ length l.fn.tokens) × (n : ℕ) × ((o : Out Lexeme Tree) → Outcome (many kind.no_start (row.separated (row.emit)) n (trees (map view_emit l.all.items))) l.rest o → Outcome (row.emits) l.fn.tokens o)

abbrev pub decreases-loop-alloc : goal.decreases-loop-alloc
decreases-loop-alloc l = length l.rest
