use Rattle.std.proofs.Common.{◌≤◌, ℕ, length, map}
use Rattle.nf_token.specs.declared.token.Lexeme.{Lexeme}
use Rattle.nf_grammar.specs.Gram.{many, rule}
use Rattle.nf_grammar.specs.Outcome.{Out}
use Rattle.nf_ast.specs.Tree.{Tree}
use Rattle.nf_ast.specs.View.{trees}
use Rattle.nf_ast.specs.Tops.{view_top}
use Rattle.nf_exprs.specs.Parses.{Outcome}
use Rattle.nf_exprs.specs.Level as level
use Rattle.nf_exprs.specs.Rules as row
use Rattle.nf_parser.proofs.tops.tops.Given as goal

abbrev pub invariant-loop-alloc : goal.invariant-loop-alloc
invariant-loop-alloc l = (length l.rest ≤ length l.fn.tokens) × (n : ℕ) × ((o : Out Lexeme Tree) → Outcome (many row.no_top (row.separated (rule level.Top)) n (trees (map view_top l.all.items))) l.rest o → Outcome (row.tops) l.fn.tokens o)

abbrev pub decreases-loop-alloc : goal.decreases-loop-alloc
decreases-loop-alloc l = length l.rest
