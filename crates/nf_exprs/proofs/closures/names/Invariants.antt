use Rattle.std.proofs.Common.{length, ℕ, ◌<◌}
use Rattle.nf_grammar.specs.Gram.{many}
use Rattle.nf_ast.specs.View.{names}
use Rattle.nf_exprs.specs.Tokens.{name_of}
use Rattle.nf_exprs.specs.Rules.{comma_then, no_comma, kind}
use Rattle.nf_exprs.specs.Rules as row
use Rattle.nf_exprs.proofs.Steps.{Going}
use Rattle.nf_exprs.proofs.closures.names.Given as goal

abbrev pub invariant-loop-after : goal.invariant-loop-after
invariant-loop-after l = (length l.rest < length l.tokens) × ((n : ℕ) × Going (many no_comma (comma_then (kind name_of)) n (names l.all.items)) l.rest row.names l.tokens)

abbrev pub decreases-loop-after : goal.decreases-loop-after
decreases-loop-after l = length l.rest
