use Rattle.std.proofs.Common.{sym, ap, ◌∙◌}
use Rattle.nf_grammar.specs.Parts.{no_next}
use Rattle.nf_grammar.proofs.Short.{off, sees, maybe_not, maybe_is}
use Rattle.nf_ast.specs.View as view
use Rattle.nf_exprs.specs.Level.{Prim}
use Rattle.nf_exprs.specs.Tokens.{name_of}
use Rattle.nf_exprs.specs.Rules as row
use Rattle.nf_exprs.specs.Rules.{kind, mark, no_comma, no_part, listed}
use Rattle.nf_exprs.proofs.Turns.{goes_at, ends_at}
use Rattle.nf_exprs.proofs.Steps.{lifted}
use Rattle.nf_exprs.proofs.closures.maybe_names.Goals as goal

pub returns-then-not-is_name-clause-parses : goal.returns-then-not-is_name-clause-parses
returns-then-not-is_name-clause-parses c = let e = ends_at (no_next name_of c.args.tokens.now) (sym c.is_name.ensures ∙ c.if-not-is_name.true) in sees (ap view.names c.new-none.ensures.items) (maybe_not e (off e))

pub returns-clause-parses : goal.returns-clause-parses
returns-clause-parses c = lifted (λ x. view.names x.0.items) (λ x. x.1.now) row.names (row.maybe row.names (no_next name_of)) c.args.tokens.now c.args.tokens.now c.names.result (λ o p. maybe_is (goes_at (no_next name_of c.args.tokens.now) (sym c.is_name.ensures ∙ c.if-not-is_name.false)) p) c.names.ensures.parses
