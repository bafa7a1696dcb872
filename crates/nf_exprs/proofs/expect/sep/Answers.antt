use Rattle.std.proofs.Common.{refl, sym, ◌∙◌}
use Rattle.nf_grammar.proofs.Short.{ret, off, maybe_not, maybe_is}
use Rattle.nf_exprs.proofs.Steps.{took}
use Rattle.nf_exprs.proofs.Rows.{no_end_at_separator}
use Rattle.nf_exprs.proofs.expect.sep.Goals as goal

pub returns-in-Some-clause-parses : goal.returns-in-Some-clause-parses
returns-in-Some-clause-parses c = maybe_is (no_end_at_separator _ _ _ c.in-Some.ensures) (took refl c.in-Some.ensures ret)

pub returns-then-at_end-clause-parses : goal.returns-then-at_end-clause-parses
returns-then-at_end-clause-parses c = maybe_not (sym c.at_end.ensures ∙ c.if-at_end.true) (off c.in_default.ensures)

pub returns-clause-parses : goal.returns-clause-parses
returns-clause-parses c = maybe_is (sym c.at_end.ensures ∙ c.if-at_end.false) (off c.in_default.ensures)
