use Rattle.std.proofs.Common.{sym, ◌∙◌}
use Rattle.nf_locked.proofs.Copies.{same_values}
use Rattle.nf_locked.proofs.handed.are_same.Goals as goal

pub returns : goal.returns
returns c = λ yes. sym c.items.ensures ∙ (same_values c.equal_is_same.ensures.eq c.items.result.now c.items-2.result.now (sym c.eq.ensures ∙ yes) ∙ c.items-2.ensures)
