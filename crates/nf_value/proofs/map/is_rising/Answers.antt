use Rattle.std.proofs.Common.{sym, ◌∙◌, arith}
use Rattle.nf_value.proofs.Rising.{rising_last}
use Rattle.nf_value.proofs.map.is_rising.Goals as goal

pub returns : goal.returns
returns c = sym (c.loop-i.invariant.0 ∙ rising_last c.args.items.now _ (omega arith))
