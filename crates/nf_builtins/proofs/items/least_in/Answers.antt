use Rattle.std.proofs.Common.{ap, ◌∙◌, map}
use Rattle.nf_value.specs.View.{plain_of}
use Rattle.nf_builtins.specs.Lists.{smaller_of, least}
use Rattle.nf_builtins.proofs.Values.{best_more, best_last}
use Rattle.nf_builtins.proofs.items.least_in.Goals as goal

pub loop-item-preserved : goal.loop-item-preserved
loop-item-preserved c = best_more smaller_of c.in_ok-first.others.now c.loop-item.item-index c.item-item.result (plain_of c.loop-item.most.now) _ _ c.loop-item-test.true c.item-item.is c.smaller-most.ensures c.loop-item.invariant

pub returns : goal.returns
returns c =
    ap (λ l. least (map plain_of l)) c.in_ok-first.ensures.cases.0 ∙ best_last smaller_of c.in_ok-first.others.now c.loop-item.item-index (plain_of c.loop-item.most.now) _ c.loop-item-test.false c.loop-item.invariant
