use Rattle.std.proofs.Common.{map, ap, ◌∙◌}
use Rattle.nf_value.specs.View.{plain_of}
use Rattle.nf_bag.specs.Sorted.{distinct_of}
use Rattle.nf_publish.proofs.Clashing.{judged_result}
use Rattle.nf_publish.proofs.clash.first_clash.Goals as goal

pub returns : goal.returns
returns c =
    judged_result c.args.targets.now c.clash_in.result (map plain_of c.items.result.now) (c.items.ensures ∙ c.in_ok-files.ensures ∙ ap distinct_of c.in_ok-target_values.ensures)
    c.clash_in.ensures
