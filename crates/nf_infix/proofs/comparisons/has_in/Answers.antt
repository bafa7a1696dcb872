use Rattle.std.proofs.Common.{◌∙◌, sym}
use Rattle.nf_value.specs.View.{plain_of}
use Rattle.nf_builtins.specs.Lists.{is_same}
use Rattle.nf_infix.proofs.Members.{any_map}
use Rattle.nf_infix.proofs.comparisons.has_in.Goals as goal

pub returns : goal.returns
returns c = c.contains.ensures.value ∙ sym (any_map (λ w. is_same w (plain_of c.args.item.now)) plain_of c.args.items.now)
