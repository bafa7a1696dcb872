use Rattle.std.proofs.Common.{◌∙◌, Ok, ap}
use Rattle.nf_value.specs.View.{plain_of}
use Rattle.nf_meaning.specs.Sources.{list_wanted}
use Rattle.nf_opargs.proofs.Items.{items_of-plains_of}
use Rattle.nf_opargs.proofs.values.list_wanted.Goals as goal

pub returns-in-List : goal.returns-in-List
returns-in-List c a s =
    ap (λ v. list_wanted c.args.place (plain_of v) a s) c.in-List.is ∙ ap (λ vs. Ok (vs, s)) (items_of-plains_of c.in-List.items)
