use Rattle.std.proofs.Common.{length, ap, sym, ◌∙◌}
use Rattle.std.specs.Prelude.{Some}
use Rattle.nf_value.specs.View.{plain_of}
use Rattle.nf_opstream.specs.Columns.{length_of}
use Rattle.nf_opstream.proofs.Inner.{items_of-plains_of}
use Rattle.nf_opstream.proofs.columns.length_of.Goals as goal

pub returns-in-List : goal.returns-in-List
returns-in-List c = ap Some (c.len.ensures ∙ ap length (sym (items_of-plains_of c.in-List.list))) ∙ ap (λ v. length_of (plain_of v)) (sym c.in-List.is)
