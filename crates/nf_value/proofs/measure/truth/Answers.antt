use Rattle.std.proofs.Common.{ap, sym, ◌∙◌}
use Rattle.nf_value.specs.View.{plain_of}
use Rattle.nf_value.specs.Truth.{truth_of}
use Rattle.nf_value.proofs.Lengths.{list_truth, map_truth}
use Rattle.nf_value.proofs.measure.truth.Goals as goal

pub returns-in-List : goal.returns-in-List
returns-in-List c = list_truth _ c.len.result c.len.ensures ∙ ap (λ v. truth_of (plain_of v)) (sym c.in-List.is)

pub returns-in-Map : goal.returns-in-Map
returns-in-Map c = map_truth _ c.len-in-Map.result c.len-in-Map.ensures ∙ ap (λ v. truth_of (plain_of v)) (sym c.in-Map.is)
