use Rattle.std.proofs.Common.{◌≡◌, ◌∙◌, ap, length, subst, sym, ◌<◌}
use Rattle.std.proofs.lemmas.List.{length-map}
use Rattle.nf_meaning.specs.Stands.{results}
use Rattle.nf_lowering.specs.Nodes.{as_name, outputs_from}
use Rattle.nf_lowering.proofs.nodes.labelled.Goals as goal

pub outputs_from-requires : goal.outputs_from-requires
outputs_from-requires c =
    let same : length c.as_slice.result.now ≡ length c.args.labels.now = ap (λ xs. length xs) (c.as_slice.ensures.value ∙ c.in_ok-names.ensures) ∙ length-map c.args.labels.now as_name in
    subst (λ k. k < 4294967296) (sym same) c.requires

pub returns : goal.returns
returns c = ap results (c.in_ok-outputs.ensures ∙ ap (outputs_from c.args.first 0) (c.as_slice.ensures.value ∙ c.in_ok-names.ensures))
