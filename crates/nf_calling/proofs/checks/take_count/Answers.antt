use Rattle.std.proofs.Common.{◌∙◌, length, sym, ap}
use Rattle.std.proofs.lemmas.List.{length-map}
use Rattle.nf_ast.specs.Tops.{maybe, view_workflow_body}
use Rattle.nf_ast.specs.View.{name_tree}
use Rattle.nf_calling.proofs.Counts.{takes_same}
use Rattle.nf_calling.proofs.checks.take_count.Goals as goal

pub returns : goal.returns
returns c =
    let w = c.args.workflow.now in
    sym (length-map c.names_taken.result.now name_tree) ∙ ap (λ ns. length ns) c.names_taken.ensures
    ∙ sym (ap (λ ns. length ns) (takes_same w.place (maybe name_tree w.name) (view_workflow_body w.body)))
