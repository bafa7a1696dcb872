use Rattle.std.proofs.Common.{◌≡◌, ◌++◌, drop, map}
use Rattle.nf_ast.specs.View.{trees, view_label}
use Rattle.nf_slips.specs.Forms.{labels_in, form_of}
use Rattle.nf_slips.proofs.forms.label_names.Given as goal

abbrev pub invariant-loop-label : goal.invariant-loop-label
invariant-loop-label l = l.out.items ++ labels_in (form_of (trees (map view_label (drop l.label-index l.labels)))) ≡ labels_in (form_of (trees (map view_label l.labels)))
