use Rattle.nf_called.specs.Options.{labels_of}
use Rattle.std.proofs.Common.{◌∙◌}
use Rattle.nf_called.proofs.Labels.{label_found, label_left}
use Rattle.nf_called.proofs.options.is_known.Goals as goal

pub returns-then-has_label : goal.returns-then-has_label
returns-then-has_label c = label_found c.args.name.now c.args.label.now (labels_of c.args.before.now) c.has_label.result c.has_label.ensures c.if-has_label.true

pub returns : goal.returns
returns c = c.is_emitted.ensures ∙ label_left c.args.name.now c.args.label.now (labels_of c.args.before.now) c.has_label.result c.has_label.ensures c.if-has_label.false
