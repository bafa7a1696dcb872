use Rattle.std.proofs.Common.{◌≡◌, map}
use Rattle.nf_ast.specs.View.{trees, view_label}
use Rattle.nf_meaning.specs.Processes.{no_options, options_in}
use Rattle.nf_called.specs.Options.{labels_of, options_of}
use Rattle.nf_called.proofs.Turns.{rest}
use Rattle.nf_called.proofs.options.options_in.Given as goal

abbrev pub invariant-loop-option : goal.invariant-loop-option
invariant-loop-option l =
    options_in (labels_of l.before) (rest view_label l.options l.option-index) (options_of l.so_far)
    ≡ options_in (labels_of l.before) (trees (map view_label l.options)) no_options
