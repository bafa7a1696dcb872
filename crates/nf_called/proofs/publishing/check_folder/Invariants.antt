use Rattle.std.proofs.Common.{◌≡◌, ◌++◌, map}
use Rattle.nf_ast.specs.View.{trees, view_arg}
use Rattle.nf_meaning.specs.Directives.{folders}
use Rattle.nf_called.specs.Publishing.{folder_list}
use Rattle.nf_called.proofs.Turns.{rest}
use Rattle.nf_called.proofs.publishing.check_folder.Given as goal

abbrev pub invariant-loop-arg : goal.invariant-loop-arg
invariant-loop-arg l = folder_list l.folder ++ folders (rest view_arg l.args l.arg-index) ≡ folders (trees (map view_arg l.args))
