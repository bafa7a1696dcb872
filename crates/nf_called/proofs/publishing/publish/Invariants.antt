use Rattle.std.proofs.Common.{◌≡◌, [], ◌∷◌, map}
use Rattle.nf_ast.specs.Tree.{Tree}
use Rattle.nf_ast.specs.View.{trees, view_arg}
use Rattle.nf_tasks.specs.Meaning.{PublishMeaning}
use Rattle.nf_meaning.specs.Directives.{folders, with_args}
use Rattle.nf_called.specs.Publishing.{IsSoFar, Lacks}
use Rattle.nf_called.proofs.Folders.{first_publish}
use Rattle.nf_called.proofs.Turns.{rest}
use Rattle.nf_called.proofs.publishing.publish.Given as goal

abbrev pub invariant-loop-arg : goal.invariant-loop-arg
invariant-loop-arg g l =
    (e : Tree) × (m : PublishMeaning) × (folders (trees (map view_arg l.args)) ≡ e ∷ []) × IsSoFar (g.F.Formulas.program l.formulas) l.so_far m
    × Lacks l.so_far.folder (folders (rest view_arg l.args l.arg-index))
    × (with_args (g.F.Formulas.inside l.formulas) (rest view_arg l.args l.arg-index) m
    ≡ with_args (g.F.Formulas.inside l.formulas) (trees (map view_arg l.args)) (first_publish (g.F.Formulas.inside l.formulas) l.fn.place e))
