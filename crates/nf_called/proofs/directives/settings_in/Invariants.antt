use Rattle.std.proofs.Common.{◌≡◌, map}
use Rattle.nf_ast.specs.Tops.{view_directive}
use Rattle.nf_ast.specs.View.{trees}
use Rattle.nf_meaning.specs.Directives as meaning
use Rattle.nf_meaning.specs.Directives.{directives_in, no_directives}
use Rattle.nf_called.specs.Directives.{AreSettings}
use Rattle.nf_called.proofs.Turns.{rest}
use Rattle.nf_called.proofs.directives.settings_in.Given as goal

abbrev pub invariant-loop-directive : goal.invariant-loop-directive
invariant-loop-directive g l =
    (m : meaning.Directives) × AreSettings (g.F.Formulas.program l.formulas) l.settings m
    × (directives_in (g.F.Formulas.inside l.formulas) (rest view_directive l.directives l.directive-index) m
    ≡ directives_in (g.F.Formulas.inside l.formulas) (trees (map view_directive l.directives)) no_directives)
