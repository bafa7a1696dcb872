use Rattle.std.proofs.Common.{◌≡◌, ◌++◌, ◌∷◌, [], map, drop}
use Rattle.std.specs.Prelude.{if◌then◌else◌}
use Rattle.nf_ast.specs.View.{trees}
use Rattle.nf_ast.specs.Tops.{view_top}
use Rattle.nf_writer.specs.Ink.{inked, line}
use Rattle.nf_printer.specs.Tops.{tops}
use Rattle.nf_printer.proofs.tops.put_tops.Given as goal

abbrev pub invariant-loop-top : goal.invariant-loop-top
invariant-loop-top l = l.out ++ inked (tops (trees (map view_top (drop l.top-index l.tops))) (if l.more then line [] ∷ [] else [])) ≡ l.initial.out ++ inked (tops (trees (map view_top l.tops)) [])
