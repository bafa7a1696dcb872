use Rattle.std.proofs.Common.{◌≡◌, ◌++◌, drop}
use Rattle.nf_ast.specs.View.{names}
use Rattle.nf_writer.specs.Ink.{inked}
use Rattle.nf_printer.specs.Tops.{on_lines, part}
use Rattle.nf_printer.proofs.tops.put_taken.Given as goal

abbrev pub invariant-loop-name : goal.invariant-loop-name
invariant-loop-name l = l.out ++ inked (on_lines part (names (drop l.name-index l.list))) ≡ l.initial.out ++ inked (on_lines part (names l.list))
