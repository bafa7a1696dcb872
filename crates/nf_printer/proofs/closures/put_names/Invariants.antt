use Rattle.std.proofs.Common.{◌≡◌, ◌++◌, [], drop}
use Rattle.std.specs.Prelude.{if◌then◌else◌}
use Rattle.nf_ast.specs.View.{names}
use Rattle.nf_writer.specs.Ink.{inked}
use Rattle.nf_writer.specs.Lines.{Layout}
use Rattle.nf_printer.specs.Exprs.{comma, listed}
use Rattle.nf_printer.proofs.closures.put_names.Given as goal

abbrev pub invariant-loop-name : goal.invariant-loop-name
invariant-loop-name l = (k : Layout) → l.out ++ inked (listed (names (drop l.name-index l.list)) k (if l.more then comma else [])) ≡ l.initial.out ++ inked (listed (names l.list) k [])
