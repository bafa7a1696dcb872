use Rattle.std.proofs.Common.{◌≡◌, ◌++◌, map, drop}
use Rattle.nf_ast.specs.View.{view_operand}
use Rattle.nf_writer.specs.Ink.{inked}
use Rattle.nf_printer.specs.Chains.{opens}
use Rattle.nf_printer.proofs.exprs.put_opens.Given as goal

abbrev pub invariant-loop-operand : goal.invariant-loop-operand
invariant-loop-operand l = l.out ++ inked (opens (map view_operand (drop l.operand-index l.rest)) l.last) ≡ l.initial.out ++ inked (opens (map view_operand l.rest) l.fn.first)
