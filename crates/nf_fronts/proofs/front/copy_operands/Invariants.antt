use Rattle.std.proofs.Common.{◌≡◌, ◌++◌, map, drop}
use Rattle.nf_ast.specs.View.{view_operand}
use Rattle.nf_fronts.proofs.front.copy_operands.Given as goal

abbrev pub invariant-loop-operand : goal.invariant-loop-operand
invariant-loop-operand l = map view_operand l.copies.items ++ map view_operand (drop l.operand-index l.operands) ≡ map view_operand l.operands
