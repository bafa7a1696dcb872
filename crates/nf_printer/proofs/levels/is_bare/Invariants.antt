use Rattle.std.proofs.Common.{◌≡◌, map, drop}
use Rattle.nf_ast.specs.View.{view_operand}
use Rattle.nf_printer.specs.Chains.{is_bare}
use Rattle.nf_printer.proofs.levels.is_bare.Given as goal

abbrev pub invariant-loop-operand : goal.invariant-loop-operand
invariant-loop-operand l = is_bare (map view_operand (drop l.operand-index l.rest)) l.last ≡ is_bare (map view_operand l.rest) l.fn.first
