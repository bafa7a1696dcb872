use Rattle.std.proofs.Common.{◌≡◌, ◌++◌, map, drop}
use Rattle.nf_ast.specs.View.{view_postfix}
use Rattle.nf_fronts.proofs.front.copy_parts.Given as goal

abbrev pub invariant-loop-part : goal.invariant-loop-part
invariant-loop-part l = map view_postfix l.copies.items ++ map view_postfix (drop l.part-index l.parts) ≡ map view_postfix l.parts
