use Rattle.std.proofs.Common.{◌≡◌, map, drop}
use Rattle.nf_ast.specs.View.{view_operand, view_postfix}
use Rattle.nf_slips.specs.Memory.{view_form, operand_forms, part_forms}
use Rattle.nf_slips.proofs.forms.+form.Given as goal

abbrev pub invariant-operands_form-loop-operand : goal.invariant-operands_form-loop-operand
invariant-operands_form-loop-operand l = operand_forms (view_form l.so_far) (map view_operand (drop l.operand-index l.rest)) ≡ operand_forms (view_form l.fn.first) (map view_operand l.rest)

abbrev pub invariant-parts_form-loop-part : goal.invariant-parts_form-loop-part
invariant-parts_form-loop-part l = part_forms (view_form l.so_far) (map view_postfix (drop l.part-index l.rest)) ≡ part_forms (view_form l.fn.first) (map view_postfix l.rest)
