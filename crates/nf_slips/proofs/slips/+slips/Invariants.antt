use Rattle.std.proofs.Common.{◌≡◌, ◌++◌, map, drop}
use Rattle.nf_ast.specs.View.{views, view_piece, view_pair, view_operand, view_branch, view_postfix, view_arg, view_label, view_stmts, view_arm, trees}
use Rattle.nf_slips.specs.Slips.{slips, operands_slips, branches_slips, parts_slips, arms_slips}
use Rattle.nf_slips.specs.Memory.{view_form}
use Rattle.nf_slips.proofs.slips.+slips.Given as goal

abbrev pub invariant-add_exprs-loop-item : goal.invariant-add_exprs-loop-item
invariant-add_exprs-loop-item l = l.out.items ++ slips (views (drop l.item-index l.items)) ≡ l.initial.out.items ++ slips (views l.items)

abbrev pub invariant-add_fragments-loop-piece : goal.invariant-add_fragments-loop-piece
invariant-add_fragments-loop-piece l = l.out.items ++ slips (trees (map view_piece (drop l.piece-index l.pieces))) ≡ l.initial.out.items ++ slips (trees (map view_piece l.pieces))

abbrev pub invariant-add_pairs-loop-pair : goal.invariant-add_pairs-loop-pair
invariant-add_pairs-loop-pair l = l.out.items ++ slips (trees (map view_pair (drop l.pair-index l.pairs))) ≡ l.initial.out.items ++ slips (trees (map view_pair l.pairs))

abbrev pub invariant-add_args-loop-arg : goal.invariant-add_args-loop-arg
invariant-add_args-loop-arg l = l.out.items ++ slips (trees (map view_arg (drop l.arg-index l.args))) ≡ l.initial.out.items ++ slips (trees (map view_arg l.args))

abbrev pub invariant-add_labels-loop-label : goal.invariant-add_labels-loop-label
invariant-add_labels-loop-label l = l.out.items ++ slips (trees (map view_label (drop l.label-index l.labels))) ≡ l.initial.out.items ++ slips (trees (map view_label l.labels))

abbrev pub invariant-add_stmts-loop-stmt : goal.invariant-add_stmts-loop-stmt
invariant-add_stmts-loop-stmt l = l.out.items ++ slips (view_stmts (drop l.stmt-index l.stmts)) ≡ l.initial.out.items ++ slips (view_stmts l.stmts)

abbrev pub invariant-add_operands-loop-operand : goal.invariant-add_operands-loop-operand
invariant-add_operands-loop-operand l = l.out.items ++ operands_slips (map view_operand (drop l.operand-index l.rest)) ≡ l.initial.out.items ++ operands_slips (map view_operand l.rest)

abbrev pub invariant-add_branches-loop-branch : goal.invariant-add_branches-loop-branch
invariant-add_branches-loop-branch l = l.out.items ++ branches_slips (map view_branch (drop l.branch-index l.rest)) ≡ l.initial.out.items ++ branches_slips (map view_branch l.rest)

abbrev pub invariant-add_arms-loop-arm : goal.invariant-add_arms-loop-arm
invariant-add_arms-loop-arm l = l.out.items ++ arms_slips (map view_arm (drop l.arm-index l.arms)) ≡ l.initial.out.items ++ arms_slips (map view_arm l.arms)

abbrev pub invariant-add_parts-loop-part : goal.invariant-add_parts-loop-part
invariant-add_parts-loop-part l = l.out.items ++ parts_slips (view_form l.before) (map view_postfix (drop l.part-index l.rest)) ≡ l.initial.out.items ++ parts_slips (view_form l.head) (map view_postfix l.rest)
