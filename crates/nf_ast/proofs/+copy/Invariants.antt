use Rattle.std.proofs.Common.{◌≡◌, map, take}
use Rattle.nf_ast.specs.View.{view, view_operand, view_branch, view_postfix, view_piece, view_pair, view_arg, view_label, view_stmt, view_arm}
use Rattle.nf_ast.proofs.+copy.Given as goal

abbrev pub invariant-list_copies::copy_exprs-loop-expr : goal.invariant-list_copies::copy_exprs-loop-expr
invariant-list_copies::copy_exprs-loop-expr l = map view l.copies.items ≡ map view (take l.expr-index l.exprs)

abbrev pub invariant-list_copies::copy_pieces-loop-piece : goal.invariant-list_copies::copy_pieces-loop-piece
invariant-list_copies::copy_pieces-loop-piece l = map view_piece l.copies.items ≡ map view_piece (take l.piece-index l.pieces)

abbrev pub invariant-list_copies::copy_pairs-loop-pair : goal.invariant-list_copies::copy_pairs-loop-pair
invariant-list_copies::copy_pairs-loop-pair l = map view_pair l.copies.items ≡ map view_pair (take l.pair-index l.pairs)

abbrev pub invariant-list_copies::copy_operands-loop-operand : goal.invariant-list_copies::copy_operands-loop-operand
invariant-list_copies::copy_operands-loop-operand l = map view_operand l.copies.items ≡ map view_operand (take l.operand-index l.operands)

abbrev pub invariant-list_copies::copy_branches-loop-branch : goal.invariant-list_copies::copy_branches-loop-branch
invariant-list_copies::copy_branches-loop-branch l = map view_branch l.copies.items ≡ map view_branch (take l.branch-index l.branches)

abbrev pub invariant-list_copies::copy_postfixes-loop-part : goal.invariant-list_copies::copy_postfixes-loop-part
invariant-list_copies::copy_postfixes-loop-part l = map view_postfix l.copies.items ≡ map view_postfix (take l.part-index l.postfixes)

abbrev pub invariant-list_copies::copy_args-loop-arg : goal.invariant-list_copies::copy_args-loop-arg
invariant-list_copies::copy_args-loop-arg l = map view_arg l.copies.items ≡ map view_arg (take l.arg-index l.args)

abbrev pub invariant-list_copies::copy_labels-loop-label : goal.invariant-list_copies::copy_labels-loop-label
invariant-list_copies::copy_labels-loop-label l = map view_label l.copies.items ≡ map view_label (take l.label-index l.labels)

abbrev pub invariant-list_copies::copy_stmts-loop-stmt : goal.invariant-list_copies::copy_stmts-loop-stmt
invariant-list_copies::copy_stmts-loop-stmt l = map view_stmt l.copies.items ≡ map view_stmt (take l.stmt-index l.stmts)

abbrev pub invariant-list_copies::copy_arms-loop-arm : goal.invariant-list_copies::copy_arms-loop-arm
invariant-list_copies::copy_arms-loop-arm l = map view_arm l.copies.items ≡ map view_arm (take l.arm-index l.arms)
