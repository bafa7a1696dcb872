use Rattle.std.proofs.Common.{◌≡◌, ◌++◌, map, drop}
use Rattle.nf_ast.specs.View.{views, view_operand, view_branch, view_postfix, view_piece, view_pair, view_arg, view_label, view_stmts, view_arm, trees}
use Rattle.nf_relevant.specs.Names.{names_read, operands_read, branches_read, parts_read, arms_read}
use Rattle.nf_relevant.proofs.names.+names.Given as goal

abbrev pub invariant-put_exprs-loop-item : goal.invariant-put_exprs-loop-item
invariant-put_exprs-loop-item l = l.out.items ++ names_read (views (drop l.item-index l.items)) ≡ l.initial.out.items ++ names_read (views l.items)

abbrev pub invariant-put_pieces-loop-piece : goal.invariant-put_pieces-loop-piece
invariant-put_pieces-loop-piece l = l.out.items ++ names_read (trees (map view_piece (drop l.piece-index l.pieces))) ≡ l.initial.out.items ++ names_read (trees (map view_piece l.pieces))

abbrev pub invariant-put_pairs-loop-pair : goal.invariant-put_pairs-loop-pair
invariant-put_pairs-loop-pair l = l.out.items ++ names_read (trees (map view_pair (drop l.pair-index l.pairs))) ≡ l.initial.out.items ++ names_read (trees (map view_pair l.pairs))

abbrev pub invariant-put_args-loop-arg : goal.invariant-put_args-loop-arg
invariant-put_args-loop-arg l = l.out.items ++ names_read (trees (map view_arg (drop l.arg-index l.args))) ≡ l.initial.out.items ++ names_read (trees (map view_arg l.args))

abbrev pub invariant-put_operands-loop-operand : goal.invariant-put_operands-loop-operand
invariant-put_operands-loop-operand l = l.out.items ++ operands_read (map view_operand (drop l.operand-index l.rest)) ≡ l.initial.out.items ++ operands_read (map view_operand l.rest)

abbrev pub invariant-put_branches-loop-branch : goal.invariant-put_branches-loop-branch
invariant-put_branches-loop-branch l = l.out.items ++ branches_read (map view_branch (drop l.branch-index l.rest)) ≡ l.initial.out.items ++ branches_read (map view_branch l.rest)

abbrev pub invariant-put_parts-loop-part : goal.invariant-put_parts-loop-part
invariant-put_parts-loop-part l = l.out.items ++ parts_read (map view_postfix (drop l.part-index l.parts)) ≡ l.initial.out.items ++ parts_read (map view_postfix l.parts)

abbrev pub invariant-put_labels-loop-label : goal.invariant-put_labels-loop-label
invariant-put_labels-loop-label l = l.out.items ++ names_read (trees (map view_label (drop l.label-index l.labels))) ≡ l.initial.out.items ++ names_read (trees (map view_label l.labels))

abbrev pub invariant-put_stmts-loop-stmt : goal.invariant-put_stmts-loop-stmt
invariant-put_stmts-loop-stmt l = l.out.items ++ names_read (view_stmts (drop l.stmt-index l.stmts)) ≡ l.initial.out.items ++ names_read (view_stmts l.stmts)

abbrev pub invariant-put_arms-loop-arm : goal.invariant-put_arms-loop-arm
invariant-put_arms-loop-arm l = l.out.items ++ arms_read (map view_arm (drop l.arm-index l.arms)) ≡ l.initial.out.items ++ arms_read (map view_arm l.arms)
