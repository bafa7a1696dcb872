use Rattle.std.proofs.Common.{◌≡◌, ◌++◌, map, drop}
use Rattle.nf_ast.specs.View.{views, view_operand, view_branch, view_postfix, view_piece, view_pair, view_arg, view_label, view_stmts, view_arm, trees}
use Rattle.nf_names_used.specs.Uses.{uses}
use Rattle.nf_names_used.specs.Chains.{operands_uses, branches_uses, parts_uses, arms_uses}
use Rattle.nf_names_used.proofs.+uses.Given as goal

abbrev pub invariant-exprs::put_exprs-loop-item : goal.invariant-exprs::put_exprs-loop-item
invariant-exprs::put_exprs-loop-item l = l.out.items ++ uses (views (drop l.item-index l.items)) l.seen ≡ l.initial.out.items ++ uses (views l.items) l.seen

abbrev pub invariant-exprs::put_pieces-loop-piece : goal.invariant-exprs::put_pieces-loop-piece
invariant-exprs::put_pieces-loop-piece l = l.out.items ++ uses (trees (map view_piece (drop l.piece-index l.pieces))) l.seen ≡ l.initial.out.items ++ uses (trees (map view_piece l.pieces)) l.seen

abbrev pub invariant-exprs::put_pairs-loop-pair : goal.invariant-exprs::put_pairs-loop-pair
invariant-exprs::put_pairs-loop-pair l = l.out.items ++ uses (trees (map view_pair (drop l.pair-index l.pairs))) l.seen ≡ l.initial.out.items ++ uses (trees (map view_pair l.pairs)) l.seen

abbrev pub invariant-exprs::put_args-loop-arg : goal.invariant-exprs::put_args-loop-arg
invariant-exprs::put_args-loop-arg l = l.out.items ++ uses (trees (map view_arg (drop l.arg-index l.args))) l.seen ≡ l.initial.out.items ++ uses (trees (map view_arg l.args)) l.seen

abbrev pub invariant-exprs::put_operands-loop-operand : goal.invariant-exprs::put_operands-loop-operand
invariant-exprs::put_operands-loop-operand l = l.out.items ++ operands_uses (map view_operand (drop l.operand-index l.rest)) l.seen ≡ l.initial.out.items ++ operands_uses (map view_operand l.rest) l.seen

abbrev pub invariant-exprs::put_branches-loop-branch : goal.invariant-exprs::put_branches-loop-branch
invariant-exprs::put_branches-loop-branch l = l.out.items ++ branches_uses (map view_branch (drop l.branch-index l.rest)) l.seen ≡ l.initial.out.items ++ branches_uses (map view_branch l.rest) l.seen

abbrev pub invariant-exprs::put_parts-loop-part : goal.invariant-exprs::put_parts-loop-part
invariant-exprs::put_parts-loop-part l = l.out.items ++ parts_uses (map view_postfix (drop l.part-index l.parts)) l.seen ≡ l.initial.out.items ++ parts_uses (map view_postfix l.parts) l.seen

abbrev pub invariant-stmts::put_labels-loop-label : goal.invariant-stmts::put_labels-loop-label
invariant-stmts::put_labels-loop-label l = l.out.items ++ uses (trees (map view_label (drop l.label-index l.labels))) l.seen ≡ l.initial.out.items ++ uses (trees (map view_label l.labels)) l.seen

abbrev pub invariant-stmts::put_arms-loop-arm : goal.invariant-stmts::put_arms-loop-arm
invariant-stmts::put_arms-loop-arm l = l.out.items ++ arms_uses (map view_arm (drop l.arm-index l.arms)) l.seen ≡ l.initial.out.items ++ arms_uses (map view_arm l.arms) l.seen

abbrev pub invariant-stmts::put_stmts-loop-stmt : goal.invariant-stmts::put_stmts-loop-stmt
invariant-stmts::put_stmts-loop-stmt l = l.out.items ++ uses (view_stmts (drop l.stmt-index l.stmts)) l.seen ≡ l.initial.out.items ++ uses (view_stmts l.stmts) l.initial.seen
