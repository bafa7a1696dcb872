use Rattle.std.proofs.Common.{◌≡◌, ◌≤◌, ◌++◌, [], map, drop}
use Rattle.std.specs.Prelude.{false, if◌then◌else◌}
use Rattle.nf_ast.specs.View.{views, view_operand, view_branch, view_postfix, view_piece, view_pair, view_arg, view_label, view_stmts, view_arm, trees}
use Rattle.nf_writer.specs.Ink.{inked, keyword, spaced}
use Rattle.nf_token.specs.declared.token.Keyword.TheVariants as k
use Rattle.nf_writer.specs.Lines.{between}
use Rattle.nf_printer.specs.Bodies.{first_before}
use Rattle.nf_printer.specs.Exprs.{comma, listed, parts, pieces}
use Rattle.nf_printer.specs.Chains.{operands_inks, parts_inks, branches_inks, arms_inks}
use Rattle.nf_writer.specs.Styles.{layout_of}
use Rattle.nf_printer.proofs.+put.Given as goal

abbrev pub invariant-exprs::put_operands-loop-operand : goal.invariant-exprs::put_operands-loop-operand
invariant-exprs::put_operands-loop-operand l = l.out ++ inked (operands_inks (map view_operand (drop l.operand-index l.rest)) l.last (layout_of l.margin)) ≡ l.initial.out ++ inked (operands_inks (map view_operand l.rest) l.fn.first (layout_of l.margin))

abbrev pub invariant-exprs::put_parts-loop-part : goal.invariant-exprs::put_parts-loop-part
invariant-exprs::put_parts-loop-part l = l.out ++ inked (parts_inks (map view_postfix (drop l.part-index l.parts)) (layout_of l.margin)) ≡ l.initial.out ++ inked (parts_inks (map view_postfix l.parts) (layout_of l.margin))

abbrev pub invariant-exprs::put_args-loop-arg : goal.invariant-exprs::put_args-loop-arg
invariant-exprs::put_args-loop-arg l = l.out ++ inked (listed (trees (map view_arg (drop l.arg-index l.args))) (layout_of l.margin) (if l.more then comma else [])) ≡ l.initial.out ++ inked (listed (trees (map view_arg l.args)) (layout_of l.margin) [])

abbrev pub invariant-exprs::put_list-loop-item : goal.invariant-exprs::put_list-loop-item
invariant-exprs::put_list-loop-item l = l.out ++ inked (listed (views (drop l.item-index l.items)) (layout_of l.margin) (if l.more then comma else [])) ≡ l.initial.out ++ inked (listed (views l.items) (layout_of l.margin) [])

abbrev pub invariant-exprs::put_pairs-loop-pair : goal.invariant-exprs::put_pairs-loop-pair
invariant-exprs::put_pairs-loop-pair l = l.out ++ inked (listed (trees (map view_pair (drop l.pair-index l.pairs))) (layout_of l.margin) (if l.more then comma else [])) ≡ l.initial.out ++ inked (listed (trees (map view_pair l.pairs)) (layout_of l.margin) [])

abbrev pub invariant-exprs::put_template-loop-piece : goal.invariant-exprs::put_template-loop-piece
invariant-exprs::put_template-loop-piece l = l.out ++ inked (pieces (trees (map view_piece (drop l.piece-index l.pieces))) l.kind (layout_of l.margin)) ≡ l.initial.out ++ inked (pieces (trees (map view_piece l.pieces)) l.kind (layout_of l.margin))

abbrev pub invariant-closures::put_stmts-loop-stmt : goal.invariant-closures::put_stmts-loop-stmt
invariant-closures::put_stmts-loop-stmt l = l.out ++ inked (parts (view_stmts (drop l.stmt-index l.stmts)) (layout_of l.margin) (if l.more then between (layout_of l.margin) else first_before l.short (layout_of l.margin))) ≡ l.initial.out ++ inked (parts (view_stmts l.stmts) (layout_of l.margin) (first_before l.short (layout_of l.margin)))

abbrev pub invariant-closures::put_labels-loop-label : goal.invariant-closures::put_labels-loop-label
invariant-closures::put_labels-loop-label l = l.out ++ inked (parts (trees (map view_label (drop l.label-index l.labels))) (layout_of l.margin) (if l.more then between (layout_of l.margin) else first_before l.short (layout_of l.margin))) ≡ l.initial.out ++ inked (parts (trees (map view_label l.labels)) (layout_of l.margin) (first_before l.short (layout_of l.margin)))

abbrev pub invariant-closures::put_arms-loop-arm : goal.invariant-closures::put_arms-loop-arm
invariant-closures::put_arms-loop-arm l = l.out ++ inked (arms_inks (map view_arm (drop l.arm-index l.arms)) (layout_of l.margin) (if l.more then spaced (keyword k.Else) else [])) ≡ l.initial.out ++ inked (arms_inks (map view_arm l.arms) (layout_of l.margin) [])

abbrev pub invariant-exprs::put_branches-loop-place : goal.invariant-exprs::put_branches-loop-place
invariant-exprs::put_branches-loop-place l = (l.out ++ inked (branches_inks (map view_branch (drop l.place l.rest)) l.state.asked l.state.begun (layout_of l.margin)) ≡ l.initial.out ++ inked (branches_inks (map view_branch l.rest) 0 false (layout_of l.margin))) × (l.state.asked ≤ l.place)
