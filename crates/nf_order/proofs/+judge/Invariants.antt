use denote.Param.Weighed.{most}
use Rattle.std.proofs.Common.{◌+◌, ◌*◌, max, length, drop, map, option_map}
use Rattle.nf_ast.specs.declared.expr.Expr.{size-Expr}
use Rattle.nf_ast.specs.declared.expr.Fragment.{size-Fragment}
use Rattle.nf_ast.specs.declared.expr.Pair.{size-Pair}
use Rattle.nf_ast.specs.declared.expr.Operand.{size-Operand}
use Rattle.nf_ast.specs.declared.expr.Branch.{size-Branch}
use Rattle.nf_ast.specs.declared.expr.Postfix.{size-Postfix}
use Rattle.nf_ast.specs.declared.expr.Arg.{size-Arg}
use Rattle.nf_ast.specs.declared.expr.Arm.{size-Arm}
use Rattle.nf_ast.specs.declared.expr.Stmt.{size-Stmt}
use Rattle.nf_slips.specs.Memory.{body_depth, section_depth, emits_depth, emit_depth, weight}
use Rattle.nf_ast.specs.View.{views, view_operand, trees, view_pair, view_piece, view, view_branch, view_arg, view_postfix, view_stmts}
use Rattle.nf_order.specs.Parts.{part_of, all_given}
use Rattle.nf_order.specs.Standing.{Leads, around_of, Stands, after_operands, rest, IsLeft, IsRead, chain_of, after_parts}
use Rattle.nf_order.proofs.Ending.{last_depth}
use Rattle.nf_order.proofs.Rows.{or_more, with_more}
use Rattle.nf_ast.specs.Tops.{view_emit}
use Rattle.nf_order.specs.Accepted.{emitted}
use Rattle.nf_order.proofs.+judge.Given as goal

-- ---- that judging ends: a call of a workflow enters one that isn't entered yet, and all else goes down the tree, down a list, or stays there with a lower rank

abbrev pub decreases-calls::entered : goal.decreases-calls::entered
decreases-calls::entered l = (weight l.around.now.tops.now l.around.now.within.now) * 1180591620717411303424 + 1

abbrev pub decreases-calls::enter : goal.decreases-calls::enter
decreases-calls::enter l = (weight l.around.now.tops.now l.around.now.within.now) * 1180591620717411303424 + 2

abbrev pub decreases-calls::call : goal.decreases-calls::call
decreases-calls::call l = (weight l.around.now.tops.now l.around.now.within.now) * 1180591620717411303424 + 3

abbrev pub decreases-calls::called : goal.decreases-calls::called
decreases-calls::called l = (weight l.around.now.tops.now l.around.now.within.now) * 1180591620717411303424 + 4

abbrev pub decreases-calls::settle : goal.decreases-calls::settle
decreases-calls::settle l = (weight l.around.now.tops.now l.around.now.within.now) * 1180591620717411303424 + 5

abbrev pub decreases-pipes::value_or_call : goal.decreases-pipes::value_or_call
decreases-pipes::value_or_call l = (weight l.around.now.tops.now l.around.now.within.now) * 1180591620717411303424 + 4

abbrev pub decreases-pipes::free_name : goal.decreases-pipes::free_name
decreases-pipes::free_name l = (weight l.around.now.tops.now l.around.now.within.now) * 1180591620717411303424 + 5

abbrev pub decreases-pipes::bound_name : goal.decreases-pipes::bound_name
decreases-pipes::bound_name l = (weight l.around.now.tops.now l.around.now.within.now) * 1180591620717411303424 + 6

abbrev pub decreases-pipes::first_name : goal.decreases-pipes::first_name
decreases-pipes::first_name l = (weight l.around.now.tops.now l.around.now.within.now) * 1180591620717411303424 + 7

abbrev pub decreases-pipes::first_head : goal.decreases-pipes::first_head
decreases-pipes::first_head l = (weight l.around.now.tops.now l.around.now.within.now) * 1180591620717411303424 + 8

abbrev pub decreases-pipes::pipe_first : goal.decreases-pipes::pipe_first
decreases-pipes::pipe_first l = (weight l.around.now.tops.now l.around.now.within.now) * 1180591620717411303424 + 9

abbrev pub decreases-pipes::beside : goal.decreases-pipes::beside
decreases-pipes::beside l = (weight l.around.now.tops.now l.around.now.within.now) * 1180591620717411303424 + 6

abbrev pub decreases-pipes::pipe_to_name : goal.decreases-pipes::pipe_to_name
decreases-pipes::pipe_to_name l = (weight l.around.now.tops.now l.around.now.within.now) * 1180591620717411303424 + 5

abbrev pub decreases-pipes::pipe_to : goal.decreases-pipes::pipe_to
decreases-pipes::pipe_to l = (weight l.around.now.tops.now l.around.now.within.now) * 1180591620717411303424 + 7

abbrev pub decreases-parts::callable : goal.decreases-parts::callable
decreases-parts::callable l = (weight l.around.now.tops.now l.around.now.within.now) * 1180591620717411303424 + 5

abbrev pub decreases-parts::with_member : goal.decreases-parts::with_member
decreases-parts::with_member l = (weight l.around.now.tops.now l.around.now.within.now) * 1180591620717411303424 + 5

abbrev pub decreases-parts::member_of : goal.decreases-parts::member_of
decreases-parts::member_of l = (weight l.around.now.tops.now l.around.now.within.now) * 1180591620717411303424 + 6

abbrev pub decreases-exprs::subject : goal.decreases-exprs::subject
decreases-exprs::subject l = (size-Expr l.expr.now + weight l.around.now.tops.now l.around.now.within.now) * 1180591620717411303424 + 20

abbrev pub decreases-exprs::value : goal.decreases-exprs::value
decreases-exprs::value l = (size-Expr l.expr.now + weight l.around.now.tops.now l.around.now.within.now) * 1180591620717411303424 + 21

abbrev pub decreases-exprs::items : goal.decreases-exprs::items
decreases-exprs::items l = (most size-Expr l.items.now + weight l.around.now.tops.now l.around.now.within.now) * 1180591620717411303424 + 22

abbrev pub decreases-exprs::fragment : goal.decreases-exprs::fragment
decreases-exprs::fragment l = (size-Fragment l.piece.now + weight l.around.now.tops.now l.around.now.within.now) * 1180591620717411303424 + 21

abbrev pub decreases-exprs::template : goal.decreases-exprs::template
decreases-exprs::template l = (most size-Fragment l.pieces.now + weight l.around.now.tops.now l.around.now.within.now) * 1180591620717411303424 + 22

abbrev pub decreases-exprs::pairs : goal.decreases-exprs::pairs
decreases-exprs::pairs l = (most size-Pair l.pairs.now + weight l.around.now.tops.now l.around.now.within.now) * 1180591620717411303424 + 22

abbrev pub decreases-exprs::with_operand : goal.decreases-exprs::with_operand
decreases-exprs::with_operand l = (size-Operand l.operand.now + weight l.around.now.tops.now l.around.now.within.now) * 1180591620717411303424 + 23

abbrev pub decreases-exprs::operands : goal.decreases-exprs::operands
decreases-exprs::operands l = (most size-Operand l.rest.now + weight l.around.now.tops.now l.around.now.within.now) * 1180591620717411303424 + 24

abbrev pub decreases-exprs::turn : goal.decreases-exprs::turn
decreases-exprs::turn l = (max (size-Expr l.first.now) (most size-Branch l.rest.now) + weight l.around.now.tops.now l.around.now.within.now) * 1180591620717411303424 + length l.rest.now * 64 + 30

abbrev pub decreases-exprs::two_arms : goal.decreases-exprs::two_arms
decreases-exprs::two_arms l = (max (size-Expr l.first.now) (most size-Branch l.rest.now) + weight l.around.now.tops.now l.around.now.within.now) * 1180591620717411303424 + length l.rest.now * 64 + 31

abbrev pub decreases-exprs::turns : goal.decreases-exprs::turns
decreases-exprs::turns l = (max (size-Expr l.first.now) (most size-Branch l.rest.now) + weight l.around.now.tops.now l.around.now.within.now) * 1180591620717411303424 + length l.rest.now * 64 + 32

abbrev pub decreases-exprs::second_arm : goal.decreases-exprs::second_arm
decreases-exprs::second_arm l = (most size-Branch l.rest.now + weight l.around.now.tops.now l.around.now.within.now) * 1180591620717411303424 + length l.rest.now * 64 + 29

abbrev pub decreases-parts::parts : goal.decreases-parts::parts
decreases-parts::parts l = (most size-Postfix l.rest.now + weight l.around.now.tops.now l.around.now.within.now) * 1180591620717411303424 + 24

abbrev pub decreases-parts::with_part : goal.decreases-parts::with_part
decreases-parts::with_part l = (size-Postfix l.part.now + weight l.around.now.tops.now l.around.now.within.now) * 1180591620717411303424 + 23

abbrev pub decreases-parts::with_index : goal.decreases-parts::with_index
decreases-parts::with_index l = (size-Expr l.index.now + weight l.around.now.tops.now l.around.now.within.now) * 1180591620717411303424 + 22

abbrev pub decreases-parts::with_args : goal.decreases-parts::with_args
decreases-parts::with_args l = (most size-Arg l.list.now + weight l.around.now.tops.now l.around.now.within.now) * 1180591620717411303424 + 23

abbrev pub decreases-parts::args : goal.decreases-parts::args
decreases-parts::args l = (most size-Arg l.list.now + weight l.around.now.tops.now l.around.now.within.now) * 1180591620717411303424 + 22

abbrev pub decreases-parts::arg : goal.decreases-parts::arg
decreases-parts::arg l = (size-Arg l.arg.now + weight l.around.now.tops.now l.around.now.within.now) * 1180591620717411303424 + 21

abbrev pub decreases-stmts::body : goal.decreases-stmts::body
decreases-stmts::body l = (most size-Stmt l.stmts.now + weight l.around.now.tops.now l.around.now.within.now) * 1180591620717411303424 + 25

abbrev pub decreases-stmts::stmt : goal.decreases-stmts::stmt
decreases-stmts::stmt l = (size-Stmt l.stmt.now + weight l.around.now.tops.now l.around.now.within.now) * 1180591620717411303424 + 24

abbrev pub decreases-stmts::block : goal.decreases-stmts::block
decreases-stmts::block l = (most size-Stmt l.stmts.now + weight l.around.now.tops.now l.around.now.within.now) * 1180591620717411303424 + 26

abbrev pub decreases-stmts::choice : goal.decreases-stmts::choice
decreases-stmts::choice l = (max (most size-Arm l.arms.now) (last_depth (option_map (λ v. v.items) l.last.now)) + weight l.around.now.tops.now l.around.now.within.now) * 1180591620717411303424 + length l.arms.now * 64 + 28

abbrev pub decreases-stmts::otherwise : goal.decreases-stmts::otherwise
decreases-stmts::otherwise l = (last_depth (option_map (λ v. v.items) l.last.now) + weight l.around.now.tops.now l.around.now.within.now) * 1180591620717411303424 + 27

abbrev pub decreases-workflows::run : goal.decreases-workflows::run
decreases-workflows::run l = (body_depth l.workflow.now + weight l.around.now.tops.now l.around.now.within.now) * 1180591620717411303424 + 33

abbrev pub decreases-workflows::statements_and_emits : goal.decreases-workflows::statements_and_emits
decreases-workflows::statements_and_emits l = (body_depth l.workflow.now + weight l.around.now.tops.now l.around.now.within.now) * 1180591620717411303424 + 32

abbrev pub decreases-workflows::emits : goal.decreases-workflows::emits
decreases-workflows::emits l = (section_depth l.emits.now + weight l.around.now.tops.now l.around.now.within.now) * 1180591620717411303424 + 31

abbrev pub decreases-workflows::each_emit : goal.decreases-workflows::each_emit
decreases-workflows::each_emit l = (emits_depth l.emits.now + weight l.around.now.tops.now l.around.now.within.now) * 1180591620717411303424 + 30

abbrev pub decreases-workflows::emit : goal.decreases-workflows::emit
decreases-workflows::emit l = (emit_depth l.emit.now + weight l.around.now.tops.now l.around.now.within.now) * 1180591620717411303424 + 29

abbrev pub invariant-exprs::items-loop-item : goal.invariant-exprs::items-loop-item
invariant-exprs::items-loop-item l = Leads (part_of (around_of l.around) (views l.items)).items (or_more l.is_unknown (part_of (around_of l.around) (views (drop l.item-index l.items))).items) l.initial.state l.state

abbrev pub invariant-exprs::operands-loop-operand : goal.invariant-exprs::operands-loop-operand
invariant-exprs::operands-loop-operand l = Stands (after_operands (around_of l.around) (rest (around_of l.around) l.fn.first) (map view_operand l.rest)) (after_operands (around_of l.around) (rest (around_of l.around) l.so_far) (map view_operand (drop l.operand-index l.rest))) l.initial.state l.state

abbrev pub invariant-exprs::pairs-loop-pair : goal.invariant-exprs::pairs-loop-pair
invariant-exprs::pairs-loop-pair l = Leads (part_of (around_of l.around) (trees (map view_pair l.pairs))).items (or_more l.is_unknown (part_of (around_of l.around) (trees (map view_pair (drop l.pair-index l.pairs)))).items) l.initial.state l.state

abbrev pub invariant-exprs::template-loop-piece : goal.invariant-exprs::template-loop-piece
invariant-exprs::template-loop-piece l = Leads (part_of (around_of l.around) (trees (map view_piece l.pieces))).items (or_more l.is_unknown (part_of (around_of l.around) (trees (map view_piece (drop l.piece-index l.pieces)))).items) l.initial.state l.state

abbrev pub invariant-exprs::turns-loop-left : goal.invariant-exprs::turns-loop-left
invariant-exprs::turns-loop-left l = record {
  reads : IsRead (around_of l.around) (chain_of (view l.fn.first) (map view_branch l.fn.rest)) l.so_far (map view_branch l.left) l.fn.state l.state;
  left : IsLeft l.left l.fn.rest;
}

abbrev pub decreases-exprs::turns-loop-left : goal.decreases-exprs::turns-loop-left
decreases-exprs::turns-loop-left l = length l.left

abbrev pub invariant-parts::args-loop-one : goal.invariant-parts::args-loop-one
invariant-parts::args-loop-one l = Leads (all_given (part_of (around_of l.around) (trees (map view_arg l.list))).arguments) (with_more l.given.items (all_given (part_of (around_of l.around) (trees (map view_arg (drop l.one-index l.list)))).arguments)) l.initial.state l.state

abbrev pub invariant-parts::parts-loop-part : goal.invariant-parts::parts-loop-part
invariant-parts::parts-loop-part l = Stands (after_parts (around_of l.around) (rest (around_of l.around) l.fn.first) (map view_postfix l.rest)) (after_parts (around_of l.around) (rest (around_of l.around) l.so_far) (map view_postfix (drop l.part-index l.rest))) l.initial.state l.state

abbrev pub invariant-stmts::body-loop-one : goal.invariant-stmts::body-loop-one
invariant-stmts::body-loop-one l = Leads (part_of (around_of l.around) (view_stmts l.stmts)).body (part_of (around_of l.around) (view_stmts (drop l.one-index l.stmts))).body l.initial.state l.state

abbrev pub invariant-workflows::each_emit-loop-one : goal.invariant-workflows::each_emit-loop-one
invariant-workflows::each_emit-loop-one l = Leads (emitted (around_of l.around) (trees (map view_emit l.emits))) (with_more l.outputs.items (emitted (around_of l.around) (trees (map view_emit (drop l.one-index l.emits))))) l.initial.state l.state
