use Rattle.std.proofs.Common.{◌≡◌, map, rules, List, ◌-◌, [], ◌∷◌, ◌++◌, false, sym, ap, ◌∙◌, drop, take, length, arith, ◌<◌, refl, subst, true, ◌||◌, ◌==◌, None, if◌then◌else◌, Some, option_map, IfOk, suc, ◌+◌, ◌*◌, ◌≤◌, max, Bool}
use Rattle.nf_ast.specs.Tops.{view_top, view_workflow_body, view_emit}
use Rattle.nf_ast.specs.View.{trees, view_operand, BranchTree, view, view_branch, view_closure, views, view_piece, view_pair, view_postfix, operands, conditional, postfix, prefixes, view_arg, with_name, ArmTree, choice as choice_tree, last_arm, view_arm, view_stmt, view_stmts, names}
use Rattle.nf_slips.specs.Definitions.{definition_in}
use Rattle.nf_order.specs.declared.around.State.{State}
use Rattle.nf_order.proofs.Entering.{called_as, called_head, in_if, unknown_there, task_at_head, name_at_head, statements_alone, not_among}
use Rattle.nf_builtins.specs.Natives.{is_among}
use Rattle.nf_kinds.specs.declared.args.Given.{Given}
use Rattle.nf_opkinds.specs.Operators.{Call}
use Rattle.nf_order.specs.Accepted.{around, ended, entered_with, emitted, emitted_one, taken_with}
use Rattle.nf_slips.specs.Definitions.{taken_by}
use Rattle.nf_kinds.specs.Scope.{started}
use Rattle.nf_order.specs.Standing.{outputs_by}
use Rattle.nf_order.specs.Standing.{led_from, around_of, after_operands, rest, Gives, Stands, plain_subject, uncalled, chain_of, IsRead, after_operand, option_name, call_now, after_parts, IsCalledBy, after_index, is_task}
use Rattle.nf_order.proofs.Walks.{ended_broken, if_ok, maps}
use Rattle.nf_order.proofs.Ways.{either_gives}
use Rattle.nf_order.proofs.Chaining.{operands_step, infix_result, postfix_result, prefix_some, same_result, joined_stands, no_pipe, operand_as, piped_stands, parts_step}
use Rattle.std.proofs.lemmas.List.{nil_from_length}
use Rattle.nf_ast.specs.declared.expr.Expr.{the_lemmas, size-Expr}
use Rattle.nf_order.proofs.Arms.{second_none, second_result, turns_some, arms_result, turn_elvis, turned_as, left_on, read_as, read_goes, arms_turn, choice_stands, define_all_gives}
use Rattle.nf_order.proofs.Rows.{first_of, row_step}
use Rattle.nf_kinds.specs.Kinds.{alone, plain_unless, merged, unknown_kind}
use Rattle.nf_order.specs.Parts.{part_of, handed, of_safe_property, all_given, of_call, index_kind, indexed, of_property, in_braces, bound_or_free, either_way, head_of, value_or_call}
use Rattle.nf_order.proofs.Calling.{here, is_result, is_subject, rest_uncalled, rest_result, member_stands, args_stand, index_stands, result_member}
use Rattle.nf_order.proofs.Expressions.{closure_stands, of_tree, row_stands, done_on, argument_as, emitted_as}
use Rattle.nf_ast.specs.declared.operators.BranchOperator.{BranchOperator}
use Rattle.nf_kinds.specs.declared.kinds.Kinds.{Kinds}
use Rattle.nf_kinds.specs.Scope.{after_both, given_kind, is_half_bound}
use Rattle.nf_ast.specs.declared.operators.InfixOperator.{InfixOperator}
use Rattle.nf_ast.specs.Tree.{empty}
use Rattle.nf_slips.specs.Forms.{form_of, facts_of, is_expression, name_of}
use Rattle.nf_kinds.specs.Walk.{came, after, gives}
use Rattle.nf_order.specs.Callees.{call_of}
use Rattle.std.proofs.lemmas.Result.{on_ok_weaker}
use denote.Param.Weighed.{most}
use Rattle.nf_ast.specs.declared.expr.Branch.{size-Branch}
use Rattle.nf_ast.specs.declared.expr.Arm.{size-Arm}
use Rattle.nf_ast.specs.declared.expr.Stmt.{size-Stmt}
use Rattle.nf_slips.specs.Memory.{body_depth, depth, emit_depth, emits_depth, section_depth, weight}
use Rattle.nf_order.proofs.Ending.{arm_weighs, choice_weighs, depth_is, emit_at, last_depth}
use Rattle.nf_slips.specs.Definitions as definition
use Rattle.nf_ast.specs.Tree as tree
use Rattle.nf_order.specs.declared.subject.Head.TheVariants as heads
use Rattle.nf_ast.specs.declared.operators.BranchOperator.TheVariants as branch
use Rattle.nf_ast.specs.declared.operators.InfixOperator.TheVariants as infix_operator
use Rattle.nf_order.proofs.+judge.Goals as goal

pub calls::call-returns-in-Nothing : goal.calls::call-returns-in-Nothing
calls::call-returns-in-Nothing t0 c =
    let n = c.args.name.now in
    let d : definition.nothing ≡ definition_in n (trees (map view_top c.args.around.now.tops.now)) = search rules in
    called_as c.args.around.now c.args.place n c.args.args.items definition.nothing c.undefined.result c.args.state.now c.undefined.new.state d c.undefined.ensures

pub calls::call-returns-in_ok-names-in-Process : goal.calls::call-returns-in_ok-names-in-Process
calls::call-returns-in_ok-names-in-Process t0 c =
    let n = c.args.name.now in
    let ns = c.in_ok-names-in-Process.names.items in
    let xs = c.deref-in-Process.result.now in
    let new : State = record { scope = c.process_call.new.scope; broken = c.process_call.new.broken } in
    let d : definition.process ns ≡ definition_in n (trees (map view_top c.args.around.now.tops.now)) = search rules in
    let same : xs ≡ c.args.args.items = search rules in
    subst (λ (gs : List Given). IfOk c.process_call.result (λ v. Gives (call_of ((around_of c.args.around.now).callee n) c.args.place n gs) c.args.state.now v new)) same
    (called_as c.args.around.now c.args.place n xs (definition.process ns) c.process_call.result c.args.state.now new d c.process_call.ensures)

pub calls::entered-returns-clause-gives : goal.calls::entered-returns-clause-gives
calls::entered-returns-clause-gives t0 c =
    let r = c.args.around.now in
    let tops = trees (map view_top r.tops.now) in
    let fs = r.unknown.now in
    let ws = r.within.now in
    let n = c.args.name.now in
    let b = view_workflow_body c.args.workflow.now in
    let xs = c.args.args.now in
    let due = entered_with (around (r.left - 1) tops fs c.deref.result.now) b xs in
    let test : (r.left == 0 || is_among n ws) ≡ false = search rules in
    let named : c.deref.result.now ≡ ws ++ n ∷ [] = search rules in
    if_ok c.run.result (λ v. v ≡ due.gives) (λ v. v ≡ (led_from r n b xs).gives)
    (λ v e. e ∙ ap (λ us. (entered_with (around (r.left - 1) tops fs us) b xs).gives) named ∙ ap (λ (k : Call). k.gives) (sym (in_if r.left tops fs ws n b xs test))) c.run.ensures.gives

pub exprs::operands-loop-operand-preserved : goal.exprs::operands-loop-operand-preserved
exprs::operands-loop-operand-preserved t0 c =
    let a = around_of c.args.around.now in
    let xs = c.args.rest.now in
    operands_step a (after_operands a (rest a c.args.first) (map view_operand xs)) (rest a c.loop-operand.so_far) (rest a c.in_ok-so_far.so_far) xs c.loop-operand.operand-index c.operand-item.result c.args.state.now c.loop-operand.state c.with_operand.new.state c.loop-operand-test.true c.operand-item.is c.in_ok-so_far.ensures c.loop-operand.invariant

pub exprs::second_arm-returns-in-empty-clause-reads : goal.exprs::second_arm-returns-in-empty-clause-reads
exprs::second_arm-returns-in-empty-clause-reads t0 c =
    let none : length c.args.rest.now ≡ 0 = omega (arith, c.in-empty.len_below) in
    second_none (around_of c.args.around.now) (map view_branch c.args.rest.now) c.alone.result c.args.state.now (ap (map view_branch) (nil_from_length c.args.rest.now none)) (search rules)

pub exprs::second_arm-returns-in-len1-up-clause-reads : goal.exprs::second_arm-returns-in-len1-up-clause-reads
exprs::second_arm-returns-in-len1-up-clause-reads t0 c =
    let rest = c.args.rest.now in
    let x = c.branch-item.result in
    let more = map view_branch (take (length rest - 1) (drop 1 rest)) in
    let b : BranchTree = record { place = x.place; operator = x.operator; expr = view x.expr } in
    let seen : view_branch x ≡ b = search (rules, the_lemmas) in
    let is : map view_branch rest ≡ b ∷ more = ap (map view_branch) (first_of rest x (omega (arith, c.in-len1-up.len_at_least)) c.branch-item.is) ∙ ap (λ y. y ∷ more) seen in
    second_result (around_of c.args.around.now) (map view_branch rest) more b c.turn.result (λ y. y.0) (λ y. map view_branch y.1.now) c.args.state.now c.turn.new.state is c.requires.ends c.turn.ensures.reads

pub exprs::subject-returns-in_ok-template-in-Template : goal.exprs::subject-returns-in_ok-template-in-Template
exprs::subject-returns-in_ok-template-in-Template t0 c =
    let a = around_of c.args.around.now in
    let e = view c.args.expr.now in
    let old = c.args.state.now in
    let new = c.template.new.state in
    let u = c.in_ok-template-in-Template.field-0 in
    let ts = trees (map view_piece c.in-Template.pieces.items) in
    let t = tree.template c.in-Template.field-0 c.in-Template.field-1 ts in
    let is : e ≡ t = search (rules, the_lemmas) in
    let g : Gives (part_of a ts).items old u new = search rules in
    is_result a (part_of a e) (plain_subject u) c.plain_by.result old new (of_tree a t e (uncalled a (heads.Value (alone (plain_unless u)))) old new is (row_stands a t (part_of a ts).items u old new g)) c.plain_by.ensures

pub exprs::subject-returns-in_ok-first-in-Infix : goal.exprs::subject-returns-in_ok-first-in-Infix
exprs::subject-returns-in_ok-first-in-Infix t0 c =
    let a = around_of c.args.around.now in
    let e = view c.args.expr.now in
    let f = view c.in-Infix.first.value in
    let ts = map view_operand c.in-Infix.rest.items in
    let is : e ≡ operands f ts = search (rules, the_lemmas) in
    let s : Stands (part_of a f) (rest a c.in_ok-first-in-Infix.first) c.args.state.now c.subject-in-Infix.new.state = search rules in
    infix_result a e f ts (rest a c.in_ok-first-in-Infix.first) c.operands.result c.args.state.now c.subject-in-Infix.new.state c.operands.new.state is s (search rules)

pub exprs::subject-returns-in_ok-items-in-List : goal.exprs::subject-returns-in_ok-items-in-List
exprs::subject-returns-in_ok-items-in-List t0 c =
    let a = around_of c.args.around.now in
    let e = view c.args.expr.now in
    let old = c.args.state.now in
    let new = c.items.new.state in
    let u = c.in_ok-items-in-List.field-0 in
    let ts = views c.in-List.list.items in
    let t = tree.list c.in-List.field-0 ts in
    let is : e ≡ t = search (rules, the_lemmas) in
    let g : Gives (part_of a ts).items old u new = search rules in
    is_result a (part_of a e) (plain_subject u) c.plain_by-in-List.result old new (of_tree a t e (uncalled a (heads.Value (alone (plain_unless u)))) old new is (row_stands a t (part_of a ts).items u old new g)) c.plain_by-in-List.ensures

pub exprs::subject-returns-in_ok-pairs-in-Map : goal.exprs::subject-returns-in_ok-pairs-in-Map
exprs::subject-returns-in_ok-pairs-in-Map t0 c =
    let a = around_of c.args.around.now in
    let e = view c.args.expr.now in
    let old = c.args.state.now in
    let new = c.pairs.new.state in
    let u = c.in_ok-pairs-in-Map.field-0 in
    let ts = trees (map view_pair c.in-Map.list.items) in
    let t = tree.map c.in-Map.field-0 ts in
    let is : e ≡ t = search (rules, the_lemmas) in
    let g : Gives (part_of a ts).items old u new = search rules in
    is_result a (part_of a e) (plain_subject u) c.plain_by-in-Map.result old new (of_tree a t e (uncalled a (heads.Value (alone (plain_unless u)))) old new is (row_stands a t (part_of a ts).items u old new g)) c.plain_by-in-Map.ensures

pub exprs::subject-returns-in_ok-first-in-Postfix : goal.exprs::subject-returns-in_ok-first-in-Postfix
exprs::subject-returns-in_ok-first-in-Postfix t0 c =
    let a = around_of c.args.around.now in
    let e = view c.args.expr.now in
    let f = view c.in-Postfix.first.value in
    let ys = c.in-Postfix.rest.items in
    let is : e ≡ postfix f (map view_postfix ys) = search (rules, the_lemmas) in
    let s : Stands (part_of a f) (rest a c.in_ok-first-in-Postfix.first) c.args.state.now c.subject-in-Postfix.new.state = search rules in
    postfix_result a e f ys (rest a c.in_ok-first-in-Postfix.first) c.parts.result c.args.state.now c.subject-in-Postfix.new.state c.parts.new.state is s (search rules)

pub exprs::subject-returns-in_ok-closure_kinds-in-Closure : goal.exprs::subject-returns-in_ok-closure_kinds-in-Closure
exprs::subject-returns-in_ok-closure_kinds-in-Closure t0 c =
    let a = around_of c.args.around.now in
    let e = view c.args.expr.now in
    let old = c.args.state.now in
    let closure = c.in-Closure.closure in
    let new : State = record { scope = old.scope; broken = c.closure_kinds.new.broken } in
    let k = c.in_ok-closure_kinds-in-Closure.field-0 in
    let is : e ≡ view_closure closure = search (rules, the_lemmas) in
    let s : Stands (part_of a (view_closure closure)) (uncalled a (heads.Value (alone k))) old new = closure_stands a closure c.args.around.now.unknown.now k old new (unknown_there c.args.around.now) (search rules) refl (search rules) in
    is_subject a (part_of a e) (record { head = heads.Value (alone k); args = None }) c.of_kind.result old new (of_tree a (view_closure closure) e (uncalled a (heads.Value (alone k))) old new is s) (search rules)

pub exprs::subject-returns-in-empty : goal.exprs::subject-returns-in-empty
exprs::subject-returns-in-empty t0 c =
    let a = around_of c.args.around.now in
    let e = view c.args.expr.now in
    let f = view c.in-Prefix.of.value in
    let ms = c.in-Prefix.operators.items in
    let all : e ≡ prefixes ms f = search (rules, the_lemmas) in
    let same : length c.as_slice.result.now ≡ length ms = ap length c.as_slice.ensures.value in
    let none : length ms ≡ 0 = omega (arith, same, c.in-empty.len_below) in
    same_result a e f c.subject.result c.args.state.now c.subject.new.state (all ∙ ap (λ ns. prefixes ns f) (nil_from_length ms none)) (search rules)

pub exprs::subject-returns-in_ok-value-in-len1-up : goal.exprs::subject-returns-in_ok-value-in-len1-up
exprs::subject-returns-in_ok-value-in-len1-up t0 c =
    let a = around_of c.args.around.now in
    let e = view c.args.expr.now in
    let f = view c.in-Prefix.of.value in
    let ms = c.in-Prefix.operators.items in
    let old = c.args.state.now in
    let new = c.value.new.state in
    let v = c.in_ok-value-in-len1-up.field-0 in
    let all : e ≡ prefixes ms f = search (rules, the_lemmas) in
    let same : length c.as_slice.result.now ≡ length ms = ap length c.as_slice.ensures.value in
    let some : 0 < length ms = omega (arith, same, c.in-len1-up.len_at_least) in
    let g : Gives (part_of a f).thing old v new = search rules in
    is_result a (part_of a e) (plain_subject v.kinds.unknown) _ old new (of_tree a (prefixes ms f) e (uncalled a (heads.Value (alone (plain_unless v.kinds.unknown)))) old new all (prefix_some a ms f v old new some g)) (search rules)

pub exprs::subject-returns-in-empty-as_slice : goal.exprs::subject-returns-in-empty-as_slice
exprs::subject-returns-in-empty-as_slice t0 c =
    let a = around_of c.args.around.now in
    let e = view c.args.expr.now in
    let f = view c.in-Conditional.first.value in
    let ys = c.in-Conditional.rest.items in
    let all : e ≡ conditional [] f (map view_branch ys) = search (rules, the_lemmas) in
    let same : length c.as_slice-in-Conditional.result.now ≡ length ys = ap length c.as_slice-in-Conditional.ensures.value in
    let none : length ys ≡ 0 = omega (arith, same, c.in-empty-as_slice.len_below) in
    same_result a e f _ c.args.state.now _ (all ∙ ap (λ zs. conditional [] f (map view_branch zs)) (nil_from_length ys none)) (search rules)

pub exprs::subject-returns-in_ok-shape-in-len1-up-as_slice : goal.exprs::subject-returns-in_ok-shape-in-len1-up-as_slice
exprs::subject-returns-in_ok-shape-in-len1-up-as_slice t0 c =
    let a = around_of c.args.around.now in
    let e = view c.args.expr.now in
    let f = view c.in-Conditional.first.value in
    let ys = c.in-Conditional.rest.items in
    let old = c.args.state.now in
    let new = c.turns.new.state in
    let v = c.in_ok-shape-in-len1-up-as_slice.shape in
    let all : e ≡ conditional [] f (map view_branch ys) = search (rules, the_lemmas) in
    let same : length c.as_slice-in-Conditional.result.now ≡ length ys = ap length c.as_slice-in-Conditional.ensures.value in
    let some : 0 < length ys = omega (arith, same, c.in-len1-up-as_slice.len_at_least) in
    let g : Gives (part_of a (conditional [] f (map view_branch ys))).thing old v new = search rules in
    is_subject a (part_of a e) (record { head = heads.Value v; args = None }) c.of-in-len1-up-as_slice.result old new (of_tree a (conditional [] f (map view_branch ys)) e (uncalled a (heads.Value v)) old new all (turns_some a f ys v old new some g)) (search rules)

pub exprs::turn-returns-in-Elvis-clause-reads : goal.exprs::turn-returns-in-Elvis-clause-reads
exprs::turn-returns-in-Elvis-clause-reads t0 c =
    let a = around_of c.args.around.now in
    let e = view c.args.first.now in
    let rest = c.args.rest.now in
    let x = c.branch-item.result in
    let more = map view_branch (take (length rest - 1) (drop 1 rest)) in
    let b : BranchTree = record { place = x.place; operator = branch.Elvis; expr = view x.expr } in
    let seen : view_branch x ≡ record { place = x.place; operator = x.operator; expr = view x.expr } = search (rules, the_lemmas) in
    let is : map view_branch rest ≡ b ∷ more = ap (map view_branch) (first_of rest x (omega (arith, c.in-len1-up.len_at_least)) c.branch-item.is) ∙ ap (λ (y : BranchTree). y ∷ more) (seen ∙ ap (λ (k : BranchOperator). record { place = x.place; operator = k; expr = view x.expr }) c.in-Elvis.is) in
    let v = c.in_ok-left.left in
    let w = c.in_ok-right-in-Elvis.right in
    let ls = map view_branch c.in_ok-right-in-Elvis.more.now in
    let plain : c.plain_of.result ≡ alone (plain_unless (v.kinds.unknown || w.kinds.unknown)) = search rules in
    turned_as a e (map view_branch rest) (b ∷ more) ls c.plain_of.result (alone (plain_unless (v.kinds.unknown || w.kinds.unknown))) c.args.state.now c.turn.new.state is plain
    (turn_elvis a x.place e (view x.expr) more ls v w c.args.state.now c.value.new.state c.turn.new.state c.in_ok-left.ensures.gives c.in_ok-right-in-Elvis.ensures.reads)

pub exprs::turn-returns-in-Then-clause-reads : goal.exprs::turn-returns-in-Then-clause-reads
exprs::turn-returns-in-Then-clause-reads t0 c =
    let a = around_of c.args.around.now in
    let e = view c.args.first.now in
    let rest = c.args.rest.now in
    let x = c.branch-item.result in
    let more = map view_branch (take (length rest - 1) (drop 1 rest)) in
    let b : BranchTree = record { place = x.place; operator = branch.Then; expr = view x.expr } in
    let seen : view_branch x ≡ record { place = x.place; operator = x.operator; expr = view x.expr } = search (rules, the_lemmas) in
    let is : map view_branch rest ≡ b ∷ more = ap (map view_branch) (first_of rest x (omega (arith, c.in-len1-up.len_at_least)) c.branch-item.is) ∙ ap (λ (y : BranchTree). y ∷ more) (seen ∙ ap (λ (k : BranchOperator). record { place = x.place; operator = k; expr = view x.expr }) c.in-Then.is) in
    let v = c.in_ok-left.left in
    let kinds : v.kinds ≡ c.kinds.result = search rules in
    arms_result a e (map view_branch rest) more x.place (view x.expr) v c.kinds.result c.two_arms.result (λ z. z.0) (λ z. map view_branch z.1.now) c.args.state.now c.value.new.state c.two_arms.new.state is kinds c.in_ok-left.ensures.gives c.two_arms.ensures.reads

pub exprs::turns-loop-left-preserved : goal.exprs::turns-loop-left-preserved
exprs::turns-loop-left-preserved t0 c =
    let a = around_of c.args.around.now in
    let at = c.loop-left.left.now in
    let x = c.branch-item.result in
    let more = map view_branch (take (length at - 1) (drop 1 at)) in
    let b : BranchTree = record { place = x.place; operator = x.operator; expr = view x.expr } in
    let seen : view_branch x ≡ b = search (rules, the_lemmas) in
    let is : map view_branch at ≡ b ∷ more = ap (map view_branch) (first_of at x (omega (arith, c.in-len1-up.len_at_least)) c.branch-item.is) ∙ ap (λ (y : BranchTree). y ∷ more) seen in
    let v = c.loop-left.so_far in
    let w = c.in_ok-next.next in
    let ls = map view_branch c.in_ok-next.after.now in
    let chain = chain_of (view c.args.first.now) (map view_branch c.args.rest.now) in
    let plain : c.plain_of-so_far.result ≡ alone (plain_unless (v.kinds.unknown || w.kinds.unknown)) = search rules in
    let before : IsRead a chain v (b ∷ more) c.args.state.now c.loop-left.state = subst (λ (ms : List BranchTree). IsRead a chain v ms c.args.state.now c.loop-left.state) is c.loop-left.invariant.reads in
    record {
      reads = read_as a chain ls ls c.plain_of-so_far.result (alone (plain_unless (v.kinds.unknown || w.kinds.unknown))) c.args.state.now c.turn-in-len1-up.new.state refl plain
          (read_goes a chain b more ls v w c.args.state.now c.loop-left.state c.turn-in-len1-up.new.state before c.in_ok-next.ensures.reads);
      left = left_on c.in_ok-next.after.now at c.args.rest.now c.in_ok-next.ensures.left c.loop-left.invariant.left;
    }

pub exprs::two_arms-returns-clause-reads : goal.exprs::two_arms-returns-clause-reads
exprs::two_arms-returns-clause-reads t0 c = λ p e k first is g.
    let old = c.args.state.now in
    let mid = c.turn.new.state in
    let late = c.second_arm.new.state in
    let start : State = record { scope = c.replace-ended.new.dest; broken = mid.broken } in
    let new : State = record { scope = c.merge.new.self; broken = late.broken } in
    let one = c.in_ok-one.one in
    let other = c.in_ok-other.other in
    let from : start.scope ≡ old.scope = search rules in
    let both : new.scope ≡ after_both mid.scope late.scope = search rules in
    let v : c.in_ok-either_arm.field-0 ≡ (if c.args.condition.unknown then alone unknown_kind else merged one other) = search rules in
    arms_turn (around_of c.args.around.now) p e (view c.args.first.now) (map view_branch c.args.rest.now) (map view_branch c.in_ok-one.rest.now) (map view_branch c.in_ok-other.rest.now) k one other c.in_ok-either_arm.field-0 c.args.condition first old mid start late new is g c.in_ok-one.ensures.reads from refl c.in_ok-other.ensures.reads both refl v

pub exprs::value-returns-clause-done : goal.exprs::value-returns-clause-done
exprs::value-returns-clause-done t0 c =
    let a = around_of c.args.around.now in
    let p = part_of a (view c.args.expr.now) in
    let x = c.in_ok-subject.subject in
    let s : Stands p (rest a x) c.args.state.now c.subject.new.state = search rules in
    done_on a p x c.settle.result c.args.state.now c.subject.new.state c.settle.new.state s c.settle.ensures

pub exprs::with_operand-returns-in_ok-shape-in-Pipe : goal.exprs::with_operand-returns-in_ok-shape-in-Pipe
exprs::with_operand-returns-in_ok-shape-in-Pipe t0 c =
    let a = around_of c.args.around.now in
    let old = c.args.state.now in
    let new = c.pipe_to.new.state in
    let x = c.args.operand.now in
    let p = rest a c.args.before in
    let v = c.in_ok-left-in-Pipe.left in
    let r = rest a c.in_ok-right-in-Pipe.right in
    let w = c.in_ok-shape-in-Pipe.shape in
    let seen : view_operand x ≡ tree.binary x.place x.operator empty (view x.expr) = search (rules, the_lemmas) in
    let is : view_operand x ≡ tree.binary x.place infix_operator.Pipe empty (view x.expr) = seen ∙ ap (λ (k : InfixOperator). tree.binary x.place k empty (view x.expr)) c.in-Pipe.is in
    let first : Gives p.head old v c.pipe_first.new.state = search rules in
    let second : Stands (part_of a (view x.expr)) r c.pipe_first.new.state c.subject.new.state = search rules in
    let last : Gives (r.piped (handed v)) c.subject.new.state w new = search rules in
    is_subject a (after_operand a p (view_operand x)) (record { head = heads.Value w; args = None }) c.of.result old new
    (operand_as a p (uncalled a (heads.Value w)) (view_operand x) (tree.binary x.place infix_operator.Pipe empty (view x.expr)) old new is
    (piped_stands a p r (part_of a (view x.expr)) empty v w old c.pipe_first.new.state c.subject.new.state new first second last))
    c.of.ensures

pub exprs::with_operand-returns-in_ok-right-in_default : goal.exprs::with_operand-returns-in_ok-right-in_default
exprs::with_operand-returns-in_ok-right-in_default t0 c =
    let a = around_of c.args.around.now in
    let old = c.args.state.now in
    let new = c.value.new.state in
    let x = c.args.operand.now in
    let p = rest a c.args.before in
    let v = c.in_ok-left-in_default.left in
    let w = c.in_ok-right-in_default.right in
    let u = alone (plain_unless (v.kinds.unknown || w.kinds.unknown)) in
    let seen : view_operand x ≡ tree.binary x.place x.operator empty (view x.expr) = search (rules, the_lemmas) in
    let first : Gives p.thing old v c.settle.new.state = search rules in
    let second : Gives (part_of a (view x.expr)).thing c.settle.new.state w new = search rules in
    let plain : c.plain_of.result ≡ u = search rules in
    is_subject a (after_operand a p (view_operand x)) (record { head = heads.Value u; args = None }) c.of-in_default.result old new
    (operand_as a p (uncalled a (heads.Value u)) (view_operand x) (tree.binary x.place x.operator empty (view x.expr)) old new seen
    (joined_stands a x.operator p (part_of a (view x.expr)) empty v w old c.settle.new.state new (no_pipe x.operator c.in_default.not-Pipe) first second))
    (search rules)

pub parts::arg-returns : goal.parts::arg-returns
parts::arg-returns t0 c =
    let a = around_of c.args.around.now in
    let x = c.args.arg.now in
    let e = view x.value in
    let is : view_arg x ≡ with_name x.name e = search (rules, the_lemmas) in
    let known : is_expression e ≡ true = search rules in
    let g : Gives (part_of a e).thing c.args.state.now c.in_ok-shape.shape c.value.new.state = search rules in
    let named : c.in_ok-option.option ≡ option_name x.name = search rules in
    let told : c.in_ok-closure.closure ≡ facts_of (form_of e) = search rules in
    argument_as a (view_arg x) e x.name c.in_ok-shape.shape c.in_ok-option.option c.in_ok-closure.closure c.args.state.now c.value.new.state is known g named told

pub parts::callable-returns-in-None : goal.parts::callable-returns-in-None
parts::callable-returns-in-None t0 c = rest_uncalled (around_of c.args.around.now) c.args.before.head (option_map (λ v. v.items) c.args.before.args) c.args.state.now (search rules)

pub parts::callable-returns-in_ok-called-in-Some : goal.parts::callable-returns-in_ok-called-in-Some
parts::callable-returns-in_ok-called-in-Some t0 c =
    let a = around_of c.args.around.now in
    let v = c.in_ok-called-in-Some.field-0 in
    let is : option_map (λ v. v.items) c.args.before.args ≡ Some c.in-Some.args.items = search rules in
    let g : Gives (call_now a c.args.before.head c.in-Some.args.items) c.args.state.now v c.called.new.state = search rules in
    rest_result a c.args.before.head (option_map (λ v. v.items) c.args.before.args) c.in-Some.args.items v c.args.state.now c.called.new.state is g

pub parts::member_of-returns : goal.parts::member_of-returns
parts::member_of-returns t0 c =
    let a = around_of c.args.around.now in
    let w = (rest a c.args.before).thing in
    let v = c.in_ok-shape.shape in
    let g : Gives w c.args.state.now v c.settle.new.state = search rules in
    is_result a (of_safe_property empty (rest a c.args.before) c.args.place c.args.name.now) (record { head = heads.Member v c.args.place c.args.name.now; args = None }) c.member.result c.args.state.now c.settle.new.state
    (member_stands a w v c.args.place c.args.name.now c.args.state.now c.settle.new.state g) c.member.ensures

pub parts::parts-loop-part-preserved : goal.parts::parts-loop-part-preserved
parts::parts-loop-part-preserved t0 c =
    let a = around_of c.args.around.now in
    let xs = c.args.rest.now in
    parts_step a (after_parts a (rest a c.args.first) (map view_postfix xs)) (rest a c.loop-part.so_far) (rest a c.in_ok-so_far.so_far) xs c.loop-part.part-index c.part-item.result c.args.state.now c.loop-part.state c.with_part.new.state c.loop-part-test.true c.part-item.is c.in_ok-so_far.ensures c.loop-part.invariant

pub parts::with_args-returns : goal.parts::with_args-returns
parts::with_args-returns t0 c =
    let a = around_of c.args.around.now in
    let xs = (part_of a (trees (map view_arg c.args.list.now))).arguments in
    let p = rest a c.args.before in
    let h : IsCalledBy a p c.in_ok-head.head c.args.state.now c.callable.new.state = search rules in
    let g : Gives (all_given xs) c.callable.new.state c.in_ok-given.given.items c.args-2.new.state = search rules in
    is_subject a (of_call empty p xs) (record { head = c.in_ok-head.head; args = Some c.in_ok-given.given }) c.called.result c.args.state.now c.args-2.new.state
    (args_stand a p c.in_ok-head.head xs c.in_ok-given.given.items c.args.state.now c.callable.new.state c.args-2.new.state h g)
    c.called.ensures

pub parts::with_index-returns-then-kinds : goal.parts::with_index-returns-then-kinds
parts::with_index-returns-then-kinds t0 c =
    let a = around_of c.args.around.now in
    let old = c.args.state.now in
    let new = c.value.new.state in
    let p = rest a c.args.before in
    let i = view c.args.index.now in
    let v = c.in_ok-shape.shape in
    let k = c.in_ok-place.place in
    let e : Gives p.thing old v c.settle.new.state = search rules in
    let f : Gives (part_of a i).thing c.settle.new.state k new = search rules in
    let told : k.kinds.unknown ≡ true = search rules in
    let is : indexed i v k.kinds ≡ unknown_kind = ap (λ b. if b then unknown_kind else index_kind i v) told in
    is_subject a (after_index a p i) (record { head = heads.Value (alone unknown_kind); args = None }) c.of_kind.result old new
    (index_stands a p i v k unknown_kind old c.settle.new.state new e f is) (search rules)

pub parts::with_index-returns : goal.parts::with_index-returns
parts::with_index-returns t0 c =
    let a = around_of c.args.around.now in
    let old = c.args.state.now in
    let new = c.value.new.state in
    let p = rest a c.args.before in
    let i = view c.args.index.now in
    let v = c.in_ok-shape.shape in
    let k = c.in_ok-place.place in
    let e : Gives p.thing old v c.settle.new.state = search rules in
    let f : Gives (part_of a i).thing c.settle.new.state k new = search rules in
    let told : k.kinds.unknown ≡ false = search rules in
    let found : c.indexed.result ≡ index_kind i v = search rules in
    let is : indexed i v k.kinds ≡ c.indexed.result = ap (λ b. if b then unknown_kind else index_kind i v) told ∙ sym found in
    is_subject a (after_index a p i) (record { head = heads.Value (alone c.indexed.result); args = None }) c.of_kind-2.result old new
    (index_stands a p i v k c.indexed.result old c.settle.new.state new e f is) (search rules)

pub parts::with_member-returns-in_ok-shape-in-Some : goal.parts::with_member-returns-in_ok-shape-in-Some
parts::with_member-returns-in_ok-shape-in-Some t0 c =
    let a = around_of c.args.around.now in
    let h = c.args.before.head in
    let o = option_map (λ v. v.items) c.args.before.args in
    let gs = c.in-Some.args.items in
    let v = c.in_ok-shape-in-Some.shape in
    let is : o ≡ Some gs = search rules in
    let g : Gives (call_now a h gs) c.args.state.now v c.called.new.state = search rules in
    is_result a (of_property empty (rest a c.args.before) c.args.place c.args.name.now) (record { head = heads.Member v c.args.place c.args.name.now; args = None }) c.member.result c.args.state.now c.called.new.state
    (result_member a h o gs v c.args.place c.args.name.now c.args.state.now c.called.new.state is g) c.member.ensures

pub pipes::beside-returns : goal.pipes::beside-returns
pipes::beside-returns t0 c =
    let a = around_of c.args.around.now in
    let old = c.args.state.now in
    let new = c.settle.new.state in
    let l = c.args.left in
    let v = c.in_ok-right.right in
    let w = (rest a c.args.right).thing in
    let g : Gives w old v new = search rules in
    let is : c.plain_of.result ≡ alone (plain_unless (l.kinds.unknown || v.kinds.unknown)) = search rules in
    maps w (λ u. alone (plain_unless (l.kinds.unknown || u.kinds.unknown))) v old new g ∙ ap (λ u. came u new.scope new.broken.items) (sym is)

pub pipes::bound_name-returns : goal.pipes::bound_name-returns
pipes::bound_name-returns t0 c =
    let n = c.args.name.now in
    let v = c.args.shape in
    let w = head_of ((around_of c.args.around.now).callee n) c.args.place n in
    let old = c.args.state.now in
    let late = c.free_name.new.state in
    let new : State = record { scope = c.merge.new.self; broken = late.broken } in
    let x = c.in_ok-other.other in
    let half : is_half_bound n old.scope ≡ true = search rules in
    let second : Gives w old x late = search rules in
    let both : new.scope ≡ after_both old.scope late.scope = search rules in
    if_ok c.merged.result (λ z. z ≡ merged v x) (λ z. Gives (bound_or_free (is_half_bound n old.scope) (gives v) w) old z new)
    (λ z e. ap (λ b. after old.broken.items (bound_or_free b (gives v) w old.scope)) half ∙ either_gives (gives v) w v x z old old old late new (here v old) refl refl second both refl e) (search rules)

pub pipes::free_name-returns-then-is_task : goal.pipes::free_name-returns-then-is_task
pipes::free_name-returns-then-is_task t0 c =
    let n = c.args.name.now in
    let old = c.args.state.now in
    let task : is_task (definition_in n (trees (map view_top c.args.around.now.tops.now))) ≡ true = search rules in
    let value : c.given_kinds-value.result ≡ given_kind n = search rules in
    let new = c.value_or_call.new.state in
    let g : IfOk c.value_or_call.result (λ v. Gives (called_head ((around_of c.args.around.now).callee n) c.args.place n) old v new) =
    subst (λ (k : Kinds). IfOk c.value_or_call.result (λ v. Gives (value_or_call k.plain (alone k) (call_of ((around_of c.args.around.now).callee n) c.args.place n [])) old v new)) value (search rules) in
    task_at_head c.args.around.now c.args.place n c.value_or_call.result old new task g

pub pipes::value_or_call-returns-then-not-is_value : goal.pipes::value_or_call-returns-then-not-is_value
pipes::value_or_call-returns-then-not-is_value t0 c =
    let v = alone c.args.value in
    let w = call_of ((around_of c.args.around.now).callee c.args.name.now) c.args.place c.args.name.now c.args.args.items in
    let off : c.args.is_value ≡ false = search rules in
    let g : IfOk c.call.result (λ x. Gives w c.args.state.now x c.call.new.state) = search rules in
    subst (λ (b : Bool). IfOk c.call.result (λ x. Gives (value_or_call b v w) c.args.state.now x c.call.new.state)) (sym off) g

pub pipes::value_or_call-returns : goal.pipes::value_or_call-returns
pipes::value_or_call-returns t0 c =
    let v = alone c.args.value in
    let w = call_of ((around_of c.args.around.now).callee c.args.name.now) c.args.place c.args.name.now c.args.args.items in
    let old = c.args.state.now in
    let late = c.call-2.new.state in
    let new : State = record { scope = c.merge.new.self; broken = late.broken } in
    let x = c.in_ok-called.called in
    let on : c.args.is_value ≡ true = search rules in
    let second : Gives w old x late = search rules in
    let both : new.scope ≡ after_both old.scope late.scope = search rules in
    let g : IfOk c.merged.result (λ z. Gives (either_way (gives v) w) old z new) =
    if_ok c.merged.result (λ z. z ≡ merged v x) (λ z. Gives (either_way (gives v) w) old z new)
    (λ z e. either_gives (gives v) w v x z old old old late new (here v old) refl refl second both refl e) (search rules) in
    subst (λ (b : Bool). IfOk c.merged.result (λ z. Gives (value_or_call b v w) old z new)) (sym on) g

pub pipes::free_name-returns : goal.pipes::free_name-returns
pipes::free_name-returns t0 c =
    let n = c.args.name.now in
    let task : is_task (definition_in n (trees (map view_top c.args.around.now.tops.now))) ≡ false = search rules in
    name_at_head c.args.around.now c.args.place n c.alone.result c.args.state.now task (search rules)

pub stmts::choice-returns-in_ok-choice-in-len1-up : goal.stmts::choice-returns-in_ok-choice-in-len1-up
stmts::choice-returns-in_ok-choice-in-len1-up t0 c =
    let a = around_of c.args.around.now in
    let old = c.args.state.now in
    let arms = c.args.arms.now in
    let x = c.arm-item.result in
    let more = map view_arm (take (length arms - 1) (drop 1 arms)) in
    let last = last_arm (option_map (λ v. map view_stmt v.items) c.args.last.now) in
    let e = view x.condition in
    let b = view_stmts x.body.items in
    let y : ArmTree = record { place = x.place; condition = e; body = b } in
    let seen : view_arm x ≡ y = search (rules, the_lemmas) in
    let is : map view_arm arms ≡ y ∷ more = ap (map view_arm) (first_of arms x (omega (arith, c.in-len1-up.len_at_least)) c.arm-item.is) ∙ ap (λ (z : ArmTree). z ∷ more) seen in
    let mid = c.value.new.state in
    let armed = c.block.new.state in
    let late = c.choice.new.state in
    let start : State = record { scope = c.replace-ended.new.dest; broken = armed.broken } in
    let new : State = record { scope = c.merge.new.self; broken = late.broken } in
    let first : Gives (part_of a e).thing old c.in_ok-value-in-len1-up.field-0 mid = search rules in
    let inner : Gives (in_braces (part_of a b).body) mid tt armed = search rules in
    let from : start.scope ≡ mid.scope = search rules in
    let rest : Gives (part_of a (choice_tree more last)).done start tt late = search rules in
    on_ok_weaker c.merge.result (λ s.
    ap (λ t. after old.broken.items ((part_of a (choice_tree t last)).done old.scope)) is
    ∙ choice_stands a x.place e b (choice_tree more last) c.in_ok-value-in-len1-up.field-0 old mid armed start late new first inner from refl rest s refl) (search rules)

pub stmts::stmt-returns-in_ok-shape-in-DefineAll : goal.stmts::stmt-returns-in_ok-shape-in-DefineAll
stmts::stmt-returns-in_ok-shape-in-DefineAll t0 c =
    let a = around_of c.args.around.now in
    let p = c.in-DefineAll.field-0 in
    let ns = c.in-DefineAll.names.items in
    let e = view c.in-DefineAll.expr in
    let v = c.in_ok-shape-in-DefineAll.shape in
    let mid = c.value-in-DefineAll.new.state in
    let new : State = record { scope = c.define_all.new.self; broken = mid.broken } in
    let is : view_stmt c.args.stmt.now ≡ tree.define_all p (names ns) e = search (rules, the_lemmas) in
    let g : Gives (part_of a e).thing c.args.state.now v mid = search rules in
    let k = plain_unless v.kinds.unknown in
    on_ok_weaker c.define_all.result (λ s. define_all_gives a p (view_stmt c.args.stmt.now) e ns v k c.args.state.now mid new is g refl s refl) (search rules)

pub workflows::each_emit-loop-one-preserved : goal.workflows::each_emit-loop-one-preserved
workflows::each_emit-loop-one-preserved t0 c =
    let a = around_of c.args.around.now in
    let x = c.one-item.result in
    let o = c.in_ok-output.output in
    let g : Gives (emitted_one a (view_emit x)) c.loop-one.state o c.emit.new.state = search rules in
    row_step (λ ys. emitted a (trees (map view_emit ys))) (emitted_one a (view_emit x)) c.args.emits.now c.loop-one.one-index x c.loop-one.outputs.items c.push.new.self.items o c.args.state.now c.loop-one.state c.emit.new.state c.loop-one-test.true c.one-item.is refl g (search rules) c.loop-one.invariant

pub workflows::emit-returns-in_ok-name_of-in-Alone : goal.workflows::emit-returns-in_ok-name_of-in-Alone
workflows::emit-returns-in_ok-name_of-in-Alone t0 c =
    let a = around_of c.args.around.now in
    let e = view c.in-Alone.expr in
    let v = c.in_ok-shape-in-Alone.shape in
    let n = c.in_ok-name_of-in-Alone.field-0 in
    let new = c.value-in-Alone.new.state in
    let is : view_emit c.args.emit.now ≡ e = search rules in
    let known : is_expression e ≡ true = search rules in
    let named : n ≡ name_of (form_of e) = search rules in
    let g : Gives (part_of a e).thing c.args.state.now v new = search rules in
    emitted_as a (view_emit c.args.emit.now) e n v _ c.args.state.now new is known named (search rules) g

pub workflows::statements_and_emits-returns-in_ok-body-in-Statements : goal.workflows::statements_and_emits-returns-in_ok-body-in-Statements
workflows::statements_and_emits-returns-in_ok-body-in-Statements t0 c =
    let a = around_of c.args.around.now in
    let ts = map view_stmt c.in-Statements.stmts.items in
    let new = c.body.new.state in
    let is : view_workflow_body c.args.workflow.now ≡ trees ts = search rules in
    let g : Gives (part_of a (trees ts)).body c.args.state.now tt new = search rules in
    statements_alone a (view_workflow_body c.args.workflow.now) ts c.args.state.now new is g
    ∙ ap (λ os. came os new.scope new.broken.items) (sym c.new.ensures.items)

pub calls::entered-run-requires : goal.calls::entered-run-requires
calls::entered-run-requires t0 c =
    let r = c.args.around.now in
    let n = c.args.name.now in
    let ws = c.deref.result.now in
    let free : is_among n r.within.now ≡ false = not_among r.left (is_among n r.within.now) (sym c.leads_back.ensures ∙ c.if-leads_back.false) in
    let low : suc (body_depth c.args.workflow.now) + weight r.tops.now (r.within.now ++ n ∷ []) ≤ weight r.tops.now r.within.now = c.requires.lighter free in
    let named : weight r.tops.now ws ≡ weight r.tops.now (r.within.now ++ n ∷ []) = ap (weight r.tops.now) (c.deref.ensures.value ∙ c.in_ok-within.ensures) in
    let falls : (body_depth c.args.workflow.now + weight r.tops.now ws) * 1180591620717411303424 + 33 < t0 = omega (arith, low, named, c.decreases) in
    (falls, tt)

pub workflows::statements_and_emits-body-requires : goal.workflows::statements_and_emits-body-requires
workflows::statements_and_emits-body-requires t0 c =
    let r = c.args.around.now in
    let xs = c.deref.result.now in
    let there : most size-Stmt xs ≡ depth c.in-Statements.stmts.items = depth_is xs ∙ ap depth c.deref.ensures.value in
    let whole : body_depth c.args.workflow.now ≡ depth c.in-Statements.stmts.items = ap body_depth c.in-Statements.is in
    let falls : (most size-Stmt xs + weight r.tops.now r.within.now) * 1180591620717411303424 + 25 < t0 = omega (arith, there, whole, c.decreases) in
    (falls, tt)

pub workflows::statements_and_emits-body-requires-in-Parts : goal.workflows::statements_and_emits-body-requires-in-Parts
workflows::statements_and_emits-body-requires-in-Parts t0 c =
    let r = c.args.around.now in
    let xs = c.deref-in-Parts.result.now in
    let p = c.in-Parts.parts in
    let there : most size-Stmt xs ≡ depth p.main.body.items = depth_is xs ∙ ap depth c.deref-in-Parts.ensures.value in
    let whole : body_depth c.args.workflow.now ≡ max (depth p.main.body.items) (section_depth p.emit) = ap body_depth c.in-Parts.is in
    let falls : (most size-Stmt xs + weight r.tops.now r.within.now) * 1180591620717411303424 + 25 < t0 = omega (arith, there, whole, c.decreases) in
    (falls, tt)

pub workflows::statements_and_emits-emits-requires : goal.workflows::statements_and_emits-emits-requires
workflows::statements_and_emits-emits-requires t0 c =
    let r = c.args.around.now in
    let p = c.in-Parts.parts in
    let whole : body_depth c.args.workflow.now ≡ max (depth p.main.body.items) (section_depth p.emit) = ap body_depth c.in-Parts.is in
    let falls : (section_depth p.emit + weight r.tops.now r.within.now) * 1180591620717411303424 + 31 < t0 = omega (arith, whole, c.decreases) in
    (falls, tt)

pub workflows::emits-each_emit-requires : goal.workflows::emits-each_emit-requires
workflows::emits-each_emit-requires t0 c =
    let r = c.args.around.now in
    let xs = c.deref.result.now in
    let there : emits_depth xs ≡ emits_depth c.in-Some.section.emits.items = ap emits_depth c.deref.ensures.value in
    let whole : section_depth c.args.emits.now ≡ emits_depth c.in-Some.section.emits.items = ap section_depth c.in-Some.is in
    let falls : (emits_depth xs + weight r.tops.now r.within.now) * 1180591620717411303424 + 30 < t0 = omega (arith, there, whole, c.decreases) in
    (falls, tt)

pub workflows::each_emit-emit-requires : goal.workflows::each_emit-emit-requires
workflows::each_emit-emit-requires t0 c =
    let r = c.args.around.now in
    let x = c.one-item.result in
    let at : emit_depth x ≤ emits_depth c.args.emits.now = emit_at c.args.emits.now c.loop-one.one-index x c.loop-one-test.true c.one-item.is in
    let falls : (emit_depth x + weight r.tops.now r.within.now) * 1180591620717411303424 + 29 < t0 = omega (arith, at, c.decreases) in
    (falls, tt)

pub workflows::emit-value-requires : goal.workflows::emit-value-requires
workflows::emit-value-requires t0 c =
    let r = c.args.around.now in
    let whole : emit_depth c.args.emit.now ≡ size-Expr c.in-Named.expr = ap emit_depth c.in-Named.is in
    let falls : (size-Expr c.in-Named.expr + weight r.tops.now r.within.now) * 1180591620717411303424 + 21 < t0 = omega (arith, whole, c.decreases) in
    (falls, tt)

pub workflows::emit-value-requires-in-Alone : goal.workflows::emit-value-requires-in-Alone
workflows::emit-value-requires-in-Alone t0 c =
    let r = c.args.around.now in
    let whole : emit_depth c.args.emit.now ≡ size-Expr c.in-Alone.expr = ap emit_depth c.in-Alone.is in
    let falls : (size-Expr c.in-Alone.expr + weight r.tops.now r.within.now) * 1180591620717411303424 + 21 < t0 = omega (arith, whole, c.decreases) in
    (falls, tt)

pub exprs::subject-turns-requires : goal.exprs::subject-turns-requires
exprs::subject-turns-requires t0 c =
    let r = c.args.around.now in
    let first = c.deref-in-len1-up-as_slice.result.now in
    let rest = c.deref-in-len1-up-as_slice-2.result.now in
    let p = c.in-Conditional in
    let deep : suc (max (size-Expr p.first.value) (most size-Branch p.rest.items)) ≤ size-Expr c.args.expr.now = subst (λ e. suc (max (size-Expr p.first.value) (most size-Branch p.rest.items)) ≤ size-Expr e) (sym p.is) (search (rules, the_lemmas)) in
    let same_first : size-Expr first ≡ size-Expr p.first.value = ap size-Expr c.deref-in-len1-up-as_slice.ensures in
    let same_rest : most size-Branch rest ≡ most size-Branch p.rest.items = ap (most size-Branch) c.deref-in-len1-up-as_slice-2.ensures.value in
    let long : length rest ≡ length p.rest.items = ap length c.deref-in-len1-up-as_slice-2.ensures.value in
    let falls : (max (size-Expr first) (most size-Branch rest) + weight r.tops.now r.within.now) * 1180591620717411303424 + length rest * 64 + 32 < t0 =
    omega (arith, deep, same_first, same_rest, long, p.rest.ok.0, p.rest.ok.1, p.rest.small, c.decreases) in
    (falls, tt)

pub stmts::stmt-choice-requires : goal.stmts::stmt-choice-requires
stmts::stmt-choice-requires t0 c =
    let r = c.args.around.now in
    let arms = c.deref-in-Choice.result.now in
    let p = c.in-Choice in
    let last = last_depth (option_map (λ v. v.items) p.last) in
    let deep : suc (max (most size-Arm p.arms.items) last) ≤ size-Stmt c.args.stmt.now = subst (λ s. suc (max (most size-Arm p.arms.items) last) ≤ size-Stmt s) (sym p.is) (choice_weighs p.arms p.last) in
    let same : most size-Arm arms ≡ most size-Arm p.arms.items = ap (most size-Arm) c.deref-in-Choice.ensures.value in
    let long : length arms ≡ length p.arms.items = ap length c.deref-in-Choice.ensures.value in
    let falls : (max (most size-Arm arms) last + weight r.tops.now r.within.now) * 1180591620717411303424 + length arms * 64 + 28 < t0 =
    omega (arith, deep, same, long, p.arms.ok.0, p.arms.ok.1, p.arms.small, c.decreases) in
    (falls, tt)

pub stmts::choice-block-requires : goal.stmts::choice-block-requires
stmts::choice-block-requires t0 c =
    let r = c.args.around.now in
    let arms = c.args.arms.now in
    let x = c.arm-item.result in
    let xs = c.deref.result.now in
    let more = take (length arms - 1) (drop 1 arms) in
    let all : arms ≡ x ∷ more = first_of arms x (omega (arith, c.in-len1-up.len_at_least)) c.arm-item.is in
    let top : most size-Arm arms ≡ max (size-Arm x) (most size-Arm more) = ap (most size-Arm) all in
    let inner : most size-Stmt x.body.items ≤ size-Arm x = arm_weighs x in
    let same : most size-Stmt xs ≡ most size-Stmt x.body.items = ap (most size-Stmt) c.deref.ensures.value in
    let falls : (most size-Stmt xs + weight r.tops.now r.within.now) * 1180591620717411303424 + 26 < t0 = omega (arith, top, inner, same, c.decreases) in
    (falls, tt)

pub workflows::run-returns-clause-broken : goal.workflows::run-returns-clause-broken
workflows::run-returns-clause-broken t0 c =
    let b = view_workflow_body c.args.workflow.now in
    let a = around_of c.args.around.now in
    let out = outputs_by a b (started (taken_with (taken_by b) c.args.args.now)) in
    let new = c.statements_and_emits.new.state in
    let old = c.args.broken.now.items in
    let g : after old out ≡ came c.in_ok-outputs.outputs.items new.scope new.broken.items = search rules in
    let all : new.broken.items ≡ old ++ (ended out).broken = ended_broken old out _ _ _ g in
    if_ok c.shape_of.result _ (λ v. new.broken.items ≡ old ++ (ended out).broken) (λ v e. all) c.shape_of.ensures
