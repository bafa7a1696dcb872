use Rattle.std.proofs.Common.{◌*◌, ◌≡◌, ◌∙◌, ℕ, List, [], map, Ok, Err, refl, sym, ap, subst, rules, ◌∷◌, ◌+◌, ◌++◌, suc, drop, Bool, arith, length, Result, true, false, ◌<◌, ◌-◌}
use Rattle.nf_value.specs.Plain.{Plain}
use Rattle.nf_value.specs.View.{plain_of, pair_of}
use Rattle.nf_ast.specs.declared.expr.Expr.{the_lemmas as expr_lemmas, Expr}
use Rattle.nf_ast.specs.Tree.{Tree}
use Rattle.nf_ast.specs.View.{view, views, view_operand, view_branch, view_postfix, prefixes, operands, conditional, postfix, view_piece, trees, framed, ended, applied, view_closure, view_arg, with_name, view_body, params_tree, view_stmt, view_stmts, view_arm, choice, names}
use Rattle.nf_placed.specs.Placed.{Evaluates, Placed, ◌>>=◌, made}
use Rattle.nf_placed.specs.Scope.{Env, Function, value_of, inside, with_names}
use Rattle.nf_eval.specs.Evaluation.{eval_of, meaning_of, matched, opening, body_of}
use Rattle.nf_eval.specs.Memory.{seen, held}
use Rattle.nf_eval.specs.Chains.{prefixed, going_on, closure_next, Stands, Comes, value_at, applied_at, callee_of, and_more}
use Rattle.nf_eval.specs.Turns.{nothing_waits}
use Rattle.nf_eval.proofs.Chaining.{prefixes_value, operands_value, chain_refused, name_stands, flat_stands, flat_refused, parts_refused, index_refused, place_refused, item_refused, item_stands, call_refused, nothing_stands, arguments_refused, call_waits, call_comes, ready, ready_first, with_value, that_block, called_at}
use Rattle.nf_eval.proofs.Evaluating.{refused, fault_first, value_first, same, refused_at}
use Rattle.nf_eval.proofs.Turning.{steps_refused, steps_fault}
use Rattle.nf_eval.proofs.Reached.{comes_refused}
use Rattle.nf_ast.specs.declared.expr.Fragment.{Fragment, the_lemmas as piece_lemmas}
use Rattle.nf_infix.specs.Template.{IsWritten, hole_text}
use Rattle.nf_eval.proofs.Lefts.{left_here, none_left}
use Rattle.nf_eval.proofs.Writing.{writes_on}
use Rattle.nf_eval.proofs.Gathering.{none_gathered, gathers_one}
use Rattle.nf_eval.proofs.+value.Goals.{values::text-in-Plain+in_ok-push-in-Plain, values::text-in-Hole+in_ok-value-in-Hole+in_ok-put_hole-in-Hole, calls::arguments-in-Some+in_ok-push-in-Some, calls::arguments-in-None}
use Rattle.std.proofs.lemmas.Bool.{false≢true}
use Rattle.std.specs.Prelude.{Option, Some, not, option_map}
use Rattle.nf_placed.specs.Body.{pattern_in, names_in, split, paired}
use Rattle.nf_ast.specs.declared.operators.BranchOperator.{BranchOperator}
use Rattle.nf_ast.specs.declared.expr.Branch.{Branch, the_lemmas as branch_lemmas}
use Rattle.nf_eval.specs.Shapes.{is_nil, is_flat, is_closure, block_of}
use Rattle.nf_eval.proofs.Shaping.{prefixes_none, prefixes_some, operands_none, operands_some, conditional_none, conditional_some, closure_argument, plain_argument, prefixes_closure, operands_closure, conditional_closure, postfix_closure}
use Rattle.nf_value.specs.declared.fault.EvalRefusal.{EvalRefusal}
use Rattle.nf_ast.specs.declared.expr.Postfix.{Postfix, the_lemmas as postfix_lemmas}
use Rattle.nf_eval.specs.declared.subjects.Subject.{Subject}
use Rattle.nf_infix.specs.Read.{index}
use Rattle.std.proofs.lemmas.List.{length-map}
use Rattle.nf_placed.specs.Calls.{called, images_of, plain, block, method, math, over_items, function, by_function}
use Rattle.nf_eval.proofs.Passing.{as_many, passed_refused, alone, no_values, one_more, none_before}
use Rattle.nf_ast.specs.declared.expr.ClosureExpr.{the_lemmas as closure_lemmas}
use Rattle.nf_value.specs.declared.value.Value.{Value}
use Rattle.nf_ast.specs.declared.expr.Arg.{Arg, the_lemmas as arg_lemmas}
use Rattle.nf_eval.specs.Gives.{Collects, IsPassed, Flows, Takes}
use Rattle.nf_eval.specs.Else.{else_of}
use Rattle.nf_eval.proofs.Collecting.{nothing_before, one_passed, collects_value, collects_block, sole_evaluates}
use Rattle.nf_eval.proofs.Blocking.{function_of_blocks, math_of_blocks, method_of_blocks, over_one, method_of_values, math_of_values, function_of_values}
use Rattle.nf_eval.proofs.Scripted.{depth_is, wrong_count, right_count, body_given, handed_on}
use Rattle.nf_eval.specs.Functions.{definitions_in, called_env, depth, depths}
use Rattle.nf_eval.specs.declared.around.Around.TheVariants as around
use Rattle.nf_ast.specs.declared.expr.Stmt.{size-Stmt}
use denote.Param.Weighed.{most}
use Rattle.nf_placed.specs.Blocks.{row_method}
use Rattle.nf_eval.specs.Latest.{names_of}
use Rattle.nf_eval.proofs.Running.{applied_is, goes_on, returns_from, stops_at, flows_refused, block_flows, block_refused}
use Rattle.nf_ast.specs.declared.expr.Stmt.{Stmt, the_lemmas as stmt_lemmas}
use Rattle.nf_eval.specs.declared.flow.Step.{Step}
use Rattle.nf_value.specs.declared.place.Place.{Place}
use Rattle.nf_ast.specs.declared.expr.Arm.{Arm, the_lemmas as arm_lemmas}
use Rattle.nf_eval.specs.declared.around.Around.{the_lemmas as around_lemmas}
use Rattle.nf_eval.proofs.Stating.{splits_all, arm_flows, arms_refused, flows_on}
use Rattle.nf_eval.proofs.Arms.{passed_by, gone_into, condition_refused, takes_step, takes_refused}
use Rattle.nf_ast.specs.Tree as tree
use Rattle.nf_eval.specs.declared.subjects.Subject.TheVariants as subject
use Rattle.nf_value.specs.declared.value.Value.TheVariants as some_value
use Rattle.nf_eval.proofs.+value.Goals as goal

pub values::value-returns-in_ok-value_seen-in-Name : goal.values::value-returns-in_ok-value_seen-in-Name
values::value-returns-in_ok-value_seen-in-Name g t0 c =
    let env = (seen c.args.around.now (g.N.Natives.titles c.args.natives.now) (g.N.Natives.answer c.args.natives.now)) in
    let is : view c.args.expr.now ≡ tree.name c.in-Name.field-0 c.in-Name.name = search (rules, expr_lemmas) in
    let name : c.as_str.result.now ≡ c.in-Name.name = search rules in
    let value = c.in_ok-value_seen-in-Name.ensures (g.N.Natives.titles c.args.natives.now) (g.N.Natives.answer c.args.natives.now) in
    ap (λ (t : Tree). eval_of t env) is ∙ ap (λ (v : Plain). Ok v) (ap (λ (n : List ℕ). value_of n env) (sym name) ∙ value)

pub values::value-returns-in_err-of-in-Prefix : goal.values::value-returns-in_err-of-in-Prefix
values::value-returns-in_err-of-in-Prefix g t0 c =
    let env = (seen c.args.around.now (g.N.Natives.titles c.args.natives.now) (g.N.Natives.answer c.args.natives.now)) in
    let operators = c.in-Prefix.operators.items in
    let a = view c.in-Prefix.of.value in
    let is : view c.args.expr.now ≡ prefixes operators a = search (rules, expr_lemmas) in
    let err : c.from_residual-in_err-of-in-Prefix.result ≡ Err c.in_err-of-in-Prefix.field-0.0 = search rules in
    let none : Evaluates (eval_of a env) (Err c.in_err-of-in-Prefix.field-0.0) = search rules in
    fault_first (eval_of (view c.args.expr.now) env) (eval_of a env) (prefixed operators) c.in_err-of-in-Prefix.field-0.0 c.from_residual-in_err-of-in-Prefix.result (ap (λ (t : Tree). eval_of t env) is ∙ prefixes_value operators a env) err none

pub values::value-returns-in_ok-of-in-Prefix : goal.values::value-returns-in_ok-of-in-Prefix
values::value-returns-in_ok-of-in-Prefix g t0 c =
    let env = (seen c.args.around.now (g.N.Natives.titles c.args.natives.now) (g.N.Natives.answer c.args.natives.now)) in
    let operators = c.in-Prefix.operators.items in
    let a = view c.in-Prefix.of.value in
    let is : view c.args.expr.now ≡ prefixes operators a = search (rules, expr_lemmas) in
    let value : eval_of a env ≡ Ok (plain_of c.in_ok-of-in-Prefix.of) = search rules in
    let rest : Evaluates (prefixed operators (plain_of c.in_ok-of-in-Prefix.of)) c.prefixed.result = search rules in
    value_first (eval_of (view c.args.expr.now) env) (eval_of a env) (prefixed operators) c.in_ok-of-in-Prefix.of c.prefixed.result (ap (λ (t : Tree). eval_of t env) is ∙ prefixes_value operators a env) value rest

pub values::value-returns-in_err-first-in-Infix : goal.values::value-returns-in_err-first-in-Infix
values::value-returns-in_err-first-in-Infix g t0 c =
    let env = (seen c.args.around.now (g.N.Natives.titles c.args.natives.now) (g.N.Natives.answer c.args.natives.now)) in
    let others = map view_operand c.in-Infix.rest.items in
    let a = view c.in-Infix.first.value in
    let is : view c.args.expr.now ≡ operands a others = search (rules, expr_lemmas) in
    let err : c.from_residual-in_err-first-in-Infix.result ≡ Err c.in_err-first-in-Infix.field-0.0 = search rules in
    let none : Evaluates (eval_of a env) (Err c.in_err-first-in-Infix.field-0.0) = search rules in
    fault_first (eval_of (view c.args.expr.now) env) (eval_of a env) (going_on others env) c.in_err-first-in-Infix.field-0.0 c.from_residual-in_err-first-in-Infix.result (ap (λ (t : Tree). eval_of t env) is ∙ operands_value a others env) err none

pub values::value-returns-in_ok-first-in-Infix : goal.values::value-returns-in_ok-first-in-Infix
values::value-returns-in_ok-first-in-Infix g t0 c =
    let env = (seen c.args.around.now (g.N.Natives.titles c.args.natives.now) (g.N.Natives.answer c.args.natives.now)) in
    let others = map view_operand c.in-Infix.rest.items in
    let a = view c.in-Infix.first.value in
    let is : view c.args.expr.now ≡ operands a others = search (rules, expr_lemmas) in
    let value : eval_of a env ≡ Ok (plain_of c.in_ok-first-in-Infix.first) = search rules in
    let rest : Evaluates (going_on others env (plain_of c.in_ok-first-in-Infix.first)) c.operands.result = search rules in
    value_first (eval_of (view c.args.expr.now) env) (eval_of a env) (going_on others env) c.in_ok-first-in-Infix.first c.operands.result (ap (λ (t : Tree). eval_of t env) is ∙ operands_value a others env) value rest

pub values::value-returns-in_err-first-in-Conditional : goal.values::value-returns-in_err-first-in-Conditional
values::value-returns-in_err-first-in-Conditional g t0 c =
    let env = (seen c.args.around.now (g.N.Natives.titles c.args.natives.now) (g.N.Natives.answer c.args.natives.now)) in
    let others = map view_branch c.in-Conditional.rest.items in
    let a = view c.in-Conditional.first.value in
    let is : view c.args.expr.now ≡ conditional [] a others = search (rules, expr_lemmas) in
    let err : c.from_residual-in_err-first-in-Conditional.result ≡ Err c.in_err-first-in-Conditional.field-0.0 = search rules in
    let none : Evaluates (eval_of a env) (Err c.in_err-first-in-Conditional.field-0.0) = search rules in
    steps_fault env [] a others (view c.args.expr.now) c.in_err-first-in-Conditional.field-0.0 c.from_residual-in_err-first-in-Conditional.result err is (steps_refused env 0 [] a c.in_err-first-in-Conditional.field-0.0 (Err c.in_err-first-in-Conditional.field-0.0) refl nothing_waits (refused (eval_of a env) c.in_err-first-in-Conditional.field-0.0 none))

pub values::value-returns-in_err-first-in-Postfix : goal.values::value-returns-in_err-first-in-Postfix
values::value-returns-in_err-first-in-Postfix g t0 c =
    let env = (seen c.args.around.now (g.N.Natives.titles c.args.natives.now) (g.N.Natives.answer c.args.natives.now)) in
    let others = c.in-Postfix.rest.items in
    let a = view c.in-Postfix.first.value in
    let is : view c.args.expr.now ≡ postfix a (map view_postfix others) = search (rules, expr_lemmas) in
    let err : c.from_residual-in_err-first-in-Postfix.result ≡ Err c.in_err-first-in-Postfix.field-0.0 = search rules in
    let first : Comes c.closure_next-next.result a env (Err c.in_err-first-in-Postfix.field-0.0) = search rules in
    same (eval_of (view c.args.expr.now) env) (eval_of (postfix a (map view_postfix others)) env) c.from_residual-in_err-first-in-Postfix.result (ap (λ (t : Tree). eval_of t env) is) (comes_refused false (postfix a (map view_postfix others)) env c.in_err-first-in-Postfix.field-0.0 c.from_residual-in_err-first-in-Postfix.result err (chain_refused c.closure_next-next.result false others a env c.in_err-first-in-Postfix.field-0.0 (Err c.in_err-first-in-Postfix.field-0.0) refl first))

pub values::value-returns-in_ok-last-in-Postfix : goal.values::value-returns-in_ok-last-in-Postfix
values::value-returns-in_ok-last-in-Postfix g t0 c =
    let env = (seen c.args.around.now (g.N.Natives.titles c.args.natives.now) (g.N.Natives.answer c.args.natives.now)) in
    let others = c.in-Postfix.rest.items in
    let a = view c.in-Postfix.first.value in
    let is : view c.args.expr.now ≡ postfix a (map view_postfix others) = search (rules, expr_lemmas) in
    let first : Comes c.closure_next-next.result a env (Ok c.in_ok-first-in-Postfix.first) = search rules in
    let next : c.closure_next-next.result ≡ closure_next (map view_postfix others) false = search rules in
    let slice : c.deref-in-Postfix-3.result.now ≡ others = search rules in
    let last : Comes false (postfix a (map view_postfix others)) env (Ok c.in_ok-last-in-Postfix.last) = search (rules, c.in_ok-last-in-Postfix.ensures a first.0 (λ n. first.1 (next ∙ ap (λ (l : List Postfix). closure_next (map view_postfix l) false) (sym slice) ∙ n))) in
    let gives : Evaluates (value_at c.in_ok-last-in-Postfix.last env) c.read.result = c.read.ensures (g.N.Natives.titles c.args.natives.now) (g.N.Natives.answer c.args.natives.now) in
    same (eval_of (view c.args.expr.now) env) (value_at c.in_ok-last-in-Postfix.last env) c.read.result (ap (λ (t : Tree). eval_of t env) is ∙ last.0.is_value (last.1 refl)) gives

pub values::text-loop-piece-preserved : goal.values::text-loop-piece-preserved
values::text-loop-piece-preserved g t0 c =
    let env = seen c.args.around.now (g.N.Natives.titles c.args.natives.now) (g.N.Natives.answer c.args.natives.now) in
    let pieces = c.args.pieces.now in
    let k = c.loop-piece.piece-index in
    let x = c.piece-item.result in
    let next : k + 1 ≡ suc k = omega arith in
    let left : drop k pieces ≡ x ∷ drop (k + 1) pieces = left_here pieces k (k + 1) x c.loop-piece-test.true c.piece-item.is next in
    let so = c.loop-piece.invariant in
    let all = (meaning_of (trees (map view_piece pieces))).text env in
    let here : ((meaning_of (trees (map view_piece (x ∷ drop (k + 1) pieces)))).text env >>= λ u. Ok (so.0 ++ u)) ≡ all = sym (ap (λ (l : List Fragment). (meaning_of (trees (map view_piece l))).text env >>= λ u. Ok (so.0 ++ u)) left) ∙ so.2 in
    elim c.match-piece.branch [
      | values::text-in-Plain+in_ok-push-in-Plain w ↦ (
          let s = w.as_str.result.now in
          let is : view_piece x ≡ tree.piece w.in-Plain.field-0 s = search (rules, piece_lemmas) in
          (so.0 ++ s, subst (IsWritten (so.0 ++ s)) (sym w.written-is) (w.in_ok-push-in-Plain.ensures so.0 so.1), writes_on (view_piece x) (map view_piece (drop (k + 1) pieces)) env so.0 s all (ap (λ (t : Tree). (meaning_of t).written env) is) here))
      | values::text-in-Hole+in_ok-value-in-Hole+in_ok-put_hole-in-Hole w ↦ (
          let s = hole_text env.in_process (plain_of w.in_ok-value-in-Hole.value) in
          let is : view_piece x ≡ tree.hole w.in-Hole.field-0 (view w.in-Hole.expr) = search (rules, piece_lemmas) in
          let gives : (meaning_of (view_piece x)).written env ≡ Ok s = ap (λ (t : Tree). (meaning_of t).written env) is ∙ ap (λ (r : Placed _). r >>= λ v. Ok (hole_text env.in_process v)) w.in_ok-value-in-Hole.ensures in
          let v = plain_of w.in_ok-value-in-Hole.value in
          let wrote : IsWritten (so.0 ++ s) w.put_hole.new.out = subst (λ (b : Bool). IsWritten (so.0 ++ hole_text b v) w.put_hole.new.out) (w.in_process.ensures (g.N.Natives.titles c.args.natives.now) (g.N.Natives.answer c.args.natives.now)) (w.in_ok-put_hole-in-Hole.ensures so.0 so.1) in
          (so.0 ++ s, subst (IsWritten (so.0 ++ s)) (sym w.written-is) wrote, writes_on (view_piece x) (map view_piece (drop (k + 1) pieces)) env so.0 s all gives here))
    ]

pub values::items-loop-item-init : goal.values::items-loop-item-init
values::items-loop-item-init g t0 c = ([], search rules, none_gathered _)

pub blocks::images-loop-item-init : goal.blocks::images-loop-item-init
blocks::images-loop-item-init g t0 c = ([], search rules, none_gathered _)

pub values::items-loop-item-preserved : goal.values::items-loop-item-preserved
values::items-loop-item-preserved g t0 c =
    let env = seen c.args.around.now (g.N.Natives.titles c.args.natives.now) (g.N.Natives.answer c.args.natives.now) in
    let list = c.args.list.now in
    let k = c.loop-item.item-index in
    let x = c.item-item.result in
    let next : k + 1 ≡ suc k = omega arith in
    let left : drop k list ≡ x ∷ drop (k + 1) list = left_here list k (k + 1) x c.loop-item-test.true c.item-item.is next in
    let so = c.loop-item.invariant in
    let all = (meaning_of (views list)).items env in
    let more = (meaning_of (views (drop (k + 1) list))).items env in
    let here : ((meaning_of (views (x ∷ drop (k + 1) list))).items env >>= λ ws. Ok (so.0 ++ ws)) ≡ all = sym (ap (λ (l : List Expr). (meaning_of (views l)).items env >>= λ ws. Ok (so.0 ++ ws)) left) ∙ so.2 in
    let v = plain_of c.in_ok-value.field-0 in
    (so.0 ++ v ∷ [], c.in_ok-push.ensures so.0 so.1, gathers_one ((meaning_of (view x)).value env) more so.0 v all c.in_ok-value.ensures here)

pub blocks::images-loop-item-preserved : goal.blocks::images-loop-item-preserved
blocks::images-loop-item-preserved g t0 c =
    let env = seen c.args.around.now (g.N.Natives.titles c.args.natives.now) (g.N.Natives.answer c.args.natives.now) in
    let f = block_of (view_closure c.args.closure.now) env in
    let items = c.args.items.now in
    let k = c.loop-item.item-index in
    let x = c.item-item.result in
    let next : k + 1 ≡ suc k = omega arith in
    let left : drop k items ≡ x ∷ drop (k + 1) items = left_here items k (k + 1) x c.loop-item-test.true c.item-item.is next in
    let so = c.loop-item.invariant in
    let all = images_of f (map plain_of items) in
    let more = images_of f (map plain_of (drop (k + 1) items)) in
    let here : (images_of f (map plain_of (x ∷ drop (k + 1) items)) >>= λ ws. Ok (so.0 ++ ws)) ≡ all = sym (ap (λ (l : List Value). images_of f (map plain_of l) >>= λ ws. Ok (so.0 ++ ws)) left) ∙ so.2 in
    let w = plain_of c.in_ok-image.image in
    let gives : f (plain_of x ∷ []) ≡ Ok w = search rules in
    (so.0 ++ w ∷ [], c.in_ok-push.ensures so.0 so.1, gathers_one (f (plain_of x ∷ [])) more so.0 w all gives here)

pub levels::matches-returns-in-Some : goal.levels::matches-returns-in-Some
levels::matches-returns-in-Some g t0 c =
    let titles = g.N.Natives.titles c.args.natives.now in
    let answer = g.N.Natives.answer c.args.natives.now in
    let env = seen c.args.around.now titles answer in
    let t = view c.args.expr.now in
    let same : c.as_str.result.now ≡ c.in-Some.text.now = search rules in
    let is : pattern_in t ≡ Some c.as_str.result.now = c.in-Some.ensures ∙ ap (λ (n : List ℕ). Some n) (sym same) in
    subst (λ (re : Option (List ℕ)). Evaluates (matched c.args.place (λ e. Ok (plain_of c.args.left)) re (meaning_of t).value env) c.match_seen.result) (sym is) (c.match_seen.ensures titles answer)

pub conditionals::conditional-loop-branch-init : goal.conditionals::conditional-loop-branch-init
conditionals::conditional-loop-branch-init g t0 c = record { small = omega arith; reads = λ e h. ([], e, (nothing_waits, h), refl) }

pub conditionals::conditional-loop-branch-preserved : goal.conditionals::conditional-loop-branch-preserved
conditionals::conditional-loop-branch-preserved g t0 c = record {
  small = omega (arith, c.in_ok-turn.ensures.fits, c.loop-branch.invariant.small);
  reads = λ e h.
      let env = (seen c.args.around.now (g.N.Natives.titles c.args.natives.now) (g.N.Natives.answer c.args.natives.now)) in
      let i = c.loop-branch.invariant.reads e h in
      let rest = c.args.rest.now in
      let k = c.loop-branch.branch-index in
      let b = c.branch-item.result in
      let vb = view_branch b in
      let ys = map view_branch (drop (k + 1) rest) in
      let next : k + 1 ≡ suc k = omega arith in
      let left : drop k rest ≡ b ∷ drop (k + 1) rest = left_here rest k (k + 1) b c.loop-branch-test.true c.branch-item.is next in
      let m : vb.operator ≡ b.operator = search (rules, branch_lemmas) in
      let whole : conditional (framed vb.place b.operator i.0 i.1) vb.expr ys ≡ conditional [] e (map view_branch rest) = ap (λ (mk : BranchOperator). conditional (framed vb.place mk i.0 i.1) vb.expr ys) (sym m) ∙ sym (ap (λ (l : List Branch). conditional i.0 i.1 (map view_branch l)) left) ∙ i.3 in
      (framed vb.place b.operator i.0 i.1, vb.expr, c.in_ok-turn.ensures.steps i.0 i.1 i.2, whole);
}

pub conditionals::conditional-returns-in_err-turn : goal.conditionals::conditional-returns-in_err-turn
conditionals::conditional-returns-in_err-turn g t0 c e h =
    let env = (seen c.args.around.now (g.N.Natives.titles c.args.natives.now) (g.N.Natives.answer c.args.natives.now)) in
    let i = c.loop-branch.invariant.reads e h in
    let rest = c.args.rest.now in
    let k = c.loop-branch.branch-index in
    let b = c.branch-item.result in
    let vb = view_branch b in
    let ys = map view_branch (drop (k + 1) rest) in
    let next : k + 1 ≡ suc k = omega arith in
    let left : drop k rest ≡ b ∷ drop (k + 1) rest = left_here rest k (k + 1) b c.loop-branch-test.true c.branch-item.is next in
    let m : vb.operator ≡ b.operator = search (rules, branch_lemmas) in
    let whole : conditional (framed vb.place b.operator i.0 i.1) vb.expr ys ≡ conditional [] e (map view_branch rest) = ap (λ (mk : BranchOperator). conditional (framed vb.place mk i.0 i.1) vb.expr ys) (sym m) ∙ sym (ap (λ (l : List Branch). conditional i.0 i.1 (map view_branch l)) left) ∙ i.3 in
    let err : c.from_residual.result ≡ Err c.in_err-turn.field-0.0 = search rules in
    steps_fault env (framed vb.place b.operator i.0 i.1) vb.expr ys (conditional [] e (map view_branch rest)) c.in_err-turn.field-0.0 c.from_residual.result err (sym whole) (c.in_err-turn.ensures.steps i.0 i.1 i.2)

pub conditionals::conditional-returns : goal.conditionals::conditional-returns
conditionals::conditional-returns g t0 c e h =
    let env = (seen c.args.around.now (g.N.Natives.titles c.args.natives.now) (g.N.Natives.answer c.args.natives.now)) in
    let i = c.loop-branch.invariant.reads e h in
    let rest = c.args.rest.now in
    let k = c.loop-branch.branch-index in
    let none : drop k rest ≡ [] = none_left rest k c.loop-branch-test.false in
    let whole : ended i.0 i.1 ≡ conditional [] e (map view_branch rest) = sym (ap (λ (l : List Branch). conditional i.0 i.1 (map view_branch l)) none) ∙ i.3 in
    subst (λ (t : Tree). Evaluates ((meaning_of t).value env) c.ended.result) whole (c.ended.ensures env i.0 i.1 i.2)

pub conditionals::step-returns-in_ok-value-in-Due-clause-steps : goal.conditionals::step-returns-in_ok-value-in-Due-clause-steps
conditionals::step-returns-in_ok-value-in-Due-clause-steps g t0 c fs e h =
    let env = seen c.args.around.now (g.N.Natives.titles c.args.natives.now) (g.N.Natives.answer c.args.natives.now) in
    let is : (view_branch c.args.branch.now).expr ≡ view c.args.branch.now.expr = search (rules, branch_lemmas) in
    (c.in-Due.ensures.reads env (view_branch c.args.branch.now).place fs e h, ap (λ (t : Tree). (meaning_of t).value env) is ∙ c.in_ok-value-in-Due.ensures)

pub conditionals::step-returns-in_err-value-in-Due-clause-steps : goal.conditionals::step-returns-in_err-value-in-Due-clause-steps
conditionals::step-returns-in_err-value-in-Due-clause-steps g t0 c fs e h =
    let env = seen c.args.around.now (g.N.Natives.titles c.args.natives.now) (g.N.Natives.answer c.args.natives.now) in
    let b = view_branch c.args.branch.now in
    let is : b.expr ≡ view c.args.branch.now.expr = search (rules, branch_lemmas) in
    let err : c.from_residual.result ≡ Err c.in_err-value-in-Due.field-0.0 = search rules in
    steps_refused env c.in-Due.outer (framed b.place c.args.branch.now.operator fs e) b.expr c.in_err-value-in-Due.field-0.0 c.from_residual.result err (c.in-Due.ensures.reads env b.place fs e h) (refused_at ((meaning_of b.expr).value env) (eval_of (view c.args.branch.now.expr) env) c.in_err-value-in-Due.field-0.0 (ap (λ (t : Tree). (meaning_of t).value env) is) (refused (eval_of (view c.args.branch.now.expr) env) c.in_err-value-in-Due.field-0.0 c.in_err-value-in-Due.ensures))

pub chains::subject-returns-in_ok-copy-in-Name : goal.chains::subject-returns-in_ok-copy-in-Name
chains::subject-returns-in_ok-copy-in-Name g t0 c =
    let env = (seen c.args.around.now (g.N.Natives.titles c.args.natives.now) (g.N.Natives.answer c.args.natives.now)) in
    let is : view c.args.expr.now ≡ tree.name c.in-Name.place c.in-Name.name = search (rules, expr_lemmas) in
    let same : c.in_ok-copy-in-Name.field-0 ≡ c.in-Name.name = search rules in
    ready c.args.closure _ env _ (subst (λ (t : Tree). Stands t env (subject.Name c.in-Name.place c.in_ok-copy-in-Name.field-0)) (sym is) (subst (λ (n : List ℕ). Stands (tree.name c.in-Name.place c.in-Name.name) env (subject.Name c.in-Name.place n)) (sym same) (name_stands c.in-Name.place c.in-Name.name env))) refl

pub chains::subject-returns-in_err-first-in-Postfix : goal.chains::subject-returns-in_err-first-in-Postfix
chains::subject-returns-in_err-first-in-Postfix g t0 c =
    let env = (seen c.args.around.now (g.N.Natives.titles c.args.natives.now) (g.N.Natives.answer c.args.natives.now)) in
    let a = view c.in-Postfix.first.value in
    let is : view c.args.expr.now ≡ postfix a (map view_postfix c.in-Postfix.rest.items) = search (rules, expr_lemmas) in
    let err : c.from_residual-in_err-first-in-Postfix.result ≡ Err c.in_err-first-in-Postfix.field-0.0 = search rules in
    let first : Comes c.closure_next-next.result a env (Err c.in_err-first-in-Postfix.field-0.0) = search rules in
    subst (λ (t : Tree). Comes c.args.closure t env c.from_residual-in_err-first-in-Postfix.result) (sym is) (chain_refused c.closure_next-next.result c.args.closure c.in-Postfix.rest.items a env c.in_err-first-in-Postfix.field-0.0 c.from_residual-in_err-first-in-Postfix.result err first)

pub chains::subject-returns-in_ok-first-in-Postfix : goal.chains::subject-returns-in_ok-first-in-Postfix
chains::subject-returns-in_ok-first-in-Postfix g t0 c =
    let env = (seen c.args.around.now (g.N.Natives.titles c.args.natives.now) (g.N.Natives.answer c.args.natives.now)) in
    let a = view c.in-Postfix.first.value in
    let is : view c.args.expr.now ≡ postfix a (map view_postfix c.in-Postfix.rest.items) = search (rules, expr_lemmas) in
    let first : Comes c.closure_next-next.result a env (Ok c.in_ok-first-in-Postfix.first) = search rules in
    let next : c.closure_next-next.result ≡ closure_next (map view_postfix c.in-Postfix.rest.items) c.args.closure = search rules in
    let slice : c.deref-in-Postfix-2.result.now ≡ c.in-Postfix.rest.items = search rules in
    let comes : Comes c.args.closure (postfix a (map view_postfix c.in-Postfix.rest.items)) env c.parts.result = search (rules, c.parts.ensures a first.0 (λ n. first.1 (next ∙ ap (λ (l : List Postfix). closure_next (map view_postfix l) c.args.closure) (sym slice) ∙ n))) in
    subst (λ (t : Tree). Comes c.args.closure t env c.parts.result) (sym is) comes

pub chains::subject-returns-in_default : goal.chains::subject-returns-in_default
chains::subject-returns-in_default g t0 c =
    let f : is_flat (view c.args.expr.now) ≡ true = search (rules, expr_lemmas) in
    c.flat-in_default.ensures c.args.closure f

pub chains::subject-returns-then-no_prefixes : goal.chains::subject-returns-then-no_prefixes
chains::subject-returns-then-no_prefixes g t0 c =
    let env = (seen c.args.around.now (g.N.Natives.titles c.args.natives.now) (g.N.Natives.answer c.args.natives.now)) in
    let ms = c.in-Prefix.operators.items in
    let a = view c.in-Prefix.of.value in
    let is : view c.args.expr.now ≡ prefixes ms a = search (rules, expr_lemmas) in
    let fact : c.no_prefixes.result ≡ is_nil ms = search rules in
    let same : view c.args.expr.now ≡ a = is ∙ prefixes_none ms a (sym fact ∙ c.if-no_prefixes.true) in
    let comes : Comes c.args.closure a env c.subject-then-no_prefixes.result = search rules in
    subst (λ (t : Tree). Comes c.args.closure t env c.subject-then-no_prefixes.result) (sym same) comes

pub chains::subject-returns-else-no_prefixes : goal.chains::subject-returns-else-no_prefixes
chains::subject-returns-else-no_prefixes g t0 c =
    let ms = c.in-Prefix.operators.items in
    let a = view c.in-Prefix.of.value in
    let is : view c.args.expr.now ≡ prefixes ms a = search (rules, expr_lemmas) in
    let fact : c.no_prefixes.result ≡ is_nil ms = search rules in
    c.flat.ensures c.args.closure (ap is_flat is ∙ (prefixes_some ms a (sym fact ∙ c.if-no_prefixes.false)).flat)

pub chains::subject-returns-then-no_operands : goal.chains::subject-returns-then-no_operands
chains::subject-returns-then-no_operands g t0 c =
    let env = (seen c.args.around.now (g.N.Natives.titles c.args.natives.now) (g.N.Natives.answer c.args.natives.now)) in
    let ms = c.in-Infix.rest.items in
    let a = view c.in-Infix.first.value in
    let is : view c.args.expr.now ≡ operands a (map view_operand ms) = search (rules, expr_lemmas) in
    let fact : c.no_operands.result ≡ is_nil (map view_operand ms) = search rules in
    let same : view c.args.expr.now ≡ a = is ∙ operands_none ms a (sym fact ∙ c.if-no_operands.true) in
    let comes : Comes c.args.closure a env c.subject-then-no_operands.result = search rules in
    subst (λ (t : Tree). Comes c.args.closure t env c.subject-then-no_operands.result) (sym same) comes

pub chains::subject-returns-else-no_operands : goal.chains::subject-returns-else-no_operands
chains::subject-returns-else-no_operands g t0 c =
    let ms = c.in-Infix.rest.items in
    let a = view c.in-Infix.first.value in
    let is : view c.args.expr.now ≡ operands a (map view_operand ms) = search (rules, expr_lemmas) in
    let fact : c.no_operands.result ≡ is_nil (map view_operand ms) = search rules in
    c.flat-else-no_operands.ensures c.args.closure (ap is_flat is ∙ (operands_some ms a (sym fact ∙ c.if-no_operands.false)).flat)

pub chains::subject-returns-then-no_branches : goal.chains::subject-returns-then-no_branches
chains::subject-returns-then-no_branches g t0 c =
    let env = (seen c.args.around.now (g.N.Natives.titles c.args.natives.now) (g.N.Natives.answer c.args.natives.now)) in
    let ms = c.in-Conditional.rest.items in
    let a = view c.in-Conditional.first.value in
    let is : view c.args.expr.now ≡ conditional [] a (map view_branch ms) = search (rules, expr_lemmas) in
    let fact : c.no_branches.result ≡ is_nil (map view_branch ms) = search rules in
    let same : view c.args.expr.now ≡ a = is ∙ conditional_none ms a (sym fact ∙ c.if-no_branches.true) in
    let comes : Comes c.args.closure a env c.subject-then-no_branches.result = search rules in
    subst (λ (t : Tree). Comes c.args.closure t env c.subject-then-no_branches.result) (sym same) comes

pub chains::subject-returns-else-no_branches : goal.chains::subject-returns-else-no_branches
chains::subject-returns-else-no_branches g t0 c =
    let ms = c.in-Conditional.rest.items in
    let a = view c.in-Conditional.first.value in
    let is : view c.args.expr.now ≡ conditional [] a (map view_branch ms) = search (rules, expr_lemmas) in
    let fact : c.no_branches.result ≡ is_nil (map view_branch ms) = search rules in
    c.flat-else-no_branches.ensures c.args.closure (ap is_flat is ∙ (conditional_some ms a (sym fact ∙ c.if-no_branches.false)).flat)

pub chains::flat-returns-in_err-value : goal.chains::flat-returns-in_err-value
chains::flat-returns-in_err-value g t0 c closure f =
    let env = seen c.args.around.now (g.N.Natives.titles c.args.natives.now) (g.N.Natives.answer c.args.natives.now) in
    let is : c.from_residual.result ≡ Err c.in_err-value.field-0.0 = search rules in
    flat_refused closure (view c.args.expr.now) env c.in_err-value.field-0.0 c.from_residual.result f is (refused (eval_of (view c.args.expr.now) env) c.in_err-value.field-0.0 c.in_err-value.ensures)

pub chains::flat-returns : goal.chains::flat-returns
chains::flat-returns g t0 c closure f = ready closure _ _ _ (flat_stands (view c.args.expr.now) (seen c.args.around.now (g.N.Natives.titles c.args.natives.now) (g.N.Natives.answer c.args.natives.now)) c.in_ok-value.value f c.in_ok-value.ensures) refl

pub chains::parts-loop-next-init : goal.chains::parts-loop-next-init
chains::parts-loop-next-init g t0 c = record { ahead = refl; stands = λ t st has. (t, st, has, refl) }

pub chains::parts-loop-next-preserved : goal.chains::parts-loop-next-preserved
chains::parts-loop-next-preserved g t0 c =
    let rest = c.args.rest.now in
    let k = c.loop-next.next-index in
    let x = c.next-item.result in
    let next : k + 1 ≡ suc k = omega arith in
    let left : drop k rest ≡ x ∷ drop (k + 1) rest = left_here rest k (k + 1) x c.loop-next-test.true c.next-item.is next in
    let ahead : c.after_first-ahead.result.now ≡ drop (k + 1) rest = c.after_first-ahead.ensures ∙ ap (drop 1) (c.loop-next.invariant.ahead ∙ left) in
    let after : c.closure_next-followed.result ≡ closure_next (map view_postfix (drop (k + 1) rest)) c.args.closure = c.closure_next-followed.ensures ∙ ap (λ (l : List Postfix). closure_next (map view_postfix l) c.args.closure) ahead in
    record {
      ahead = ahead;
      stands = λ t st has.
          let i = c.loop-next.invariant.stands t st has in
          let comes = c.in_ok-subject.ensures i.0 i.1 (ready_first x (drop k rest) (drop (k + 1) rest) c.closure_next-followed.result c.args.closure c.loop-next.subject left i.2) in
          (applied i.0 (view_postfix x), comes.0, λ n. comes.1 (after ∙ n), sym (ap (λ (l : List Postfix). postfix i.0 (map view_postfix l)) left) ∙ i.3);
    }

pub chains::parts-returns-in_err-subject : goal.chains::parts-returns-in_err-subject
chains::parts-returns-in_err-subject g t0 c t st has =
    let env = (seen c.args.around.now (g.N.Natives.titles c.args.natives.now) (g.N.Natives.answer c.args.natives.now)) in
    let i = c.loop-next.invariant.stands t st has in
    let rest = c.args.rest.now in
    let k = c.loop-next.next-index in
    let x = c.next-item.result in
    let next : k + 1 ≡ suc k = omega arith in
    let left : drop k rest ≡ x ∷ drop (k + 1) rest = left_here rest k (k + 1) x c.loop-next-test.true c.next-item.is next in
    let err : c.from_residual.result ≡ Err c.in_err-subject.field-0.0 = search rules in
    let whole : postfix i.0 (map view_postfix (x ∷ drop (k + 1) rest)) ≡ postfix t (map view_postfix rest) = sym (ap (λ (l : List Postfix). postfix i.0 (map view_postfix l)) left) ∙ i.3 in
    let comes = c.in_err-subject.ensures i.0 i.1 (ready_first x (drop k rest) (drop (k + 1) rest) c.closure_next-followed.result c.args.closure c.loop-next.subject left i.2) in
    subst (λ (r : Result Subject EvalRefusal). Comes c.args.closure (postfix t (map view_postfix rest)) env r) (sym err) (subst (λ (u : Tree). Comes c.args.closure u env (Err c.in_err-subject.field-0.0)) whole (parts_refused c.closure_next-followed.result c.args.closure i.0 x (drop (k + 1) rest) env c.in_err-subject.field-0.0 comes))

pub chains::parts-returns : goal.chains::parts-returns
chains::parts-returns g t0 c t st has =
    let env = (seen c.args.around.now (g.N.Natives.titles c.args.natives.now) (g.N.Natives.answer c.args.natives.now)) in
    let i = c.loop-next.invariant.stands t st has in
    let rest = c.args.rest.now in
    let k = c.loop-next.next-index in
    let none : drop k rest ≡ [] = none_left rest k c.loop-next-test.false in
    (subst (λ (u : Tree). Stands u env c.loop-next.subject) (sym (ap (λ (l : List Postfix). postfix i.0 (map view_postfix l)) none) ∙ i.3) i.1, λ n. i.2 (ap (λ (l : List Postfix). closure_next (map view_postfix l) c.args.closure) none ∙ n))

pub chains::part-returns-in-Index : goal.chains::part-returns-in-Index
chains::part-returns-in-Index g t0 c t st has =
    let env = seen c.args.around.now (g.N.Natives.titles c.args.natives.now) (g.N.Natives.answer c.args.natives.now) in
    let is : view_postfix c.args.next.now ≡ tree.index c.in-Index.place tree.empty (view c.in-Index.at) = search (rules, postfix_lemmas) in
    let comes : Comes c.args.closure (applied t (tree.index c.in-Index.place tree.empty (view c.in-Index.at))) env c.indexed.result = c.indexed.ensures c.args.closure t st (has (ap (λ (v : Tree). closure_next (v ∷ []) c.args.closure) is)) in
    subst (λ (v : Tree). Comes c.args.closure (applied t v) env c.indexed.result) (sym is) comes

pub chains::part-returns-in-Call : goal.chains::part-returns-in-Call
chains::part-returns-in-Call g t0 c t st has =
    let env = seen c.args.around.now (g.N.Natives.titles c.args.natives.now) (g.N.Natives.answer c.args.natives.now) in
    let is : view_postfix c.args.next.now ≡ tree.call c.in-Call.place tree.empty (trees (map view_arg c.in-Call.args.items)) = search (rules, postfix_lemmas) in
    let comes : Comes c.args.closure (applied t (tree.call c.in-Call.place tree.empty (trees (map view_arg c.in-Call.args.items)))) env c.call.result = search (rules, c.call.ensures t st (has (ap (λ (v : Tree). closure_next (v ∷ []) c.args.closure) is))) in
    subst (λ (v : Tree). Comes c.args.closure (applied t v) env c.call.result) (sym is) comes

pub chains::part-returns-in-With : goal.chains::part-returns-in-With
chains::part-returns-in-With g t0 c t st has =
    let env = seen c.args.around.now (g.N.Natives.titles c.args.natives.now) (g.N.Natives.answer c.args.natives.now) in
    let is : view_postfix c.args.next.now ≡ tree.call_with tree.empty (view_closure c.in-With.block) = search (rules, postfix_lemmas) in
    let comes : Comes c.args.closure (applied t (tree.call_with tree.empty (view_closure c.in-With.block))) env c.with.result = c.with.ensures c.args.closure t st in
    subst (λ (v : Tree). Comes c.args.closure (applied t v) env c.with.result) (sym is) comes

pub chains::part-returns-in_ok-copy-in-Property : goal.chains::part-returns-in_ok-copy-in-Property
chains::part-returns-in_ok-copy-in-Property g t0 c t st has =
    let titles = g.N.Natives.titles c.args.natives.now in
    let answer = g.N.Natives.answer c.args.natives.now in
    let env = seen c.args.around.now titles answer in
    let n = c.in_ok-copy-in-Property.field-0 in
    let same : n ≡ c.in-Property.name = search rules in
    let is : view_postfix c.args.next.now ≡ tree.property tree.empty (tree.name c.in-Property.place c.in-Property.name) = search (rules, postfix_lemmas) in
    let comes : Comes c.args.closure (tree.property t (tree.name c.in-Property.place n)) env c.property.result = c.property.ensures titles answer c.args.closure t st (has (ap (λ (v : Tree). closure_next (v ∷ []) c.args.closure) is)) in
    subst (λ (v : Tree). Comes c.args.closure (applied t v) env c.property.result) (sym is) (subst (λ (m : List ℕ). Comes c.args.closure (tree.property t (tree.name c.in-Property.place m)) env c.property.result) same comes)

pub chains::part-returns-in_ok-copy-in-SafeProperty : goal.chains::part-returns-in_ok-copy-in-SafeProperty
chains::part-returns-in_ok-copy-in-SafeProperty g t0 c t st has =
    let titles = g.N.Natives.titles c.args.natives.now in
    let answer = g.N.Natives.answer c.args.natives.now in
    let env = seen c.args.around.now titles answer in
    let n = c.in_ok-copy-in-SafeProperty.field-0 in
    let same : n ≡ c.in-SafeProperty.name = search rules in
    let is : view_postfix c.args.next.now ≡ tree.safe_property tree.empty (tree.name c.in-SafeProperty.place c.in-SafeProperty.name) = search (rules, postfix_lemmas) in
    let comes : Comes c.args.closure (tree.safe_property t (tree.name c.in-SafeProperty.place n)) env c.safe_property.result = c.safe_property.ensures titles answer c.args.closure t st (has (ap (λ (v : Tree). closure_next (v ∷ []) c.args.closure) is)) in
    subst (λ (v : Tree). Comes c.args.closure (applied t v) env c.safe_property.result) (sym is) (subst (λ (m : List ℕ). Comes c.args.closure (tree.safe_property t (tree.name c.in-SafeProperty.place m)) env c.safe_property.result) same comes)

pub chains::indexed-returns-in_err-of : goal.chains::indexed-returns-in_err-of
chains::indexed-returns-in_err-of g t0 c closure t st has =
    let titles = g.N.Natives.titles c.args.natives.now in
    let answer = g.N.Natives.answer c.args.natives.now in
    let env = seen c.args.around.now titles answer in
    let is : c.from_residual.result ≡ Err c.in_err-of.field-0.0 = search rules in
    index_refused t (view c.args.at.now) c.args.place env closure c.in_err-of.field-0.0 c.from_residual.result is (refused_at ((meaning_of t).value env) (value_at c.args.before env) c.in_err-of.field-0.0 (st.is_value has) (refused (value_at c.args.before env) c.in_err-of.field-0.0 (c.in_err-of.ensures titles answer)))

pub chains::indexed-returns-in_err-at : goal.chains::indexed-returns-in_err-at
chains::indexed-returns-in_err-at g t0 c closure t st has =
    let titles = g.N.Natives.titles c.args.natives.now in
    let answer = g.N.Natives.answer c.args.natives.now in
    let env = seen c.args.around.now titles answer in
    let is : c.from_residual-in_err-at.result ≡ Err c.in_err-at.field-0.0 = search rules in
    place_refused t (view c.args.at.now) c.args.place env closure (plain_of c.in_ok-of.of) c.in_err-at.field-0.0 c.from_residual-in_err-at.result is (st.is_value has ∙ c.in_ok-of.ensures titles answer) (refused (eval_of (view c.args.at.now) env) c.in_err-at.field-0.0 c.in_err-at.ensures)

pub chains::indexed-returns-in_err-item : goal.chains::indexed-returns-in_err-item
chains::indexed-returns-in_err-item g t0 c closure t st has =
    let titles = g.N.Natives.titles c.args.natives.now in
    let answer = g.N.Natives.answer c.args.natives.now in
    let env = seen c.args.around.now titles answer in
    let is : c.from_residual-in_err-item.result ≡ Err c.in_err-item.field-0.0 = search rules in
    item_refused t (view c.args.at.now) c.args.place env closure (plain_of c.in_ok-of.of) (plain_of c.in_ok-at.at) c.in_err-item.field-0.0 c.from_residual-in_err-item.result is (st.is_value has ∙ c.in_ok-of.ensures titles answer) c.in_ok-at.ensures (refused (made c.args.place (index (plain_of c.in_ok-of.of) (plain_of c.in_ok-at.at))) c.in_err-item.field-0.0 c.in_err-item.ensures)

pub chains::indexed-returns : goal.chains::indexed-returns
chains::indexed-returns g t0 c closure t st has =
    let titles = g.N.Natives.titles c.args.natives.now in
    let answer = g.N.Natives.answer c.args.natives.now in
    let env = seen c.args.around.now titles answer in
    ready closure _ env _ (item_stands t (view c.args.at.now) c.args.place env (plain_of c.in_ok-of.of) (plain_of c.in_ok-at.at) c.in_ok-item.item (st.is_value has ∙ c.in_ok-of.ensures titles answer) c.in_ok-at.ensures c.in_ok-item.ensures) refl

pub chains::call-returns-in_err-callee : goal.chains::call-returns-in_err-callee
chains::call-returns-in_err-callee g t0 c t st has =
    let env = seen c.args.around.now (g.N.Natives.titles c.args.natives.now) (g.N.Natives.answer c.args.natives.now) in
    let is : c.from_residual.result ≡ Err c.in_err-callee.field-0.0 = search rules in
    call_refused c.args.closure t (trees (map view_arg c.args.args.now)) c.args.place env c.in_err-callee.field-0.0 c.from_residual.result is (λ a. refused_at _ (applied_at c.args.before c.args.place a env) c.in_err-callee.field-0.0 (st.is_applied has c.args.place a) (c.in_err-callee.ensures env a))

pub chains::call-returns-then-calls_nothing : goal.chains::call-returns-then-calls_nothing
chains::call-returns-then-calls_nothing g t0 c t st has =
    let env = seen c.args.around.now (g.N.Natives.titles c.args.natives.now) (g.N.Natives.answer c.args.natives.now) in
    ready c.args.closure _ env _ (nothing_stands t (trees (map view_arg c.args.args.now)) c.args.place env c.args.before c.in_ok-callee.callee st has (c.in_ok-callee.ensures env) (Ok some_value.Null) (sym c.calls_nothing.ensures ∙ ap not c.if-calls_nothing.true) refl) refl

pub chains::call-returns-in_err-given : goal.chains::call-returns-in_err-given
chains::call-returns-in_err-given g t0 c t st has =
    let env = seen c.args.around.now (g.N.Natives.titles c.args.natives.now) (g.N.Natives.answer c.args.natives.now) in
    let is : c.from_residual-in_err-given.result ≡ Err c.in_err-given.field-0.0 = search rules in
    arguments_refused t (trees (map view_arg c.args.args.now)) c.args.place env c.args.before c.in_ok-callee.callee st has (c.in_ok-callee.ensures env) c.args.closure c.in_err-given.field-0.0 c.from_residual-in_err-given.result is (sym c.calls_nothing.ensures ∙ ap not c.if-calls_nothing.false) c.in_err-given.ensures

pub chains::call-returns-then-closure : goal.chains::call-returns-then-closure
chains::call-returns-then-closure g t0 c t st has =
    let env = seen c.args.around.now (g.N.Natives.titles c.args.natives.now) (g.N.Natives.answer c.args.natives.now) in
    let args = trees (map view_arg c.args.args.now) in
    let given = c.in_ok-given.ensures in
    let len : suc (length given.0) ≡ length c.args.args.now + 1 = omega (arith, as_many (map view_arg c.args.args.now) env given.0 given.1, length-map c.args.args.now view_arg) in
    (call_waits t args c.args.place env c.args.before c.in_ok-callee.callee st has (c.in_ok-callee.ensures env) given.0 (length c.args.args.now + 1) given.1 len, λ n. absurd (false≢true (sym n ∙ c.if-closure.true)))

pub chains::call-returns : goal.chains::call-returns
chains::call-returns g t0 c t st has =
    let env = seen c.args.around.now (g.N.Natives.titles c.args.natives.now) (g.N.Natives.answer c.args.natives.now) in
    let args = trees (map view_arg c.args.args.now) in
    let given = c.in_ok-given.ensures in
    let callee = c.in_ok-callee.callee in
    let len : suc (length given.0) ≡ length c.args.args.now + 1 = omega (arith, as_many (map view_arg c.args.args.now) env given.0 given.1, length-map c.args.args.now view_arg) in
    call_comes t args c.args.place env c.args.before callee st has (c.in_ok-callee.ensures env) c.args.closure given.0 (length c.args.args.now + 1) c.finished.result given.1 len (c.finished.ensures (called (callee_of callee) (λ e. Ok given.0) env) (c.performed-result.ensures given.0 given.1 given.2))

pub chains::with-returns-in_err-value : goal.chains::with-returns-in_err-value
chains::with-returns-in_err-value g t0 c closure t st =
    let env = seen c.args.around.now (g.N.Natives.titles c.args.natives.now) (g.N.Natives.answer c.args.natives.now) in
    let vc = view_closure c.args.block.now in
    let w = c.waiting-waiting.ensures t env st in
    let k = callee_of c.waiting-waiting.result.callee in
    let is : c.from_residual.result ≡ Err c.in_err-value.field-0.0 = search rules in
    let o : opening vc ≡ c.args.block.now.place = search (rules, closure_lemmas) in
    let closes : is_closure vc ≡ true = search (rules, closure_lemmas) in
    flat_refused closure (tree.call_with t vc) env c.in_err-value.field-0.0 c.from_residual.result refl is (refused_at _ (called k (and_more w.0 (that_block t vc env c.args.block.now.place)) env) c.in_err-value.field-0.0 (with_value t vc env c.args.block.now.place w.0 k o closes w.2) (refused (called k (and_more w.0 (that_block t vc env c.args.block.now.place)) env) c.in_err-value.field-0.0 (c.in_err-value.ensures w.0 w.1)))

pub chains::with-returns : goal.chains::with-returns
chains::with-returns g t0 c closure t st =
    let env = seen c.args.around.now (g.N.Natives.titles c.args.natives.now) (g.N.Natives.answer c.args.natives.now) in
    let vc = view_closure c.args.block.now in
    let w = c.waiting-waiting.ensures t env st in
    let k = callee_of c.waiting-waiting.result.callee in
    let o : opening vc ≡ c.args.block.now.place = search (rules, closure_lemmas) in
    let closes : is_closure vc ≡ true = search (rules, closure_lemmas) in
    ready closure _ env _ (flat_stands (tree.call_with t vc) env c.in_ok-value.value refl (with_value t vc env c.args.block.now.place w.0 k o closes w.2 ∙ c.in_ok-value.ensures w.0 w.1)) refl

pub calls::arguments-loop-arg-init : goal.calls::arguments-loop-arg-init
calls::arguments-loop-arg-init g t0 c = ([], search rules, nothing_before _)

pub calls::arguments-loop-arg-preserved : goal.calls::arguments-loop-arg-preserved
calls::arguments-loop-arg-preserved g t0 c =
    let env = seen c.args.around.now (g.N.Natives.titles c.args.natives.now) (g.N.Natives.answer c.args.natives.now) in
    let args = c.args.args.now in
    let k = c.loop-arg.arg-index in
    let x = c.arg-item.result in
    let i = c.loop-arg.invariant in
    let ts = map view_arg (drop (k + 1) args) in
    let next : k + 1 ≡ suc k = omega arith in
    let left : drop k args ≡ x ∷ drop (k + 1) args = left_here args k (k + 1) x c.loop-arg-test.true c.arg-item.is next in
    let whole : ((meaning_of (trees (view_arg x ∷ ts))).arguments env >>= λ ys. Ok (i.0 ++ ys)) ≡ (meaning_of (trees (map view_arg args))).arguments env = sym (ap (λ (l : List Arg). (meaning_of (trees (map view_arg l))).arguments env >>= λ ys. Ok (i.0 ++ ys)) left) ∙ i.2 in
    elim c.match-branch-2.branch [
      | calls::arguments-in-Some+in_ok-push-in-Some w ↦
          let v = w.in-Some.value in
          let passed = subst (λ (o : Option Value). IsPassed ((meaning_of (view_arg x)).argument env) (Ok o)) w.in-Some.is c.in_ok-value.ensures in
          let pushed : c.match-branch-2.values.items ≡ c.loop-arg.values.items ++ v ∷ [] = search rules in
          let kept : c.match-branch-2.blocks ≡ c.loop-arg.blocks = w.blocks-is in
          let collected = collects_value c.loop-arg.blocks i.0 c.loop-arg.values.items v i.1 in (
            i.0 ++ plain (plain_of v) ∷ [],
            subst (λ (b : Bool). Collects (i.0 ++ plain (plain_of v) ∷ []) b c.match-branch-2.values.items) (sym kept) (subst (Collects (i.0 ++ plain (plain_of v) ∷ []) c.loop-arg.blocks) (sym pushed) collected),
            one_passed (view_arg x) ts env i.0 (plain (plain_of v)) passed ∙ whole,
          )
      | calls::arguments-in-None w ↦
          let passed = subst (λ (o : Option Value). IsPassed ((meaning_of (view_arg x)).argument env) (Ok o)) w.in-None.is c.in_ok-value.ensures in
          let kept : c.match-branch-2.blocks ≡ true = w.blocks-is in (
            i.0 ++ block passed.0 ∷ [],
            subst (λ (b : Bool). Collects (i.0 ++ block passed.0 ∷ []) b c.match-branch-2.values.items) (sym kept) (collects_block i.0 c.match-branch-2.values.items passed.0),
            one_passed (view_arg x) ts env i.0 (block passed.0) passed.1 ∙ whole,
          )
    ]

pub calls::unnamed-returns-then-is_block : goal.calls::unnamed-returns-then-is_block
calls::unnamed-returns-then-is_block g t0 c = (block_of (view c.args.expr.now) (seen c.args.around.now (g.N.Natives.titles c.args.natives.now) (g.N.Natives.answer c.args.natives.now)), closure_argument (view c.args.expr.now) (seen c.args.around.now (g.N.Natives.titles c.args.natives.now) (g.N.Natives.answer c.args.natives.now)) (sym c.is_block.ensures.closure ∙ c.if-is_block.true))

pub calls::unnamed-returns-in_err-value : goal.calls::unnamed-returns-in_err-value
calls::unnamed-returns-in_err-value g t0 c =
    let err : c.from_residual.result ≡ Err c.in_err-value.field-0.0 = search rules in
    passed_refused ((meaning_of (view c.args.expr.now)).argument (seen c.args.around.now (g.N.Natives.titles c.args.natives.now) (g.N.Natives.answer c.args.natives.now))) (eval_of (view c.args.expr.now) (seen c.args.around.now (g.N.Natives.titles c.args.natives.now) (g.N.Natives.answer c.args.natives.now))) c.in_err-value.field-0.0 c.from_residual.result err (plain_argument (view c.args.expr.now) (seen c.args.around.now (g.N.Natives.titles c.args.natives.now) (g.N.Natives.answer c.args.natives.now)) (sym c.is_block.ensures.plain ∙ ap not c.if-is_block.false)) (refused (eval_of (view c.args.expr.now) (seen c.args.around.now (g.N.Natives.titles c.args.natives.now) (g.N.Natives.answer c.args.natives.now))) c.in_err-value.field-0.0 c.in_err-value.ensures)

pub calls::unnamed-returns : goal.calls::unnamed-returns
calls::unnamed-returns g t0 c = plain_argument (view c.args.expr.now) (seen c.args.around.now (g.N.Natives.titles c.args.natives.now) (g.N.Natives.answer c.args.natives.now)) (sym c.is_block.ensures.plain ∙ ap not c.if-is_block.false) ∙ ap (λ (r : Placed Plain). r >>= λ v. Ok (plain v)) c.in_ok-value.ensures

pub calls::of_blocks-returns-in-Function : goal.calls::of_blocks-returns-in-Function
calls::of_blocks-returns-in-Function g t0 c xs given none =
    let env = (seen c.args.around.now (g.N.Natives.titles c.args.natives.now) (g.N.Natives.answer c.args.natives.now)) in
    let same : c.as_str.result.now ≡ c.in-Function.name = search rules in
    let len : length xs ≡ (length c.args.args.now) = omega (arith, as_many (map view_arg c.args.args.now) env xs given, length-map c.args.args.now view_arg) in
    function_of_blocks (callee_of c.args.callee.now) c.in-Function.place c.as_str.result.now xs env (length c.args.args.now) c.function_block.result (ap callee_of c.in-Function.is ∙ ap (λ m. function c.in-Function.place m) (sym same)) none len c.function_block.ensures

pub calls::of_blocks-returns-in-Math : goal.calls::of_blocks-returns-in-Math
calls::of_blocks-returns-in-Math g t0 c xs given none =
    let env = (seen c.args.around.now (g.N.Natives.titles c.args.natives.now) (g.N.Natives.answer c.args.natives.now)) in
    let n = c.as_str-in-Math.result.now in
    let same : n ≡ c.in-Math.name = search rules in
    let len : length xs ≡ (length c.args.args.now) = omega (arith, as_many (map view_arg c.args.args.now) env xs given, length-map c.args.args.now view_arg) in
    math_of_blocks (callee_of c.args.callee.now) c.in-Math.place n xs env (length c.args.args.now) c.math_block.result (ap callee_of c.in-Math.is ∙ ap (λ m. math c.in-Math.place m) (sym same)) none len c.math_block.ensures

pub calls::of_blocks-returns-in_err-kind-in-Method : goal.calls::of_blocks-returns-in_err-kind-in-Method
calls::of_blocks-returns-in_err-kind-in-Method g t0 c xs given none =
    let env = (seen c.args.around.now (g.N.Natives.titles c.args.natives.now) (g.N.Natives.answer c.args.natives.now)) in
    let k = callee_of c.args.callee.now in
    let n = c.as_str-in-Method.result.now in
    let same : n ≡ c.in-Method.name = search rules in
    let err : c.from_residual.result ≡ Err c.in_err-kind-in-Method.field-0.0 = search rules in
    let len : length xs ≡ (length c.args.args.now) = omega (arith, as_many (map view_arg c.args.args.now) env xs given, length-map c.args.args.now view_arg) in
    subst (λ (r : Result Value EvalRefusal). Evaluates (called k (λ e. Ok xs) env) r) (sym err) (method_of_blocks k (plain_of c.in-Method.value) c.in-Method.place n xs env (length c.args.args.now) c.in_err-kind-in-Method.field-0.0 (ap callee_of c.in-Method.is ∙ ap (λ m. method (plain_of c.in-Method.value) c.in-Method.place m) (sym same)) none len c.in_err-kind-in-Method.ensures)

pub calls::of_blocks-returns-in_ok-kind-in-Method : goal.calls::of_blocks-returns-in_ok-kind-in-Method
calls::of_blocks-returns-in_ok-kind-in-Method g t0 c xs given none =
    let env = (seen c.args.around.now (g.N.Natives.titles c.args.natives.now) (g.N.Natives.answer c.args.natives.now)) in
    let n = c.as_str-in-Method.result.now in
    let same : n ≡ c.in-Method.name = search rules in
    let goes = c.in_ok-kind-in-Method.ensures in
    let len : length xs ≡ 1 = omega (arith, as_many (map view_arg c.args.args.now) env xs given, length-map c.args.args.now view_arg, goes.0) in
    let one = alone xs len none in
    over_one (callee_of c.args.callee.now) (plain_of c.in-Method.value) c.in-Method.place n xs one.of env c.in_ok-kind-in-Method.kind (map plain_of c.listed.result.now) c.over_sole.result (ap callee_of c.in-Method.is ∙ ap (λ m. method (plain_of c.in-Method.value) c.in-Method.place m) (sym same)) one.is goes.1 c.listed.ensures (c.over_sole.ensures one.of (given ∙ ap (λ ys. Ok ys) one.is))

pub calls::over_sole-returns-in-len1-up : goal.calls::over_sole-returns-in-len1-up
calls::over_sole-returns-in-len1-up g t0 c f given =
    let env = seen c.args.around.now (g.N.Natives.titles c.args.natives.now) (g.N.Natives.answer c.args.natives.now) in
    let args = c.args.args.now in
    let x = c.arg-item.result in
    let some : 0 < length args = omega (arith, c.in-len1-up.len_at_least) in
    let these : args ≡ x ∷ drop 1 args = left_here args 0 1 x some c.arg-item.is refl in
    let is : view_arg x ≡ with_name x.name (view x.value) = search (rules, arg_lemmas) in
    sole_evaluates c.args.place (row_method c.args.kind) (map plain_of c.args.items.now) x.name (view x.value) (view_arg x) (trees (map view_arg args)) (map view_arg (drop 1 args)) env f c.over_expr.result is (ap (λ (l : List Arg). trees (map view_arg l)) these) given c.over_expr.ensures

pub calls::over_expr-returns-in-Prefix : goal.calls::over_expr-returns-in-Prefix
calls::over_expr-returns-in-Prefix g t0 c h =
    let env = (seen c.args.around.now (g.N.Natives.titles c.args.natives.now) (g.N.Natives.answer c.args.natives.now)) in
    let ms = c.in-Prefix.field-0.items in
    let a = view c.in-Prefix.of.value in
    let is : view c.args.expr.now ≡ prefixes ms a = search (rules, expr_lemmas) in
    let same : view c.args.expr.now ≡ a = is ∙ prefixes_closure ms a (ap is_closure (sym is) ∙ h) in
    let there : c.deref.result.now ≡ c.in-Prefix.of.value = search rules in
    let goes = subst (λ (e : Expr). is_closure (view e) ≡ true → Evaluates (over_items c.args.place (row_method c.args.kind) (block_of (view e) env) (map plain_of c.args.items.now)) c.over_expr.result) there c.over_expr.ensures in
    subst (λ (t : Tree). Evaluates (over_items c.args.place (row_method c.args.kind) (block_of t env) (map plain_of c.args.items.now)) c.over_expr.result) (sym same) (goes (ap is_closure (sym same) ∙ h))

pub calls::over_expr-returns-in-Infix : goal.calls::over_expr-returns-in-Infix
calls::over_expr-returns-in-Infix g t0 c h =
    let env = (seen c.args.around.now (g.N.Natives.titles c.args.natives.now) (g.N.Natives.answer c.args.natives.now)) in
    let ms = c.in-Infix.field-1.items in
    let a = view c.in-Infix.first.value in
    let is : view c.args.expr.now ≡ operands a (map view_operand ms) = search (rules, expr_lemmas) in
    let same : view c.args.expr.now ≡ a = is ∙ operands_closure ms a (ap is_closure (sym is) ∙ h) in
    let there : c.deref-in-Infix.result.now ≡ c.in-Infix.first.value = search rules in
    let goes = subst (λ (e : Expr). is_closure (view e) ≡ true → Evaluates (over_items c.args.place (row_method c.args.kind) (block_of (view e) env) (map plain_of c.args.items.now)) c.over_expr-in-Infix.result) there c.over_expr-in-Infix.ensures in
    subst (λ (t : Tree). Evaluates (over_items c.args.place (row_method c.args.kind) (block_of t env) (map plain_of c.args.items.now)) c.over_expr-in-Infix.result) (sym same) (goes (ap is_closure (sym same) ∙ h))

pub calls::over_expr-returns-in-Conditional : goal.calls::over_expr-returns-in-Conditional
calls::over_expr-returns-in-Conditional g t0 c h =
    let env = (seen c.args.around.now (g.N.Natives.titles c.args.natives.now) (g.N.Natives.answer c.args.natives.now)) in
    let ms = c.in-Conditional.field-1.items in
    let a = view c.in-Conditional.first.value in
    let is : view c.args.expr.now ≡ conditional [] a (map view_branch ms) = search (rules, expr_lemmas) in
    let same : view c.args.expr.now ≡ a = is ∙ conditional_closure ms a (ap is_closure (sym is) ∙ h) in
    let there : c.deref-in-Conditional.result.now ≡ c.in-Conditional.first.value = search rules in
    let goes = subst (λ (e : Expr). is_closure (view e) ≡ true → Evaluates (over_items c.args.place (row_method c.args.kind) (block_of (view e) env) (map plain_of c.args.items.now)) c.over_expr-in-Conditional.result) there c.over_expr-in-Conditional.ensures in
    subst (λ (t : Tree). Evaluates (over_items c.args.place (row_method c.args.kind) (block_of t env) (map plain_of c.args.items.now)) c.over_expr-in-Conditional.result) (sym same) (goes (ap is_closure (sym same) ∙ h))

pub calls::over_expr-returns-in-Postfix : goal.calls::over_expr-returns-in-Postfix
calls::over_expr-returns-in-Postfix g t0 c h =
    let env = (seen c.args.around.now (g.N.Natives.titles c.args.natives.now) (g.N.Natives.answer c.args.natives.now)) in
    let ms = c.in-Postfix.field-1.items in
    let a = view c.in-Postfix.first.value in
    let is : view c.args.expr.now ≡ postfix a (map view_postfix ms) = search (rules, expr_lemmas) in
    let same : view c.args.expr.now ≡ a = is ∙ postfix_closure ms a (ap is_closure (sym is) ∙ h) in
    let there : c.deref-in-Postfix.result.now ≡ c.in-Postfix.first.value = search rules in
    let goes = subst (λ (e : Expr). is_closure (view e) ≡ true → Evaluates (over_items c.args.place (row_method c.args.kind) (block_of (view e) env) (map plain_of c.args.items.now)) c.over_expr-in-Postfix.result) there c.over_expr-in-Postfix.ensures in
    subst (λ (t : Tree). Evaluates (over_items c.args.place (row_method c.args.kind) (block_of t env) (map plain_of c.args.items.now)) c.over_expr-in-Postfix.result) (sym same) (goes (ap is_closure (sym same) ∙ h))

pub calls::over_call-returns-in-Function : goal.calls::over_call-returns-in-Function
calls::over_call-returns-in-Function g t0 c xs len =
    let env = (seen c.args.around.now (g.N.Natives.titles c.args.natives.now) (g.N.Natives.answer c.args.natives.now)) in
    let f = block_of (view_closure c.args.closure.now) env in
    let k = callee_of c.args.callee.now in
    let ys = xs ++ block f ∷ [] in
    let same : c.as_str.result.now ≡ c.in-Function.name = search rules in
    subst (λ (o : Placed Plain). Evaluates o (Err c.function_block.result)) (sym (called_at k (and_more xs (λ e. Ok (block (block_of (view_closure c.args.closure.now) e) ∷ []))) (λ e. Ok ys) env refl)) (function_of_blocks k c.in-Function.place c.as_str.result.now ys env c.args.count c.function_block.result (ap callee_of c.in-Function.is ∙ ap (λ m. function c.in-Function.place m) (sym same)) (no_values xs f) (one_more xs f c.args.count len) c.function_block.ensures)

pub calls::over_call-returns-in-Math : goal.calls::over_call-returns-in-Math
calls::over_call-returns-in-Math g t0 c xs len =
    let env = (seen c.args.around.now (g.N.Natives.titles c.args.natives.now) (g.N.Natives.answer c.args.natives.now)) in
    let f = block_of (view_closure c.args.closure.now) env in
    let k = callee_of c.args.callee.now in
    let ys = xs ++ block f ∷ [] in
    let n = c.as_str-in-Math.result.now in
    let same : n ≡ c.in-Math.name = search rules in
    subst (λ (o : Placed Plain). Evaluates o (Err c.math_block.result)) (sym (called_at k (and_more xs (λ e. Ok (block (block_of (view_closure c.args.closure.now) e) ∷ []))) (λ e. Ok ys) env refl)) (math_of_blocks k c.in-Math.place n ys env c.args.count c.math_block.result (ap callee_of c.in-Math.is ∙ ap (λ m. math c.in-Math.place m) (sym same)) (no_values xs f) (one_more xs f c.args.count len) c.math_block.ensures)

pub calls::over_call-returns-in_err-kind-in-Method : goal.calls::over_call-returns-in_err-kind-in-Method
calls::over_call-returns-in_err-kind-in-Method g t0 c xs len =
    let env = (seen c.args.around.now (g.N.Natives.titles c.args.natives.now) (g.N.Natives.answer c.args.natives.now)) in
    let f = block_of (view_closure c.args.closure.now) env in
    let k = callee_of c.args.callee.now in
    let ys = xs ++ block f ∷ [] in
    let n = c.as_str-in-Method.result.now in
    let same : n ≡ c.in-Method.name = search rules in
    let err : c.from_residual.result ≡ Err c.in_err-kind-in-Method.field-0.0 = search rules in
    let fault : Evaluates (called k (λ e. Ok ys) env) (Err c.in_err-kind-in-Method.field-0.0) = method_of_blocks k (plain_of c.in-Method.value) c.in-Method.place n ys env c.args.count c.in_err-kind-in-Method.field-0.0 (ap callee_of c.in-Method.is ∙ ap (λ m. method (plain_of c.in-Method.value) c.in-Method.place m) (sym same)) (no_values xs f) (one_more xs f c.args.count len) c.in_err-kind-in-Method.ensures in
    subst (λ (r : Result Value EvalRefusal). Evaluates (called k (and_more xs (λ e. Ok (block (block_of (view_closure c.args.closure.now) e) ∷ []))) env) r) (sym err) (subst (λ (o : Placed Plain). Evaluates o (Err c.in_err-kind-in-Method.field-0.0)) (sym (called_at k (and_more xs (λ e. Ok (block (block_of (view_closure c.args.closure.now) e) ∷ []))) (λ e. Ok ys) env refl)) fault)

pub calls::over_call-returns-in_ok-kind-in-Method : goal.calls::over_call-returns-in_ok-kind-in-Method
calls::over_call-returns-in_ok-kind-in-Method g t0 c xs len =
    let env = (seen c.args.around.now (g.N.Natives.titles c.args.natives.now) (g.N.Natives.answer c.args.natives.now)) in
    let f = block_of (view_closure c.args.closure.now) env in
    let k = callee_of c.args.callee.now in
    let ys = xs ++ block f ∷ [] in
    let n = c.as_str-in-Method.result.now in
    let same : n ≡ c.in-Method.name = search rules in
    let goes = c.in_ok-kind-in-Method.ensures in
    let one : ys ≡ block f ∷ [] = ap (λ l. l ++ block f ∷ []) (none_before xs c.args.count len goes.0) in
    subst (λ (o : Placed Plain). Evaluates o c.over.result) (sym (called_at k (and_more xs (λ e. Ok (block (block_of (view_closure c.args.closure.now) e) ∷ []))) (λ e. Ok ys) env refl)) (over_one k (plain_of c.in-Method.value) c.in-Method.place n ys f env c.in_ok-kind-in-Method.kind (map plain_of c.listed.result.now) c.over.result (ap callee_of c.in-Method.is ∙ ap (λ m. method (plain_of c.in-Method.value) c.in-Method.place m) (sym same)) one goes.1 c.listed.ensures c.over.ensures)

pub blocks::applied-returns : goal.blocks::applied-returns
blocks::applied-returns g t0 c =
    let env = seen c.args.around.now (g.N.Natives.titles c.args.natives.now) (g.N.Natives.answer c.args.natives.now) in
    let k = c.args.closure.now in
    let ps = params_tree (option_map (λ v. v.items) k.params) in
    let b = view_body k.body in
    let vs = map plain_of c.args.args.now in
    let is : view_closure k ≡ tree.closure k.place ps b = search (rules, closure_lemmas) in
    subst (λ (t : Tree). Evaluates (block_of t env vs) c.body.result) (sym is) (same (block_of (tree.closure k.place ps b) env vs) (body_of b (with_names (names_of c.of.result) (inside env))) c.body.result (applied_is k.place ps b env vs (map pair_of c.in_ok-names.names.items) (names_of c.of.result) c.in_ok-names.ensures c.of.ensures) c.body.ensures)

pub bodies::statements-loop-stmt-preserved : goal.bodies::statements-loop-stmt-preserved
bodies::statements-loop-stmt-preserved g t0 c =
    let env = inside (seen c.args.around.now (g.N.Natives.titles c.args.natives.now) (g.N.Natives.answer c.args.natives.now)) in
    let code = c.args.code.now in
    let k = c.loop-stmt.stmt-index in
    let x = c.stmt-item.result in
    let before = with_names (names_of c.loop-stmt.names) env in
    let after = with_names (names_of c.statement.new.names) env in
    let next : k + 1 ≡ suc k = omega arith in
    let left : drop k code ≡ x ∷ drop (k + 1) code = left_here code k (k + 1) x c.loop-stmt-test.true c.stmt-item.is next in
    let flow = subst (λ (s : Step). Flows ((meaning_of (view_stmt x)).done before) after (Ok s)) c.in-Going.is c.in_ok-value.ensures in
    sym (goes_on (view_stmt x) (map view_stmt (drop (k + 1) code)) before after (plain_of c.loop-stmt.last) (plain_of c.in-Going.value) flow) ∙ sym (ap (λ (l : List Stmt). (meaning_of (view_stmts l)).body before (plain_of c.loop-stmt.last)) left) ∙ c.loop-stmt.invariant

pub bodies::statements-returns-in_err-value : goal.bodies::statements-returns-in_err-value
bodies::statements-returns-in_err-value g t0 c =
    let env = inside (seen c.args.around.now (g.N.Natives.titles c.args.natives.now) (g.N.Natives.answer c.args.natives.now)) in
    let code = c.args.code.now in
    let k = c.loop-stmt.stmt-index in
    let x = c.stmt-item.result in
    let before = with_names (names_of c.loop-stmt.names) env in
    let after = with_names (names_of c.statement.new.names) env in
    let next : k + 1 ≡ suc k = omega arith in
    let left : drop k code ≡ x ∷ drop (k + 1) code = left_here code k (k + 1) x c.loop-stmt-test.true c.stmt-item.is next in
    let err : c.from_residual.result ≡ Err c.in_err-value.field-0.0 = search rules in
    flows_refused _ ((meaning_of (view_stmts (x ∷ drop (k + 1) code))).body before (plain_of c.loop-stmt.last)) after c.in_err-value.field-0.0 c.from_residual.result err (sym c.loop-stmt.invariant ∙ ap (λ (l : List Stmt). (meaning_of (view_stmts l)).body before (plain_of c.loop-stmt.last)) left) (stops_at (view_stmt x) (map view_stmt (drop (k + 1) code)) before (plain_of c.loop-stmt.last) c.in_err-value.field-0.0 c.in_err-value.ensures)

pub bodies::statements-returns-in-Returned : goal.bodies::statements-returns-in-Returned
bodies::statements-returns-in-Returned g t0 c =
    let env = inside (seen c.args.around.now (g.N.Natives.titles c.args.natives.now) (g.N.Natives.answer c.args.natives.now)) in
    let code = c.args.code.now in
    let k = c.loop-stmt.stmt-index in
    let x = c.stmt-item.result in
    let before = with_names (names_of c.loop-stmt.names) env in
    let after = with_names (names_of c.statement.new.names) env in
    let next : k + 1 ≡ suc k = omega arith in
    let left : drop k code ≡ x ∷ drop (k + 1) code = left_here code k (k + 1) x c.loop-stmt-test.true c.stmt-item.is next in
    let flow = subst (λ (s : Step). Flows ((meaning_of (view_stmt x)).done before) after (Ok s)) c.in-Returned.is c.in_ok-value.ensures in
    sym c.loop-stmt.invariant ∙ ap (λ (l : List Stmt). (meaning_of (view_stmts l)).body before (plain_of c.loop-stmt.last)) left ∙ returns_from (view_stmt x) (map view_stmt (drop (k + 1) code)) before (plain_of c.loop-stmt.last) (plain_of c.in-Returned.value) flow

pub bodies::statement-returns-in_err-step-in-Choice-default-None : goal.bodies::statement-returns-in_err-step-in-Choice-default-None
bodies::statement-returns-in_err-step-in-Choice-default-None g t0 c =
    let env = inside (seen c.args.around.now (g.N.Natives.titles c.args.natives.now) (g.N.Natives.answer c.args.natives.now)) in
    let before = with_names (names_of c.args.names.now) env in
    let after = with_names (names_of c.arms.new.names) env in
    let list = c.in-Choice-default-None.list.items in
    let r = c.in_err-step-in-Choice-default-None.field-0.0 in
    let is : view_stmt c.args.stmt.now ≡ choice (map view_arm list) tree.empty = search (rules, stmt_lemmas) in
    let there : c.deref-in-Choice-default-None.result.now ≡ list = search rules in
    let err : c.from_residual-in_err-step-in-Choice-default-None.result ≡ Err r = search rules in
    let goes = subst (λ (xs : List Arm). Takes ((meaning_of (choice (map view_arm xs) tree.empty)).done before) ((meaning_of tree.empty).done after) after (Err r)) there (c.in_err-step-in-Choice-default-None.ensures tree.empty) in
    flows_on ((meaning_of (view_stmt c.args.stmt.now)).done before) ((meaning_of (choice (map view_arm list) tree.empty)).done before) after c.from_residual-in_err-step-in-Choice-default-None.result (ap (λ (t : Tree). (meaning_of t).done before) is) (arms_refused ((meaning_of (choice (map view_arm list) tree.empty)).done before) ((meaning_of tree.empty).done after) after r c.from_residual-in_err-step-in-Choice-default-None.result err goes)

pub bodies::statement-returns-in_err-step-in-Choice-default-Some : goal.bodies::statement-returns-in_err-step-in-Choice-default-Some
bodies::statement-returns-in_err-step-in-Choice-default-Some g t0 c =
    let env = inside (seen c.args.around.now (g.N.Natives.titles c.args.natives.now) (g.N.Natives.answer c.args.natives.now)) in
    let before = with_names (names_of c.args.names.now) env in
    let after = with_names (names_of c.arms-in-Choice-default-Some.new.names) env in
    let list = c.in-Choice-default-Some.list.items in
    let last = else_of c.args.stmt.now in
    let r = c.in_err-step-in-Choice-default-Some.field-0.0 in
    let is : view_stmt c.args.stmt.now ≡ choice (map view_arm list) last = search (rules, stmt_lemmas) in
    let there : c.deref-in-Choice-default-Some.result.now ≡ list = search rules in
    let err : c.from_residual-in_err-step-in-Choice-default-Some.result ≡ Err r = search rules in
    let goes = subst (λ (xs : List Arm). Takes ((meaning_of (choice (map view_arm xs) last)).done before) ((meaning_of last).done after) after (Err r)) there (c.in_err-step-in-Choice-default-Some.ensures last) in
    flows_on ((meaning_of (view_stmt c.args.stmt.now)).done before) ((meaning_of (choice (map view_arm list) last)).done before) after c.from_residual-in_err-step-in-Choice-default-Some.result (ap (λ (t : Tree). (meaning_of t).done before) is) (arms_refused ((meaning_of (choice (map view_arm list) last)).done before) ((meaning_of last).done after) after r c.from_residual-in_err-step-in-Choice-default-Some.result err goes)

pub bodies::statement-returns-in_ok-define_all-in-DefineAll : goal.bodies::statement-returns-in_ok-define_all-in-DefineAll
bodies::statement-returns-in_ok-define_all-in-DefineAll g t0 c =
    let env = inside (seen c.args.around.now (g.N.Natives.titles c.args.natives.now) (g.N.Natives.answer c.args.natives.now)) in
    let e = view c.in-DefineAll.expr in
    let xs = names c.in-DefineAll.list.items in
    let v = plain_of c.in_ok-value-in-DefineAll.value in
    let bs = map pair_of c.in_ok-parts-in-DefineAll.parts.items in
    let is : view_stmt c.args.stmt.now ≡ tree.define_all c.in-DefineAll.place xs e = search (rules, stmt_lemmas) in
    let value : eval_of e (with_names (names_of c.args.names.now) env) ≡ Ok v = search (rules, around_lemmas) in
    let there : c.deref.result.now ≡ c.in-DefineAll.list.items = search rules in
    splits_all (view_stmt c.args.stmt.now) e env (names_of c.args.names.now) v c.in-DefineAll.place xs bs (names_of c.define_all.new.self) is value (ap (λ (l : List (Place × List ℕ)). split c.in-DefineAll.place (names_in (names l)) v) (sym there) ∙ c.in_ok-parts-in-DefineAll.ensures) c.in_ok-define_all-in-DefineAll.ensures

pub bodies::statement-returns-in-Some : goal.bodies::statement-returns-in-Some
bodies::statement-returns-in-Some g t0 c =
    let env = inside (seen c.args.around.now (g.N.Natives.titles c.args.natives.now) (g.N.Natives.answer c.args.natives.now)) in
    let before = with_names (names_of c.args.names.now) env in
    let after = with_names (names_of c.arms.new.names) env in
    let list = c.in-Choice-default-None.list.items in
    let s = c.in-Some.step in
    let is : view_stmt c.args.stmt.now ≡ choice (map view_arm list) tree.empty = search (rules, stmt_lemmas) in
    let there : c.deref-in-Choice-default-None.result.now ≡ list = search rules in
    let all = (meaning_of (choice (map view_arm list) tree.empty)).done before in
    let goes = subst (λ (xs : List Arm). Takes ((meaning_of (choice (map view_arm xs) tree.empty)).done before) ((meaning_of tree.empty).done after) after (Ok c.in_ok-step-in-Choice-default-None.field-0)) there (c.in_ok-step-in-Choice-default-None.ensures tree.empty) in
    let some = subst (λ (o : Option Step). Takes all ((meaning_of tree.empty).done after) after (Ok o)) c.in-Some.is goes in
    flows_on ((meaning_of (view_stmt c.args.stmt.now)).done before) all after (Ok s) (ap (λ (t : Tree). (meaning_of t).done before) is) (arm_flows all ((meaning_of tree.empty).done after) after s some)

pub bodies::statement-returns-in-None : goal.bodies::statement-returns-in-None
bodies::statement-returns-in-None g t0 c =
    let env = inside (seen c.args.around.now (g.N.Natives.titles c.args.natives.now) (g.N.Natives.answer c.args.natives.now)) in
    let before = with_names (names_of c.args.names.now) env in
    let after = with_names (names_of c.arms.new.names) env in
    let list = c.in-Choice-default-None.list.items in
    let is : view_stmt c.args.stmt.now ≡ choice (map view_arm list) tree.empty = search (rules, stmt_lemmas) in
    let there : c.deref-in-Choice-default-None.result.now ≡ list = search rules in
    let all = (meaning_of (choice (map view_arm list) tree.empty)).done before in
    let goes = subst (λ (xs : List Arm). Takes ((meaning_of (choice (map view_arm xs) tree.empty)).done before) ((meaning_of tree.empty).done after) after (Ok c.in_ok-step-in-Choice-default-None.field-0)) there (c.in_ok-step-in-Choice-default-None.ensures tree.empty) in
    let none = subst (λ (o : Option Step). Takes all ((meaning_of tree.empty).done after) after (Ok o)) c.in-None.is goes in
    ap (λ (t : Tree). (meaning_of t).done before) is ∙ none

pub bodies::statement-returns-in-Some-2 : goal.bodies::statement-returns-in-Some-2
bodies::statement-returns-in-Some-2 g t0 c =
    let env = inside (seen c.args.around.now (g.N.Natives.titles c.args.natives.now) (g.N.Natives.answer c.args.natives.now)) in
    let before = with_names (names_of c.args.names.now) env in
    let after = with_names (names_of c.arms-in-Choice-default-Some.new.names) env in
    let list = c.in-Choice-default-Some.list.items in
    let last = else_of c.args.stmt.now in
    let s = c.in-Some-2.step in
    let is : view_stmt c.args.stmt.now ≡ choice (map view_arm list) last = search (rules, stmt_lemmas) in
    let there : c.deref-in-Choice-default-Some.result.now ≡ list = search rules in
    let all = (meaning_of (choice (map view_arm list) last)).done before in
    let goes = subst (λ (xs : List Arm). Takes ((meaning_of (choice (map view_arm xs) last)).done before) ((meaning_of last).done after) after (Ok c.in_ok-step-in-Choice-default-Some.field-0)) there (c.in_ok-step-in-Choice-default-Some.ensures last) in
    let some = subst (λ (o : Option Step). Takes all ((meaning_of last).done after) after (Ok o)) c.in-Some-2.is goes in
    flows_on ((meaning_of (view_stmt c.args.stmt.now)).done before) all after (Ok s) (ap (λ (t : Tree). (meaning_of t).done before) is) (arm_flows all ((meaning_of last).done after) after s some)

pub bodies::statement-returns-in-None-2 : goal.bodies::statement-returns-in-None-2
bodies::statement-returns-in-None-2 g t0 c =
    let env = inside (seen c.args.around.now (g.N.Natives.titles c.args.natives.now) (g.N.Natives.answer c.args.natives.now)) in
    let before = with_names (names_of c.args.names.now) env in
    let middle = with_names (names_of c.arms-in-Choice-default-Some.new.names) env in
    let after = with_names (names_of c.otherwise.new.names) env in
    let list = c.in-Choice-default-Some.list.items in
    let last = else_of c.args.stmt.now in
    let is : view_stmt c.args.stmt.now ≡ choice (map view_arm list) last = search (rules, stmt_lemmas) in
    let there : c.deref-in-Choice-default-Some.result.now ≡ list = search rules in
    let all = (meaning_of (choice (map view_arm list) last)).done before in
    let goes = subst (λ (xs : List Arm). Takes ((meaning_of (choice (map view_arm xs) last)).done before) ((meaning_of last).done middle) middle (Ok c.in_ok-step-in-Choice-default-Some.field-0)) there (c.in_ok-step-in-Choice-default-Some.ensures last) in
    let none = subst (λ (o : Option Step). Takes all ((meaning_of last).done middle) middle (Ok o)) c.in-None-2.is goes in
    flows_on ((meaning_of (view_stmt c.args.stmt.now)).done before) ((meaning_of last).done middle) after c.otherwise.result (ap (λ (t : Tree). (meaning_of t).done before) is ∙ none) c.otherwise.ensures

pub bodies::block-returns-in_err-last : goal.bodies::block-returns-in_err-last
bodies::block-returns-in_err-last g t0 c =
    let is : c.from_residual.result ≡ Err c.in_err-last.field-0.0 = search rules in
    block_refused (view_stmts c.args.code.now) (inside (seen c.args.around.now (g.N.Natives.titles c.args.natives.now) (g.N.Natives.answer c.args.natives.now))) (names_of c.args.names.now) (names_of c.statements.new.names) c.in_err-last.field-0.0 c.from_residual.result is c.in_err-last.ensures

pub bodies::block-returns : goal.bodies::block-returns
bodies::block-returns g t0 c =
    let after : names_of c.leave.new.self ≡ drop (length (names_of c.statements.new.names) - length (names_of c.args.names.now)) (names_of c.statements.new.names) = c.leave.ensures ∙ ap (λ k. drop (length (names_of c.statements.new.names) - k) (names_of c.statements.new.names)) c.len-count.ensures in
    block_flows (view_stmts c.args.code.now) (inside (seen c.args.around.now (g.N.Natives.titles c.args.natives.now) (g.N.Natives.answer c.args.natives.now))) (names_of c.args.names.now) (names_of c.statements.new.names) (names_of c.leave.new.self) c.in_ok-last.last c.in_ok-last.ensures after

pub bodies::arms-returns-in_err-condition : goal.bodies::arms-returns-in_err-condition
bodies::arms-returns-in_err-condition g t0 c last =
    let around = inside (seen c.args.around.now (g.N.Natives.titles c.args.natives.now) (g.N.Natives.answer c.args.natives.now)) in
    let list = c.args.list.now in
    let k = c.loop-arm.arm-index in
    let x = c.arm-item.result in
    let env = with_names (names_of c.loop-arm.names) around in
    let next : k + 1 ≡ suc k = omega arith in
    let left : drop k list ≡ x ∷ drop (k + 1) list = left_here list k (k + 1) x c.loop-arm-test.true c.arm-item.is next in
    let of : (view_arm x).condition ≡ view x.condition = search (rules, arm_lemmas) in
    let no_value : Evaluates (eval_of (view x.condition) env) (Err c.in_err-condition.field-0.0) = search (rules, around_lemmas) in
    let err : c.from_residual.result ≡ Err c.in_err-condition.field-0.0 = search rules in
    takes_refused _ _ ((meaning_of (choice (map view_arm (x ∷ drop (k + 1) list)) last)).done env) _ c.in_err-condition.field-0.0 c.from_residual.result err (sym (c.loop-arm.invariant last) ∙ ap (λ (l : List Arm). (meaning_of (choice (map view_arm l) last)).done env) left) (condition_refused (view_arm x) (map view_arm (drop (k + 1) list)) last env c.in_err-condition.field-0.0 (refused_at ((meaning_of (view_arm x).condition).value env) (eval_of (view x.condition) env) c.in_err-condition.field-0.0 (ap (λ (t : Tree). (meaning_of t).value env) of) (refused (eval_of (view x.condition) env) c.in_err-condition.field-0.0 no_value)))

pub bodies::arms-returns-in_err-last : goal.bodies::arms-returns-in_err-last
bodies::arms-returns-in_err-last g t0 c last =
    let around = inside (seen c.args.around.now (g.N.Natives.titles c.args.natives.now) (g.N.Natives.answer c.args.natives.now)) in
    let list = c.args.list.now in
    let k = c.loop-arm.arm-index in
    let x = c.arm-item.result in
    let env = with_names (names_of c.loop-arm.names) around in
    let next : k + 1 ≡ suc k = omega arith in
    let left : drop k list ≡ x ∷ drop (k + 1) list = left_here list k (k + 1) x c.loop-arm-test.true c.arm-item.is next in
    let of : (view_arm x).condition ≡ view x.condition = search (rules, arm_lemmas) in
    let body : (view_arm x).body ≡ view_stmts c.deref.result.now = search (rules, arm_lemmas) in
    let value : eval_of (view x.condition) env ≡ Ok (plain_of c.in_ok-condition.condition) = search (rules, around_lemmas) in
    let gives : (meaning_of (view_arm x).condition).value env ≡ Ok (plain_of c.in_ok-condition.condition) = ap (λ (t : Tree). (meaning_of t).value env) of ∙ value in
    let err : c.from_residual-in_err-last.result ≡ Err c.in_err-last.field-0.0 = search rules in
    takes_refused _ _ ((meaning_of (tree.statements (view_stmts c.deref.result.now))).done env) _ c.in_err-last.field-0.0 c.from_residual-in_err-last.result err (sym (c.loop-arm.invariant last) ∙ ap (λ (l : List Arm). (meaning_of (choice (map view_arm l) last)).done env) left ∙ gone_into (view_arm x) (map view_arm (drop (k + 1) list)) last env (plain_of c.in_ok-condition.condition) gives (sym c.truth.ensures ∙ c.if-truth.true) ∙ ap (λ (b : Tree). (meaning_of (tree.statements b)).done env) body) c.in_err-last.ensures

pub bodies::arms-returns-then-truth : goal.bodies::arms-returns-then-truth
bodies::arms-returns-then-truth g t0 c last =
    let around = inside (seen c.args.around.now (g.N.Natives.titles c.args.natives.now) (g.N.Natives.answer c.args.natives.now)) in
    let list = c.args.list.now in
    let k = c.loop-arm.arm-index in
    let x = c.arm-item.result in
    let env = with_names (names_of c.loop-arm.names) around in
    let next : k + 1 ≡ suc k = omega arith in
    let left : drop k list ≡ x ∷ drop (k + 1) list = left_here list k (k + 1) x c.loop-arm-test.true c.arm-item.is next in
    let of : (view_arm x).condition ≡ view x.condition = search (rules, arm_lemmas) in
    let body : (view_arm x).body ≡ view_stmts c.deref.result.now = search (rules, arm_lemmas) in
    let value : eval_of (view x.condition) env ≡ Ok (plain_of c.in_ok-condition.condition) = search (rules, around_lemmas) in
    let gives : (meaning_of (view_arm x).condition).value env ≡ Ok (plain_of c.in_ok-condition.condition) = ap (λ (t : Tree). (meaning_of t).value env) of ∙ value in
    takes_step _ ((meaning_of last).done env) ((meaning_of (tree.statements (view_stmts c.deref.result.now))).done env) _ c.in_ok-last.last (sym (c.loop-arm.invariant last) ∙ ap (λ (l : List Arm). (meaning_of (choice (map view_arm l) last)).done env) left ∙ gone_into (view_arm x) (map view_arm (drop (k + 1) list)) last env (plain_of c.in_ok-condition.condition) gives (sym c.truth.ensures ∙ c.if-truth.true) ∙ ap (λ (b : Tree). (meaning_of (tree.statements b)).done env) body) c.in_ok-last.ensures

pub bodies::arms-loop-arm-preserved : goal.bodies::arms-loop-arm-preserved
bodies::arms-loop-arm-preserved g t0 c last =
    let around = inside (seen c.args.around.now (g.N.Natives.titles c.args.natives.now) (g.N.Natives.answer c.args.natives.now)) in
    let list = c.args.list.now in
    let k = c.loop-arm.arm-index in
    let x = c.arm-item.result in
    let env = with_names (names_of c.loop-arm.names) around in
    let next : k + 1 ≡ suc k = omega arith in
    let left : drop k list ≡ x ∷ drop (k + 1) list = left_here list k (k + 1) x c.loop-arm-test.true c.arm-item.is next in
    let of : (view_arm x).condition ≡ view x.condition = search (rules, arm_lemmas) in
    let value : eval_of (view x.condition) env ≡ Ok (plain_of c.in_ok-condition.condition) = search (rules, around_lemmas) in
    let gives : (meaning_of (view_arm x).condition).value env ≡ Ok (plain_of c.in_ok-condition.condition) = ap (λ (t : Tree). (meaning_of t).value env) of ∙ value in
    sym (passed_by (view_arm x) (map view_arm (drop (k + 1) list)) last env (plain_of c.in_ok-condition.condition) gives (sym c.truth.ensures ∙ c.if-truth.false)) ∙ sym (ap (λ (l : List Arm). (meaning_of (choice (map view_arm l) last)).done env) left) ∙ c.loop-arm.invariant last

pub bodies::arms-returns : goal.bodies::arms-returns
bodies::arms-returns g t0 c last =
    let around = inside (seen c.args.around.now (g.N.Natives.titles c.args.natives.now) (g.N.Natives.answer c.args.natives.now)) in
    let list = c.args.list.now in
    let k = c.loop-arm.arm-index in
    let env = with_names (names_of c.loop-arm.names) around in
    let none : drop k list ≡ [] = none_left list k c.loop-arm-test.false in
    sym (c.loop-arm.invariant last) ∙ ap (λ (l : List Arm). (meaning_of (choice (map view_arm l) last)).done env) none

pub value_calls::of_values-returns-in-Method : goal.value_calls::of_values-returns-in-Method
value_calls::of_values-returns-in-Method g t0 c xs some =
    let env = seen c.args.around.now (g.N.Natives.titles c.args.natives.now) (g.N.Natives.answer c.args.natives.now) in
    let same : c.as_str.result.now ≡ c.in-Method.name = search rules in
    method_of_values (callee_of c.args.callee.now) (plain_of c.in-Method.value) c.in-Method.place c.as_str.result.now xs c.args.values.now env c.method_value.result (ap callee_of c.in-Method.is ∙ ap (λ m. method (plain_of c.in-Method.value) c.in-Method.place m) (sym same)) some c.method_value.ensures

pub value_calls::of_values-returns-in-Function : goal.value_calls::of_values-returns-in-Function
value_calls::of_values-returns-in-Function g t0 c xs some =
    let env = seen c.args.around.now (g.N.Natives.titles c.args.natives.now) (g.N.Natives.answer c.args.natives.now) in
    let same : c.as_str-in-Function.result.now ≡ c.in-Function.name = search rules in
    function_of_values (callee_of c.args.callee.now) c.in-Function.place c.as_str-in-Function.result.now xs c.args.values.now env c.by_name.result (ap callee_of c.in-Function.is ∙ ap (λ m. function c.in-Function.place m) (sym same)) some c.by_name.ensures

pub value_calls::of_values-returns-in-Math : goal.value_calls::of_values-returns-in-Math
value_calls::of_values-returns-in-Math g t0 c xs some =
    let env = seen c.args.around.now (g.N.Natives.titles c.args.natives.now) (g.N.Natives.answer c.args.natives.now) in
    let same : c.as_str-in-Math.result.now ≡ c.in-Math.name = search rules in
    math_of_values (callee_of c.args.callee.now) c.in-Math.place c.as_str-in-Math.result.now xs c.args.values.now env c.math_value.result (ap callee_of c.in-Math.is ∙ ap (λ m. math c.in-Math.place m) (sym same)) some c.math_value.ensures

pub value_calls::by_name-returns-in-Some : goal.value_calls::by_name-returns-in-Some
value_calls::by_name-returns-in-Some g t0 c =
    let titles = g.N.Natives.titles c.args.natives.now in
    let answer = g.N.Natives.answer c.args.natives.now in
    let env = seen c.args.around.now titles answer in
    let n = c.args.name.now in
    subst (λ (f : Option Function). Evaluates (by_function f c.args.place n env c.args.values.now) c.by_script.result) (sym (c.in-Some.ensures.found titles answer)) (c.by_script.ensures n)

pub value_calls::by_name-returns-in-None : goal.value_calls::by_name-returns-in-None
value_calls::by_name-returns-in-None g t0 c =
    let titles = g.N.Natives.titles c.args.natives.now in
    let answer = g.N.Natives.answer c.args.natives.now in
    let env = seen c.args.around.now titles answer in
    handed_on c.args.place c.args.name.now env titles answer c.args.values.now c.native_value.result (c.in-None.ensures.found titles answer) (c.handed_in.ensures titles answer) c.native_value.ensures

pub value_calls::by_script-run-requires : goal.value_calls::by_script-run-requires
value_calls::by_script-run-requires g t0 c κs within =
    let inner = around.Called c.args.earlier c.args.around in
    let seen_there : depths (held inner) ≡ depths c.args.earlier.now = ap depths (search (rules, around_lemmas)) in
    let code : depth c.deref-2.result.now ≡ depth c.args.function.now.body.items = ap depth (search rules) in
    let falls : (most size-Stmt c.deref-2.result.now + depths (held inner)) * 64 + 30 < t0 = omega (arith, seen_there, code, depth_is c.deref-2.result.now, c.requires.lighter, c.decreases) in
    (falls, search rules)

pub value_calls::by_script-returns-then-len : goal.value_calls::by_script-returns-then-len
value_calls::by_script-returns-then-len g t0 c name =
    let titles = g.N.Natives.titles c.args.natives.now in
    let answer = g.N.Natives.answer c.args.natives.now in
    let env = seen c.args.around.now titles answer in
    let vs = c.args.values.now in
    let other : length c.args.function.now.params.items ≡ length vs → ⊥ = λ e. omega (arith, e, c.if-len.true, c.len.ensures, c.len-2.ensures) in
    wrong_count c.args.function.now c.args.earlier.now env.patterns titles answer c.args.place name env vs c.fault_at.result other c.fault_at.ensures

pub value_calls::by_script-returns : goal.value_calls::by_script-returns
value_calls::by_script-returns g t0 c name =
    let titles = g.N.Natives.titles c.args.natives.now in
    let answer = g.N.Natives.answer c.args.natives.now in
    let env = seen c.args.around.now titles answer in
    let vs = c.args.values.now in
    let f = c.args.function.now in
    let before = definitions_in c.args.earlier.now in
    let inner = around.Called c.args.earlier c.args.around in
    let ns = names_of c.of.result in
    let bs = map pair_of c.in_ok-names.names.items in
    let count : length f.params.items ≡ length vs = omega (arith, c.if-len.false, c.len.ensures, c.len-2.ensures) in
    let params : c.deref.result.now ≡ f.params.items = search rules in
    let code : c.deref-2.result.now ≡ f.body.items = search rules in
    let seen_there : seen inner titles answer ≡ called_env before env.patterns titles answer = search (rules, around_lemmas) in
    let these : bs ≡ paired (names_in (names f.params.items)) vs = c.in_ok-names.ensures ∙ ap (λ (xs : List (Place × List ℕ)). paired (names_in (names xs)) (map plain_of c.items.result.now)) params ∙ ap (paired (names_in (names f.params.items))) c.items.ensures in
    let gives : Evaluates (body_of (view_stmts c.deref-2.result.now) (with_names ns (inside (seen inner titles answer)))) c.run.result = search rules in
    let there : Evaluates (body_of (view_stmts c.deref-2.result.now) (with_names ns (called_env before env.patterns titles answer))) c.run.result = subst (λ (e : Env). Evaluates (body_of (view_stmts c.deref-2.result.now) (with_names ns (inside e))) c.run.result) seen_there gives in
    let done : Evaluates (body_of (view_stmts f.body.items) (with_names ns (called_env before env.patterns titles answer))) c.run.result = subst (λ (ss : List Stmt). Evaluates (body_of (view_stmts ss) (with_names ns (called_env before env.patterns titles answer))) c.run.result) code there in
    same _ (body_of (view_stmts f.body.items) (with_names ns (called_env before env.patterns titles answer))) c.run.result (right_count f c.args.earlier.now env.patterns titles answer c.args.place name env vs count ∙ body_given f c.args.earlier.now env.patterns titles answer vs bs ns these c.of.ensures) done
