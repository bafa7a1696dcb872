use Rattle.nf_applied.proofs.Arguments.{none_fits, step_fails}
use Rattle.nf_applied.proofs.Rooms.{goes_keeps, leaves_counted, leaves_on, room_for_one, room_kept, room_left}
use Rattle.nf_applied.proofs.Rows.{set_has_name}
use Rattle.nf_applied.specs.Applied.{of_count, of_named_outputs}
use Rattle.nf_applied.specs.Rooms.{HasRoomFor, LeavesRoom, Used}
use Rattle.nf_applied.specs.Taking.{a_taken}
use Rattle.nf_arguments.proofs.Behind.{written_closure}
use Rattle.nf_arguments.specs.Args.{count_in, written_arg, written_args, written_in}
use Rattle.nf_arguments.specs.Written.{args_in, closure_arg, plain_label}
use Rattle.nf_arguments.specs.declared.one.One.{One}
use Rattle.nf_arguments.specs.declared.written.Written.{Written}
use Rattle.nf_ast.specs.Tops.{maybe, view_emit, view_emits, view_parts, view_process, view_workflow, view_workflow_body}
use Rattle.nf_ast.specs.Tree.{Tree}
use Rattle.nf_ast.specs.View.{ArmTree, choice, last_arm, name_tree, names, trees, view, view_arg, view_arm, view_closure, view_stmt, view_stmts, views}
use Rattle.nf_ast.specs.declared.expr.Arm.{Arm, the_lemmas as arm_lemmas}
use Rattle.nf_ast.specs.declared.expr.ClosureExpr.{the_lemmas as closure_lemmas}
use Rattle.nf_ast.specs.declared.expr.Stmt.{Stmt, the_lemmas as stmt_lemmas}
use Rattle.nf_ast.specs.declared.tops.Emit.{Emit}
use Rattle.nf_ast.specs.declared.tops.Emits.{Emits}
use Rattle.nf_bag.specs.declared.rows.Row.TheVariants.{Set}
use Rattle.nf_callees.specs.Found.{defined_in}
use Rattle.nf_calling.specs.Calls.{called_fault, process_fault}
use Rattle.nf_calling.specs.Goes.{GoesCalled}
use Rattle.nf_eval.specs.Evaluation.{opening}
use Rattle.nf_applied.proofs.Looking.{lost_later}
use Rattle.nf_applied.specs.Sources.{a_path, items_of as channel_items, placed, plain_pair, with_files}
use Rattle.nf_follows.specs.Things.{OutputsRead, ThingReads}
use Rattle.nf_fronts.specs.Fronts.{tree_of}
use Rattle.nf_fronts.specs.Lasts.{IsLast, maybe_tree}
use Rattle.nf_fronts.specs.declared.front.Front.{Front}
use Rattle.nf_graph.specs.declared.port.Port.{Port}
use Rattle.nf_job.specs.JobText.{file_plain}
use Rattle.nf_leading.specs.Wanted.{HasNoFile, IsThing, IsUnit, IsValue, WantsValue}
use Rattle.nf_lower.proofs.Callees.{call_refused, named_as, operator_listed, process_plain, under_name, workflow_defined, workflow_plain}
use Rattle.nf_lower.proofs.Calling.{args_fail, args_then, called_name, called_property, called_refused, closed_alone, member_of_thing, method_of_thing, thing_fails, thing_then, with_these}
use Rattle.nf_lower.proofs.Chaining.{is_call, is_callable, is_name, one_of}
use Rattle.nf_lower.proofs.Emits.{emitted_fails, label_fails, label_lost, output_given}
use Rattle.nf_lower.proofs.Entering.{IsInside, IsOutside, into_fails, into_gives, into_lost, into_none, is_inside, names_stand, table_reads}
use Rattle.nf_lower.proofs.Measures.{arm_deep, depth_of, emit_deep, entered_falls, first_deep, last_deep, of_deep, receiver_deep, with_deep}
use Rattle.nf_lower.proofs.Methods.{method_of_port, method_of_results, method_of_value, unknown_method}
use Rattle.nf_lower.proofs.Named.{args_after, args_fail_here, args_read, begin_fails, begun, called_at_last, check_passes, check_stops, enter_fails, entered_at_last, process_is, process_left, workflow_args, workflow_args_fail, workflow_begun, workflow_fails, workflow_is, workflow_left}
use Rattle.nf_lower.proofs.Objects.{bound_method, free_method_of, no_method, source_method}
use Rattle.nf_lower.proofs.Operating.{all_anywhere, all_given, all_take_fails, count_fails, fed_as, fed_fails, fetch_fails, got_fails, got_given, inputs_taken, is_other, met_fails, met_given, named_fails, named_given, one_goes, one_refused, one_still, receiver_given, receiver_none, receiver_reads, room_by_count, room_counted, room_taken, set_given, start_fails, take_fails, thing_other, thing_refused, thing_set}
use Rattle.nf_lower.proofs.Piping.{first_before, has_args, head_called, head_named, head_of_thing, is_named, is_named_alone, named_refused, pipe_ends, pipe_fails_flowing, pipe_fails_head, pipe_headed}
use Rattle.nf_lower.proofs.Ports.{channels_begin, channels_end, channels_fail, channels_go, count_begins, count_ends, count_goes, first_reads, lost_with, none_read, one_longer, rest_reads}
use Rattle.nf_lower.proofs.Sourcing.{all_fail, all_then, alone_from, as_channel, at_most_one, file_given, file_refused, for_source, item_fails, item_given, item_named, item_plain, item_range, item_value, items_from, made_so, named_step, no_single, none_from, one_reads, option_refused, pair_fails, pair_given, pairs_go, pairs_on, path_fails, path_given, paths_begin, paths_end, paths_fail, paths_go, plain_step, refused_so, row_begins, row_ends, row_fails, row_goes, source_items_fail, source_items_given, source_refused, source_uncounted, takes_so_many}
use Rattle.nf_lower.proofs.Standing.{written_after}
use Rattle.nf_lower.proofs.Takes.{never_before, none_more, none_unnamed, one_written, port_taken, ports_as, ports_as_on, ports_end, ports_go, same_ports_on, takes_begin, takes_end, takes_fail, takes_go, value_taken, written_step}
use Rattle.nf_lower.specs.Operators.{reads_in}
use Rattle.nf_lower.specs.Taking.{MorePorts}
use Rattle.nf_meaning.specs.Arguments.{is_unnamed, unnamed, unnamed_channel}
use Rattle.nf_meaning.specs.Calls.{process_call, workflow_call}
use Rattle.nf_meaning.specs.Expressions.{channel_wanted, not_tied_to_file, value_wanted}
use Rattle.nf_meaning.specs.Names.{a_file, a_function, a_process, a_workflow, an_operator, is_channel_word, unknown}
use Rattle.nf_meaning.specs.Operators.{counted_all}
use Rattle.nf_meaning.specs.Places.{begins_at}
use Rattle.nf_meaning.specs.Script.{emit_value, emits_of, label_of, take_in, taken_twice, workflow_walk}
use Rattle.nf_meaning.specs.Sizes.{counted}
use Rattle.nf_meaning.specs.Sources.{item_arg as one_item_arg, item_args as all_items, items_by, only_value, only_value as one_value, only_values as all_values}
use Rattle.nf_meaning.specs.Stands.{read, results}
use Rattle.nf_meaning.specs.Taken.{ports_of}
use Rattle.nf_meaning.specs.Things.{a_value as known_value, queue}
use Rattle.nf_meaning.specs.Walk.{Walk, assigning, defining, gives, in_braces, with_scope, ◌>>=◌}
use Rattle.nf_meaning.specs.Workflow.{define_each, list_made, part_of}
use Rattle.nf_meaning.specs.declared.fault.LowerFault.TheVariants.{BadOption, Mem, UnknownName}
use Rattle.nf_opargs.specs.Sources.{fits_kind}
use Rattle.nf_optable.specs.Rows.{operator_rows, row_of}
use Rattle.nf_optable.specs.declared.operator.Operator.TheVariants.{Bag}
use Rattle.nf_optable.specs.declared.rows.OpRow.{OpRow}
use Rattle.nf_calling.proofs.Places.{member_reads}
use Rattle.nf_plan.specs.Counts.{Grows}
use Rattle.nf_plan.specs.Plans.{HasRoom}
use Rattle.nf_scopes.specs.Held.{Holds}
use Rattle.nf_scopes.specs.Standing.{Finds, TellsDefined}
use Rattle.nf_scopes.specs.Things.{output_of}
use Rattle.nf_scopes.specs.declared.names.BodyNames.{BodyNames}
use Rattle.nf_scopes.specs.declared.things.CallOutput.{CallOutput}
use Rattle.nf_applied.specs.Taken.{with_channel, with_literal, with_start}
use Rattle.nf_takes.specs.Takes.{FaultIs, labels_of, name_at}
use Rattle.nf_value.specs.Truth.{truth_of}
use Rattle.nf_value.specs.View.{plain_of}
use Rattle.nf_value.specs.declared.place.Place.{Place}
use Rattle.nf_value.specs.declared.value.Value.{Value}
use Rattle.nf_walked.proofs.Arguing.{arg_fails, arg_wanted, before_given, closure_refused, label_refused, no_label_given, plain_given, written_given}
use Rattle.nf_walked.proofs.Binding.{from_value}
use Rattle.nf_walked.proofs.Bodies.{NoIn, body_begins, body_ends, body_fails, body_goes}
use Rattle.nf_walked.proofs.Bodywalks.{alone_emits, alone_fails, nothing_given}
use Rattle.nf_walked.proofs.Braces.{IsSame, braced, braces_fail}
use Rattle.nf_walked.proofs.Channels.{channel_added, channel_fails}
use Rattle.nf_walked.proofs.Checks.{checked}
use Rattle.nf_walked.proofs.Choices.{arm_of, block_walk, choice_begins, choice_else, choice_ends, choice_fails, choice_goes, choice_takes}
use Rattle.nf_walked.proofs.Defining.{Tells, defined_anew, defined_twice}
use Rattle.nf_walked.proofs.Depths.{part_within}
use Rattle.nf_walked.proofs.Emitting.{AreOutputs, emits_begin, emits_end, emits_fail, emits_from, emits_go, fit_more, rest_from}
use Rattle.nf_walked.proofs.Expressions.{led_nowhere, led_to, of_args_here, when_alone, when_led}
use Rattle.nf_walked.proofs.Goings.{anything, goes_on}
use Rattle.nf_walked.proofs.Items.{AreValues, items_begin, items_end, items_fail, items_go, items_of, with_more}
use Rattle.nf_walked.proofs.Joins.{answers_for, fails_check, fails_first, lost_as, lost_here, then_check, then_due, then_from}
use Rattle.nf_walked.proofs.Leads.{is_lost}
use Rattle.nf_walked.proofs.Lists.{list_fails, list_known}
use Rattle.nf_walked.proofs.Names.{is_found}
use Rattle.nf_walked.proofs.Still.{still_from}
use Rattle.nf_walked.proofs.Stills.{as_walk, refused_here}
use Rattle.nf_walked.proofs.Turns.{turn_fails, turned_by, turned_none}
use Rattle.nf_walked.proofs.Walking.{can_go_on}
use Rattle.nf_walked.specs.Args.{OneReads}
use Rattle.nf_walked.specs.Arguing.{and_more, of_step, one_channel}
use Rattle.nf_walked.specs.Around.{Knows}
use Rattle.nf_walked.specs.Depth.{depth}
use Rattle.nf_walked.specs.Emits.{emit_after}
use Rattle.nf_walked.specs.Forms.{a_port, a_thing, a_value, nothing, outputs, ports, values}
use Rattle.nf_walked.specs.Members.{indexed}
use Rattle.nf_walked.specs.Parts.{choice_of, index_at, is_called_alone, list_at, name_member_at, name_method_at, name_thing_at, names_bound, no_arm, of_args, of_before, of_call, of_one, pipe_of, turn_of, value_thing_of}
use Rattle.nf_walked.specs.Steps.{Goes, Here, Walked, due, from}
use Rattle.std.proofs.Common.{Err, List, None, Ok, Option, Some, [], ap, arith, drop, false, length, map, max, option_map, refl, rules, subst, suc, sym, true, ℕ, ◌++◌, ◌+◌, ◌-◌, ◌∙◌, ◌∷◌, ◌≡◌, ◌≤◌}
use Rattle.std.proofs.lemmas.Bool.{false≢true}
use Rattle.std.proofs.lemmas.List.{length-map}
use Rattle.std.specs.Global.{Vec}
use Rattle.std.specs.Prelude.{◌==◌}
use Rattle.std.specs.Str.{chars}
use Rattle.nf_ast.specs.Tree as tree
use Rattle.nf_meaning.specs.Workflow as workflow
use Rattle.nf_meaning.specs.Sources as meaning
use Rattle.nf_opargs.specs.declared.sources.Source.TheVariants as source
use Rattle.nf_opargs.specs.declared.sources.PathKind.TheVariants as kind
use Rattle.nf_paths.specs.Pairs as paths
use Rattle.nf_meaning.specs.Taken as taken
use Rattle.nf_meaning.specs.Arguments as arguments
use Rattle.nf_meaning.specs.Script as script
use Rattle.nf_ast.specs.declared.operators.InfixOperator.TheVariants as infix_operator
use Rattle.nf_lower.proofs.+lower.Goals as goal

pub args::and_channel-returns-in_err-port-clause-walk : goal.args::and_channel-returns-in_err-port-clause-walk
args::and_channel-returns-in_err-port-clause-walk g t0 c =
    let e = c.in_err-port.field-0.0 in
    let err : c.from_residual.result ≡ Err e = search rules in
    rw err (channel_fails (Knows g.N.Natives.titles g.N.Natives.answer c.args.walker.now) c.args.arg c.args.so_far c.args.state.now c.unnamed_channel.new.state c.requires.before.lowering e c.in_err-port.ensures)

pub args::and_channel-returns-in_err-push-clause-walk : goal.args::and_channel-returns-in_err-push-clause-walk
args::and_channel-returns-in_err-push-clause-walk g t0 c =
    let K = Knows g.N.Natives.titles g.N.Natives.answer c.args.walker.now in
    let err : c.from_residual-in_err-push.result ≡ Err Mem = search rules in
    rw err (lost_with K (of_one c.args.arg a_port (λ x. unnamed_channel x.label x)) (of_step c.args.arg c.args.so_far ports (and_more one_channel)) c.args.state.now c.unnamed_channel.new.state _ c.in_ok-port.ensures)

pub args::and_channel-returns-clause-walk : goal.args::and_channel-returns-clause-walk
args::and_channel-returns-clause-walk g t0 c =
    let K = Knows g.N.Natives.titles g.N.Natives.answer c.args.walker.now in
    let is : c.push.new.self.items ≡ c.args.so_far.items ++ c.in_ok-port.port ∷ [] = search rules in
    channel_added K c.args.arg c.args.so_far c.args.state.now c.unnamed_channel.new.state c.requires.before.lowering c.in_ok-port.port c.push.new.self c.requires.ports is c.in_ok-port.ensures

pub args::and_channel-returns-clause-count : goal.args::and_channel-returns-clause-count
args::and_channel-returns-clause-count g t0 c =
    let is : c.push.new.self.items ≡ c.args.so_far.items ++ c.in_ok-port.port ∷ [] = search rules in
    one_longer c.args.so_far.items c.push.new.self.items c.in_ok-port.port is

pub args::channel_arg-returns-in_err-thing : goal.args::channel_arg-returns-in_err-thing
args::channel_arg-returns-in_err-thing g t0 c =
    let e = c.in_err-thing.field-0.0 in
    let err : c.from_residual.result ≡ Err e = search rules in
    rw err (arg_fails (Knows g.N.Natives.titles g.N.Natives.answer c.args.walker.now) a_port channel_wanted c.args.arg c.args.state.now c.thing_arg.new.state c.requires.before.lowering e c.in_err-thing.ensures)

pub args::channel_arg-returns : goal.args::channel_arg-returns
args::channel_arg-returns g t0 c =
    arg_wanted (Knows g.N.Natives.titles g.N.Natives.answer c.args.walker.now) a_port channel_wanted c.args.arg c.args.state.now c.thing_arg.new.state c.requires.before.lowering c.channel.new.state c.in_ok-thing.thing c.place-place.result c.channel.result c.place-place.ensures
    c.in_ok-thing.ensures c.channel.ensures

pub args::channel_args-loop-arg-init : goal.args::channel_args-loop-arg-init
args::channel_args-loop-arg-init g t0 c =
    let empty : c.new-ports.result.items ≡ [] = search rules in
    record {
      reads = c.requires.reads.reads;
      ports = none_read c.args.state.now.plan c.new-ports.result.items empty;
      deep = omega arith;
      count = count_begins c.new-ports.result.items (count_in c.args.args) empty;
      leads = channels_begin (Knows g.N.Natives.titles g.N.Natives.answer c.args.walker.now) c.args.args c.args.state.now c.new-ports.result empty c.requires.before.lowering;
    }

pub args::channel_args-returns-in_err-ports-clause-walk : goal.args::channel_args-returns-in_err-ports-clause-walk
args::channel_args-returns-in_err-ports-clause-walk g t0 c =
    let e = c.in_err-ports.field-0.0 in
    let err : c.from_residual.result ≡ Err e = search rules in
    rw err (channels_fail (Knows g.N.Natives.titles g.N.Natives.answer c.args.walker.now) c.args.args c.args.state.now c.loop-arg.state c.in-Some.arg c.loop-arg.args c.take_first.new.self c.loop-arg.ports c.in-Some.ensures c.loop-arg.invariant.leads
    c.and_channel.new.state e c.in_err-ports.ensures.walk)

pub args::channel_args-loop-arg-preserved : goal.args::channel_args-loop-arg-preserved
args::channel_args-loop-arg-preserved g t0 c =
    let step = c.in_ok-ports.ensures in
    let more = c.in_ok-ports.ports in
    let new = c.and_channel.new.state in
    record {
      reads = rest_reads new.plan c.in-Some.arg c.loop-arg.args c.take_first.new.self c.in-Some.ensures;
      ports = step.walk.fits;
      deep = omega (arith, first_deep c.in-Some.arg c.loop-arg.args c.take_first.new.self c.in-Some.ensures, c.loop-arg.invariant.deep);
      count = count_goes c.in-Some.arg c.loop-arg.args c.take_first.new.self (length c.loop-arg.ports.items) (length more.items) (count_in c.args.args) c.in-Some.ensures step.count c.loop-arg.invariant.count;
      leads = channels_go (Knows g.N.Natives.titles g.N.Natives.answer c.args.walker.now) c.args.args c.args.state.now c.loop-arg.state c.in-Some.arg c.loop-arg.args c.take_first.new.self c.loop-arg.ports c.in-Some.ensures c.loop-arg.invariant.leads new more step.walk;
    }

pub args::channel_args-loop-arg-smaller : goal.args::channel_args-loop-arg-smaller
args::channel_args-loop-arg-smaller g t0 c =
    c.in-Some.ensures.fewer

pub args::channel_args-returns-clause-walk : goal.args::channel_args-returns-clause-walk
args::channel_args-returns-clause-walk g t0 c =
    channels_end (Knows g.N.Natives.titles g.N.Natives.answer c.args.walker.now) c.args.args c.args.state.now c.loop-arg.state c.loop-arg.args c.loop-arg.ports c.in_default.ensures c.loop-arg.invariant.ports c.loop-arg.invariant.leads

pub args::channel_args-returns-clause-count : goal.args::channel_args-returns-clause-count
args::channel_args-returns-clause-count g t0 c =
    count_ends c.loop-arg.args (length c.loop-arg.ports.items) (count_in c.args.args) c.in_default.ensures c.loop-arg.invariant.count

pub args::channel_args-and_channel-requires : goal.args::channel_args-and_channel-requires
args::channel_args-and_channel-requires g t0 c κs within =
    let first = first_deep c.in-Some.arg c.loop-arg.args c.take_first.new.self c.in-Some.ensures in
    (omega (arith, first, c.loop-arg.invariant.deep, c.decreases), (search rules, ((can_go_on g.N.Natives.titles g.N.Natives.answer g.N.Natives.keeps c.args.walker.now c.args.state.now c.loop-arg.state c.requires.before c.loop-arg.invariant.leads.goes), ((first_reads c.loop-arg.state.plan c.in-Some.arg c.loop-arg.args c.take_first.new.self c.in-Some.ensures c.loop-arg.invariant.reads), (c.loop-arg.invariant.ports)))))

pub args::plain_thing-returns-in-Arg : goal.args::plain_thing-returns-in-Arg
args::plain_thing-returns-in-Arg g t0 c =
    let P : Written → Type 0 = λ w. Walked (Knows g.N.Natives.titles g.N.Natives.answer c.args.walker.now) (due a_thing (written_arg w).thing) c.args.state.now c.thing.new.state c.thing.result in
    subst P (sym c.in-Arg.is) c.thing.ensures

pub args::plain_thing-returns-in-Closure : goal.args::plain_thing-returns-in-Closure
args::plain_thing-returns-in-Closure g t0 c =
    absurd (false≢true (sym c.requires.value ∙ (written_closure c.args.arg c.in-Closure.closure c.in-Closure.is).closure))

pub args::plain_thing-thing-requires : goal.args::plain_thing-thing-requires
args::plain_thing-thing-requires g t0 c κs within =
    let deep : depth (written_arg c.args.arg).tree ≡ depth (view c.in-Arg.arg.now.value) = ap (λ (w : Written). depth (written_arg w).tree) c.in-Arg.is in
    (omega (arith, deep, c.decreases), search rules)

pub args::thing_arg-returns-in-Before : goal.args::thing_arg-returns-in-Before
args::thing_arg-returns-in-Before g t0 c =
    let P : One → Type 0 = λ o. OneReads c.args.state.now.plan o in
    before_given (Knows g.N.Natives.titles g.N.Natives.answer c.args.walker.now) c.args.arg c.in-Before.before c.args.state.now c.in-Before.is c.requires.before.lowering
    (subst P c.in-Before.is c.requires.reads)

pub args::thing_arg-returns-in-Written : goal.args::thing_arg-returns-in-Written
args::thing_arg-returns-in-Written g t0 c =
    written_given (Knows g.N.Natives.titles g.N.Natives.answer c.args.walker.now) c.args.arg c.in-Written.written c.args.state.now c.written_thing.new.state c.written_thing.result c.in-Written.is c.requires.before.lowering
    c.written_thing.ensures

pub args::thing_arg-written_thing-requires : goal.args::thing_arg-written_thing-requires
args::thing_arg-written_thing-requires g t0 c κs within =
    let deep : depth_of (written_in c.args.arg) ≡ max (depth (written_arg c.in-Written.written).tree) 0 = ap (λ (x : One). depth_of (written_in x)) c.in-Written.is in
    (omega (arith, deep, c.decreases), search rules)

pub args::unnamed_channel-returns-in-None : goal.args::unnamed_channel-returns-in-None
args::unnamed_channel-returns-in-None g t0 c =
    no_label_given (Knows g.N.Natives.titles g.N.Natives.answer c.args.walker.now) c.args.arg c.args.state.now c.channel_arg.new.state c.channel_arg.result c.requires.before.lowering
    (λ bags y h. sym (c.in-None.ensures bags y h)) c.channel_arg.ensures

pub args::unnamed_channel-returns-in-Some : goal.args::unnamed_channel-returns-in-Some
args::unnamed_channel-returns-in-Some g t0 c =
    label_refused (Knows g.N.Natives.titles g.N.Natives.answer c.args.walker.now) c.args.arg c.args.state.now c.in-Some.place _ c.bad_option.result c.requires.before.lowering
    (λ bags y h. sym (c.in-Some.ensures bags y h)) c.bad_option.ensures

pub args::value_arg-returns-in_err-thing : goal.args::value_arg-returns-in_err-thing
args::value_arg-returns-in_err-thing g t0 c =
    let e = c.in_err-thing.field-0.0 in
    let err : c.from_residual.result ≡ Err e = search rules in
    rw err (arg_fails (Knows g.N.Natives.titles g.N.Natives.answer c.args.walker.now) a_value value_wanted c.args.arg c.args.state.now c.thing_arg.new.state c.requires.before.lowering e c.in_err-thing.ensures)

pub args::value_arg-returns : goal.args::value_arg-returns
args::value_arg-returns g t0 c =
    let K = (Knows g.N.Natives.titles g.N.Natives.answer c.args.walker.now) in
    let mid = c.thing_arg.new.state in
    arg_wanted K a_value value_wanted c.args.arg c.args.state.now mid c.requires.before.lowering mid c.in_ok-thing.thing c.place-place.result c.value_wanted.result c.place-place.ensures c.in_ok-thing.ensures
    (still_from K c.in_ok-thing.thing a_value IsValue (value_wanted c.place-place.result) mid c.in_ok-thing.ensures.goes.keeps (λ x v y h. h) c.value_wanted.result (anything c.value_wanted.result) c.value_wanted.ensures)

pub args::written_thing-returns-in-Some : goal.args::written_thing-returns-in-Some
args::written_thing-returns-in-Some g t0 c =
    closure_refused (Knows g.N.Natives.titles g.N.Natives.answer c.args.walker.now) (written_arg c.args.arg) c.in-Some.closure.now.place c.args.state.now c.bad_option.result c.in-Some.ensures.closure c.in-Some.ensures.place
    c.requires.lowering c.bad_option.ensures

pub args::written_thing-returns-in-None : goal.args::written_thing-returns-in-None
args::written_thing-returns-in-None g t0 c =
    plain_given (Knows g.N.Natives.titles g.N.Natives.answer c.args.walker.now) (written_arg c.args.arg) c.args.state.now c.plain_thing.new.state c.plain_thing.result c.in-None.ensures c.requires.lowering c.plain_thing.ensures

pub body::assign-returns-in_err-thing : goal.body::assign-returns-in_err-thing
body::assign-returns-in_err-thing g t0 c =
    let e = c.in_err-thing.field-0.0 in
    let err : c.from_residual.result ≡ Err e = search rules in
    rw err (fails_first nothing (λ t. with_scope (assigning c.args.name.now t)) c.requires.lowering c.in_err-thing.ensures)

pub body::assign-returns : goal.body::assign-returns
body::assign-returns g t0 c =
    then_from c.requires.lowering c.in_ok-thing.ensures c.put_name.ensures

pub body::block-returns-in_err-enter : goal.body::block-returns-in_err-enter
body::block-returns-in_err-enter g t0 c =
    let err : c.from_residual.result ≡ Err Mem = search rules in
    rw err (lost_as (Knows g.N.Natives.titles g.N.Natives.answer c.args.walker.now) (due nothing (in_braces (part_of (view_stmts c.args.stmts.now)).body)) c.args.state.now c.enter.new.self c.enter.ensures.plan)

pub body::block-returns-in_err-statements : goal.body::block-returns-in_err-statements
body::block-returns-in_err-statements g t0 c =
    let e = c.in_err-statements.field-0.0 in
    let old = c.args.state.now in
    let one = c.enter.new.self in
    let err : c.from_residual-in_err-statements.result ≡ Err e = search rules in
    let first : IsSame old one = record { keeps = c.in_ok-enter.ensures.keeps; plan = c.in_ok-enter.ensures.plan; calls = c.in_ok-enter.ensures.calls; within = c.in_ok-enter.ensures.within } in
    rw err (braces_fail (Knows g.N.Natives.titles g.N.Natives.answer c.args.walker.now) (part_of (view_stmts c.args.stmts.now)).body old one c.statements.new.state e c.in_ok-enter.ensures.walk first c.in_err-statements.ensures)

pub body::block-returns : goal.body::block-returns
body::block-returns g t0 c =
    let old = c.args.state.now in
    let one = c.enter.new.self in
    let two = c.statements.new.state in
    let new = c.leave.new.self in
    let first : IsSame old one = record { keeps = c.in_ok-enter.ensures.keeps; plan = c.in_ok-enter.ensures.plan; calls = c.in_ok-enter.ensures.calls; within = c.in_ok-enter.ensures.within } in
    let last : IsSame two new = record { keeps = c.leave.ensures.keeps; plan = c.leave.ensures.plan; calls = c.leave.ensures.calls; within = c.leave.ensures.within } in
    braced (Knows g.N.Natives.titles g.N.Natives.answer c.args.walker.now) (part_of (view_stmts c.args.stmts.now)).body old one two new c.in_ok-enter.ensures.walk first c.in_ok-statements.ensures c.leave.ensures.walk last

pub body::choice-loop-arm-init : goal.body::choice-loop-arm-init
body::choice-loop-arm-init g t0 c =
    choice_begins (Knows g.N.Natives.titles g.N.Natives.answer c.args.walker.now) c.args.arms.now c.args.last.now c.args.state.now c.requires.lowering

pub body::choice-loop-arm-preserved : goal.body::choice-loop-arm-preserved
body::choice-loop-arm-preserved g t0 c =
    let x = c.arm-item.result in
    let seen : view_arm x ≡ arm_of x = search (rules, arm_lemmas) in
    let is : truth_of (plain_of c.in_ok-condition.condition) ≡ false = search rules in
    choice_goes (Knows g.N.Natives.titles g.N.Natives.answer c.args.walker.now) c.args.arms.now c.args.last.now c.args.state.now c.loop-arm.arm-index x c.loop-arm.state c.in_ok-condition.condition c.loop-arm-test.true c.arm-item.is seen is c.loop-arm.invariant c.in_ok-condition.ensures

pub body::choice-returns-in_err-condition : goal.body::choice-returns-in_err-condition
body::choice-returns-in_err-condition g t0 c =
    let x = c.arm-item.result in
    let seen : view_arm x ≡ arm_of x = search (rules, arm_lemmas) in
    let e = c.in_err-condition.field-0.0 in
    let err : c.from_residual.result ≡ Err e = search rules in
    rw err (choice_fails (Knows g.N.Natives.titles g.N.Natives.answer c.args.walker.now) c.args.arms.now c.args.last.now c.args.state.now c.loop-arm.arm-index x c.loop-arm.state e c.loop-arm-test.true c.arm-item.is seen c.loop-arm.invariant c.in_err-condition.ensures)

pub body::choice-returns-then-truth : goal.body::choice-returns-then-truth
body::choice-returns-then-truth g t0 c =
    let x = c.arm-item.result in
    let seen : view_arm x ≡ arm_of x = search (rules, arm_lemmas) in
    let is : truth_of (plain_of c.in_ok-condition.condition) ≡ true = search rules in
    choice_takes (Knows g.N.Natives.titles g.N.Natives.answer c.args.walker.now) c.args.arms.now c.args.last.now c.args.state.now c.loop-arm.arm-index x c.loop-arm.state c.block.new.state c.in_ok-condition.condition c.block.result c.loop-arm-test.true c.arm-item.is seen is c.loop-arm.invariant
    c.in_ok-condition.ensures (as_walk c.block.ensures (ap block_walk c.deref.ensures.value))

pub body::choice-returns-in-Some : goal.body::choice-returns-in-Some
body::choice-returns-in-Some g t0 c =
    let last : c.args.last.now ≡ Some c.in-Some.stmts = search rules in
    choice_else (Knows g.N.Natives.titles g.N.Natives.answer c.args.walker.now) c.args.arms.now c.args.last.now c.args.state.now c.loop-arm.arm-index c.in-Some.stmts c.loop-arm.state c.block-in-Some.new.state c.block-in-Some.result c.loop-arm-test.false last c.loop-arm.invariant (as_walk c.block-in-Some.ensures (ap block_walk c.deref-in-Some.ensures.value))

pub body::choice-returns-in-None : goal.body::choice-returns-in-None
body::choice-returns-in-None g t0 c =
    let last : c.args.last.now ≡ None = search rules in
    choice_ends (Knows g.N.Natives.titles g.N.Natives.answer c.args.walker.now) c.args.arms.now c.args.last.now c.args.state.now c.loop-arm.arm-index c.loop-arm.state c.loop-arm-test.false last c.loop-arm.invariant

pub body::choice-block-requires : goal.body::choice-block-requires
body::choice-block-requires g t0 c κs within =
    let x = c.arm-item.result in
    let seen : view_arm x ≡ arm_of x = search (rules, arm_lemmas) in
    let body : depth (view_arm x).body ≡ depth (view_stmts x.body.items) = ap (λ (a : ArmTree). depth a.body) seen in
    let there : depth (view_stmts c.deref.result.now) ≡ depth (view_stmts x.body.items) = ap (λ ss. depth (view_stmts ss)) c.deref.ensures.value in
    let deep = arm_deep c.args.arms.now c.loop-arm.arm-index x (last_arm (option_map (λ v. map view_stmt v.items) c.args.last.now)) c.loop-arm-test.true c.arm-item.is in
    (omega (arith, body, there, deep, c.decreases), search rules)

pub body::choice-block-requires-in-Some : goal.body::choice-block-requires-in-Some
body::choice-block-requires-in-Some g t0 c κs within =
    let last : c.args.last.now ≡ Some c.in-Some.stmts = search rules in
    let end : depth (last_arm (option_map (λ v. map view_stmt v.items) c.args.last.now)) ≡ suc (depth (view_stmts c.in-Some.stmts.items)) = ap (λ (o : Option (Vec Stmt)). depth (last_arm (option_map (λ v. map view_stmt v.items) o))) last in
    let there : depth (view_stmts c.deref-in-Some.result.now) ≡ depth (view_stmts c.in-Some.stmts.items) = ap (λ ss. depth (view_stmts ss)) c.deref-in-Some.ensures.value in
    let deep = last_deep (map view_arm c.args.arms.now) (last_arm (option_map (λ v. map view_stmt v.items) c.args.last.now)) in
    (omega (arith, end, there, deep, c.decreases), search rules)

pub body::define_each-returns-in_err-check_new : goal.body::define_each-returns-in_err-check_new
body::define_each-returns-in_err-check_new g t0 c =
    let e = c.in_err-check_new.field-0.0 in
    let err : c.from_residual.result ≡ Err e = search rules in
    rw err (as_walk (fails_first nothing (λ u. value_thing_of (view c.args.expr.now) >>= names_bound c.args.place (names c.args.list.now)) c.requires.lowering c.in_err-check_new.ensures) refl)

pub body::define_each-returns-in_err-value : goal.body::define_each-returns-in_err-value
body::define_each-returns-in_err-value g t0 c =
    let e = c.in_err-value.field-0.0 in
    let err : c.from_residual-in_err-value.result ≡ Err e = search rules in
    rw err (as_walk (then_due c.requires.lowering c.in_ok-check_new.ensures (fails_first nothing (names_bound c.args.place (names c.args.list.now)) c.requires.lowering c.in_err-value.ensures)) refl)

pub body::define_each-returns : goal.body::define_each-returns
body::define_each-returns g t0 c =
    as_walk
    (then_due c.requires.lowering c.in_ok-check_new.ensures
    (then_from c.requires.lowering c.in_ok-value.ensures
    (from_value (Knows g.N.Natives.titles g.N.Natives.answer c.args.walker.now) c.in_ok-value.value nothing (names_bound c.args.place (names c.args.list.now)) c.value_thing.new.state c.bind_names.new.state c.bind_names.result c.bind_names.ensures)))
    refl

pub body::define_one-returns-then-is_defined : goal.body::define_one-returns-then-is_defined
body::define_one-returns-then-is_defined g t0 c =
    let name : c.as_str.result.now ≡ c.args.name.now = search rules in
    let P : List ℕ → Type 0 = λ n. TellsDefined c.names.result.now n c.is_defined.result in
    let told : Tells c.names.result.now c.args.state.now c.args.name.now c.is_defined.result = (c.names.ensures, subst P name c.is_defined.ensures) in
    let told_by : c.is_defined.result ≡ true = search rules in
    defined_twice (Knows g.N.Natives.titles g.N.Natives.answer c.args.walker.now) c.args.name.now c.args.place (part_of (view c.args.expr.now)).thing c.names.result.now c.args.state.now c.is_defined.result c.requires.lowering
    told told_by

pub body::define_one-returns-in_err-thing : goal.body::define_one-returns-in_err-thing
body::define_one-returns-in_err-thing g t0 c =
    let name : c.as_str.result.now ≡ c.args.name.now = search rules in
    let P : List ℕ → Type 0 = λ n. TellsDefined c.names.result.now n c.is_defined.result in
    let told : Tells c.names.result.now c.args.state.now c.args.name.now c.is_defined.result = (c.names.ensures, subst P name c.is_defined.ensures) in
    let told_by : c.is_defined.result ≡ false = search rules in
    let e = c.in_err-thing.field-0.0 in
    let err : c.from_residual.result ≡ Err e = search rules in
    rw err (defined_anew (Knows g.N.Natives.titles g.N.Natives.answer c.args.walker.now) c.args.name.now c.args.place (part_of (view c.args.expr.now)).thing c.names.result.now c.args.state.now c.thing.new.state c.is_defined.result (Err e)
    told told_by (fails_first nothing (λ t. with_scope (defining c.args.name.now t)) c.requires.lowering c.in_err-thing.ensures))

pub body::define_one-returns : goal.body::define_one-returns
body::define_one-returns g t0 c =
    let name : c.as_str.result.now ≡ c.args.name.now = search rules in
    let P : List ℕ → Type 0 = λ n. TellsDefined c.names.result.now n c.is_defined.result in
    let told : Tells c.names.result.now c.args.state.now c.args.name.now c.is_defined.result = (c.names.ensures, subst P name c.is_defined.ensures) in
    let told_by : c.is_defined.result ≡ false = search rules in
    defined_anew (Knows g.N.Natives.titles g.N.Natives.answer c.args.walker.now) c.args.name.now c.args.place (part_of (view c.args.expr.now)).thing c.names.result.now c.args.state.now c.define.new.state c.is_defined.result c.define.result
    told told_by (then_from c.requires.lowering c.in_ok-thing.ensures c.define.ensures)

pub body::done_with-returns-in_err-thing : goal.body::done_with-returns-in_err-thing
body::done_with-returns-in_err-thing g t0 c =
    let e = c.in_err-thing.field-0.0 in
    let err : c.from_residual.result ≡ Err e = search rules in
    rw err (fails_first nothing (not_tied_to_file (begins_at (view c.args.expr.now))) c.requires.lowering c.in_err-thing.ensures)

pub body::done_with-returns : goal.body::done_with-returns
body::done_with-returns g t0 c =
    then_from c.requires.lowering c.in_ok-thing.ensures
    (answers_for c.in_ok-thing.thing (not_tied_to_file (begins_at (view c.args.expr.now))) IsUnit c.in_ok-thing.ensures.goes.keeps (anything c.has_no_file.result) (subst (λ q. HasNoFile q c.in_ok-thing.thing c.has_no_file.result) c.begins_at.ensures c.has_no_file.ensures) (λ x v y h. tt))

pub body::statement-returns-in-Define : goal.body::statement-returns-in-Define
body::statement-returns-in-Define g t0 c =
    let is : view_stmt c.args.stmt.now ≡ tree.define c.in-Define.field-0 (tree.name c.in-Define.place c.in-Define.name) (view c.in-Define.expr) = search (rules, stmt_lemmas) in
    as_walk c.define_one.ensures (ap (λ t. (part_of t).done) (sym is))

pub body::statement-returns-in-DefineAll : goal.body::statement-returns-in-DefineAll
body::statement-returns-in-DefineAll g t0 c =
    let is : view_stmt c.args.stmt.now ≡ tree.define_all c.in-DefineAll.place (names c.in-DefineAll.names.items) (view c.in-DefineAll.expr) = search (rules, stmt_lemmas) in
    let e = view c.in-DefineAll.expr in
    as_walk c.define_each.ensures (ap (λ (ns : List (Place × List ℕ)). define_each c.in-DefineAll.place (names ns) (begins_at e) (part_of e).thing) c.deref.ensures.value ∙ ap (λ t. (part_of t).done) (sym is))

pub body::statement-returns-in-Assign : goal.body::statement-returns-in-Assign
body::statement-returns-in-Assign g t0 c =
    let is : view_stmt c.args.stmt.now ≡ tree.assign (tree.name c.in-Assign.field-0 c.in-Assign.name) (view c.in-Assign.expr) = search (rules, stmt_lemmas) in
    as_walk c.assign.ensures (ap (λ t. (part_of t).done) (sym is))

pub body::statement-returns-in-Return : goal.body::statement-returns-in-Return
body::statement-returns-in-Return g t0 c =
    let is : view_stmt c.args.stmt.now ≡ tree.return_ c.in-Return.place (view c.in-Return.field-1) = search (rules, stmt_lemmas) in
    let fault : c.bad_option.result ≡ Err (BadOption c.in-Return.place) = search rules in
    rw fault (refused_here (Knows g.N.Natives.titles g.N.Natives.answer c.args.walker.now) (due nothing (part_of (view_stmt c.args.stmt.now)).done) c.args.state.now (BadOption c.in-Return.place) c.requires.lowering
    (λ p y stands h. ap (λ t. (part_of t).done p.around p.state) is))

pub body::statement-returns-in-Choice : goal.body::statement-returns-in-Choice
body::statement-returns-in-Choice g t0 c =
    let is : view_stmt c.args.stmt.now ≡ choice_of c.in-Choice.arms.items c.in-Choice.last = search (rules, stmt_lemmas) in
    as_walk c.choice.ensures (ap (λ (xs : List Arm). (part_of (choice_of xs c.in-Choice.last)).done) c.deref-in-Choice.ensures.value ∙ ap (λ t. (part_of t).done) (sym is))

pub body::statement-returns-in-Println : goal.body::statement-returns-in-Println
body::statement-returns-in-Println g t0 c =
    let is : view_stmt c.args.stmt.now ≡ tree.println c.in-Println.field-0 (view c.in-Println.expr) = search (rules, stmt_lemmas) in
    as_walk c.only_read.ensures (ap (λ t. (part_of t).done) (sym is))

pub body::statement-returns-in-Log : goal.body::statement-returns-in-Log
body::statement-returns-in-Log g t0 c =
    let is : view_stmt c.args.stmt.now ≡ tree.log c.in-Log.field-0 (tree.name c.in-Log.place c.in-Log.name) (view c.in-Log.expr) = search (rules, stmt_lemmas) in
    as_walk c.logged.ensures (ap (λ t. (part_of t).done) (sym is))

pub body::statement-returns-in-Expr : goal.body::statement-returns-in-Expr
body::statement-returns-in-Expr g t0 c =
    let is : view_stmt c.args.stmt.now ≡ view c.in-Expr.expr = search (rules, stmt_lemmas) in
    as_walk (as_walk c.done_with.ensures (sym c.stands_alone.ensures)) (ap (λ t. (part_of t).done) (sym is))

pub body::statement-define_one-requires : goal.body::statement-define_one-requires
body::statement-define_one-requires g t0 c κs within =
    let is : view_stmt c.args.stmt.now ≡ tree.define c.in-Define.field-0 (tree.name c.in-Define.place c.in-Define.name) (view c.in-Define.expr) = search (rules, stmt_lemmas) in
    let deep : depth (view_stmt c.args.stmt.now) ≡ suc (depth (view c.in-Define.expr)) = ap depth is in
    (omega (arith, deep, c.decreases), search rules)

pub body::statement-define_each-requires : goal.body::statement-define_each-requires
body::statement-define_each-requires g t0 c κs within =
    let is : view_stmt c.args.stmt.now ≡ tree.define_all c.in-DefineAll.place (names c.in-DefineAll.names.items) (view c.in-DefineAll.expr) = search (rules, stmt_lemmas) in
    let deep : depth (view_stmt c.args.stmt.now) ≡ suc (depth (view c.in-DefineAll.expr)) = ap depth is in
    (omega (arith, deep, c.decreases), search rules)

pub body::statement-assign-requires : goal.body::statement-assign-requires
body::statement-assign-requires g t0 c κs within =
    let is : view_stmt c.args.stmt.now ≡ tree.assign (tree.name c.in-Assign.field-0 c.in-Assign.name) (view c.in-Assign.expr) = search (rules, stmt_lemmas) in
    let deep : depth (view_stmt c.args.stmt.now) ≡ suc (depth (view c.in-Assign.expr)) = ap depth is in
    (omega (arith, deep, c.decreases), search rules)

pub body::statement-choice-requires : goal.body::statement-choice-requires
body::statement-choice-requires g t0 c κs within =
    let is : view_stmt c.args.stmt.now ≡ choice_of c.in-Choice.arms.items c.in-Choice.last = search (rules, stmt_lemmas) in
    let deep : depth (view_stmt c.args.stmt.now) ≡ depth (choice_of c.in-Choice.arms.items c.in-Choice.last) = ap depth is in
    let same : depth (choice_of c.deref-in-Choice.result.now c.in-Choice.last) ≡ depth (choice_of c.in-Choice.arms.items c.in-Choice.last) = ap (λ (xs : List Arm). depth (choice_of xs c.in-Choice.last)) c.deref-in-Choice.ensures.value in
    (omega (arith, deep, same, c.decreases), search rules)

pub body::statement-done_with-requires : goal.body::statement-done_with-requires
body::statement-done_with-requires g t0 c κs within =
    let is : view_stmt c.args.stmt.now ≡ view c.in-Expr.expr = search (rules, stmt_lemmas) in
    let deep : depth (view_stmt c.args.stmt.now) ≡ depth (view c.in-Expr.expr) = ap depth is in
    (omega (arith, deep, c.decreases), search rules)

pub body::statements-loop-stmt-init : goal.body::statements-loop-stmt-init
body::statements-loop-stmt-init g t0 c =
    body_begins (Knows g.N.Natives.titles g.N.Natives.answer c.args.walker.now) c.args.stmts.now c.args.state.now c.requires.lowering

pub body::statements-loop-stmt-preserved : goal.body::statements-loop-stmt-preserved
body::statements-loop-stmt-preserved g t0 c =
    body_goes (Knows g.N.Natives.titles g.N.Natives.answer c.args.walker.now) c.args.stmts.now c.args.state.now c.loop-stmt.stmt-index c.stmt-item.result c.loop-stmt.state c.statement.new.state c.in_ok-statement.field-0
    c.loop-stmt-test.true c.stmt-item.is c.loop-stmt.invariant c.in_ok-statement.ensures

pub body::statements-returns-in_err-statement : goal.body::statements-returns-in_err-statement
body::statements-returns-in_err-statement g t0 c =
    let e = c.in_err-statement.field-0.0 in
    let err : c.from_residual.result ≡ Err e = search rules in
    rw err (body_fails (Knows g.N.Natives.titles g.N.Natives.answer c.args.walker.now) c.args.stmts.now c.args.state.now c.loop-stmt.stmt-index c.stmt-item.result c.loop-stmt.state c.statement.new.state e
    c.loop-stmt-test.true c.stmt-item.is c.loop-stmt.invariant c.in_err-statement.ensures)

pub body::statements-returns : goal.body::statements-returns
body::statements-returns g t0 c =
    body_ends (Knows g.N.Natives.titles g.N.Natives.answer c.args.walker.now) c.args.stmts.now c.args.state.now c.loop-stmt.stmt-index c.loop-stmt.state c.loop-stmt-test.false c.loop-stmt.invariant

pub body::statements-statement-requires : goal.body::statements-statement-requires
body::statements-statement-requires g t0 c κs within =
    let low : depth (view_stmt c.stmt-item.result) ≤ depth (view_stmts c.args.stmts.now) = part_within view_stmt c.args.stmts.now c.loop-stmt.stmt-index c.stmt-item.result c.loop-stmt-test.true c.stmt-item.is in
    (omega (arith, low, c.decreases), search rules)

pub calls::named_call-returns-in-Process : goal.calls::named_call-returns-in-Process
calls::named_call-returns-in-Process g t0 c =
    let m = c.as_str-text.result.now in
    let same : m ≡ c.args.name.now = search rules in
    under_name (Knows g.N.Natives.titles g.N.Natives.answer c.args.walker.now) c.args.args c.args.place m c.args.name.now c.args.state.now c.process_call.new.state c.process_call.result same
    (named_as g.N.Natives.titles g.N.Natives.answer c.args.walker.now m (a_process (view_process c.in-Process.process.now)) c.in-Process.ensures c.args.args c.args.place c.args.state.now c.process_call.new.state c.process_call.result c.process_call.ensures)

pub calls::named_call-returns-in-Workflow : goal.calls::named_call-returns-in-Workflow
calls::named_call-returns-in-Workflow g t0 c =
    let m = c.as_str-text.result.now in
    let same : m ≡ c.args.name.now = search rules in
    under_name (Knows g.N.Natives.titles g.N.Natives.answer c.args.walker.now) c.args.args c.args.place m c.args.name.now c.args.state.now c.workflow_call.new.state c.workflow_call.result same
    (named_as g.N.Natives.titles g.N.Natives.answer c.args.walker.now m (a_workflow (view_workflow c.in-Workflow.workflow.now)) c.in-Workflow.ensures c.args.args c.args.place c.args.state.now c.workflow_call.new.state c.workflow_call.result c.workflow_call.ensures)

pub calls::named_call-returns-in-Operator : goal.calls::named_call-returns-in-Operator
calls::named_call-returns-in-Operator g t0 c =
    let m = c.as_str-text.result.now in
    let same : m ≡ c.args.name.now = search rules in
    under_name (Knows g.N.Natives.titles g.N.Natives.answer c.args.walker.now) c.args.args c.args.place m c.args.name.now c.args.state.now c.operator_on.new.state c.operator_on.result same
    (named_as g.N.Natives.titles g.N.Natives.answer c.args.walker.now m (an_operator c.in-Operator.row) c.in-Operator.ensures c.args.args c.args.place c.args.state.now c.operator_on.new.state c.operator_on.result c.operator_on.ensures)

pub calls::named_call-returns-in-File : goal.calls::named_call-returns-in-File
calls::named_call-returns-in-File g t0 c =
    let m = c.as_str-text.result.now in
    let same : m ≡ c.args.name.now = search rules in
    under_name (Knows g.N.Natives.titles g.N.Natives.answer c.args.walker.now) c.args.args c.args.place m c.args.name.now c.args.state.now c.file_call.new.state c.file_call.result same
    (named_as g.N.Natives.titles g.N.Natives.answer c.args.walker.now m a_file c.in-File.ensures c.args.args c.args.place c.args.state.now c.file_call.new.state c.file_call.result c.file_call.ensures)

pub calls::named_call-returns-in-Function : goal.calls::named_call-returns-in-Function
calls::named_call-returns-in-Function g t0 c =
    let m = c.as_str-text.result.now in
    let same : m ≡ c.args.name.now = search rules in
    rw c.bad_option.ensures
    (under_name (Knows g.N.Natives.titles g.N.Natives.answer c.args.walker.now) c.args.args c.args.place m c.args.name.now c.args.state.now c.args.state.now _ same
    (call_refused g.N.Natives.titles g.N.Natives.answer c.args.walker.now m a_function c.in-Function.ensures c.args.args c.args.place c.args.state.now (BadOption c.args.place) c.requires.before.lowering (λ p ys. refl)))

pub calls::named_call-returns-in-Unknown : goal.calls::named_call-returns-in-Unknown
calls::named_call-returns-in-Unknown g t0 c =
    let m = c.as_str-text.result.now in
    let same : m ≡ c.args.name.now = search rules in
    under_name (Knows g.N.Natives.titles g.N.Natives.answer c.args.walker.now) c.args.args c.args.place m c.args.name.now c.args.state.now c.args.state.now _ same
    (call_refused g.N.Natives.titles g.N.Natives.answer c.args.walker.now m unknown c.in-Unknown.ensures c.args.args c.args.place c.args.state.now (UnknownName c.args.place) c.requires.before.lowering (λ p ys. refl))

pub calls::named_call-process_call-requires : goal.calls::named_call-process_call-requires
calls::named_call-process_call-requires g t0 c κs within = (
  omega (arith, c.decreases),
  (
    search rules,
    (
      search rules,
      (
        search rules,
        (process_plain (defined_in c.args.walker.now.definitions.now) (g.N.Natives.titles c.args.walker.now.around.now.natives.now) c.as_str-text.result.now (view_process c.in-Process.process.now) c.requires.before.plain
            c.in-Process.ensures),
      ),
    ),
  ),
)

pub calls::named_call-workflow_call-requires : goal.calls::named_call-workflow_call-requires
calls::named_call-workflow_call-requires g t0 c κs within = (
  omega (arith, c.decreases),
  (
    search rules,
    (
      search rules,
      (
        search rules,
        (
          (workflow_plain (defined_in c.args.walker.now.definitions.now) (g.N.Natives.titles c.args.walker.now.around.now.natives.now) c.as_str-text.result.now (view_workflow c.in-Workflow.workflow.now) c.requires.before.plain
              c.in-Workflow.ensures),
          (workflow_defined (defined_in c.args.walker.now.definitions.now) (g.N.Natives.titles c.args.walker.now.around.now.natives.now) c.as_str-text.result.now (view_workflow c.in-Workflow.workflow.now) c.in-Workflow.ensures),
        ),
      ),
    ),
  ),
)

pub calls::named_call-operator_on-requires : goal.calls::named_call-operator_on-requires
calls::named_call-operator_on-requires g t0 c κs within = (
  omega (arith, c.decreases),
  (
    search rules,
    (
      search rules,
      (
        search rules,
        (record {
          name = c.as_str-text.result.now;
          listed = operator_listed (defined_in c.args.walker.now.definitions.now) (g.N.Natives.titles c.args.walker.now.around.now.natives.now) c.as_str-text.result.now c.in-Operator.row c.in-Operator.ensures;
        }),
      ),
    ),
  ),
)

pub calls::process_call-returns-in_err-check_process : goal.calls::process_call-returns-in_err-check_process
calls::process_call-returns-in_err-check_process g t0 c =
    let K = Knows g.N.Natives.titles g.N.Natives.answer c.args.walker.now in
    let p = c.args.place in
    let n = c.args.name.now in
    let t = view_process c.args.process.now in
    let e = c.in_err-check_process.field-0.0 in
    let err : c.from_residual.result ≡ Err e = search rules in
    rw err (check_stops K c.args.args (process_call p n t) (process_fault p n t) (λ s ys. process_left p n t s.path ys) c.args.state.now (process_is p n t) e c.in_err-check_process.ensures.fault)

pub calls::process_call-returns-in_err-begin_process : goal.calls::process_call-returns-in_err-begin_process
calls::process_call-returns-in_err-begin_process g t0 c =
    let K = Knows g.N.Natives.titles g.N.Natives.answer c.args.walker.now in
    let p = c.args.place in
    let n = c.args.name.now in
    let t = view_process c.args.process.now in
    let old = c.args.state.now in
    let x = c.args.args in
    let so_far = check_passes K x (process_call p n t) (process_fault p n t) (λ s ys. process_left p n t s.path ys) old (process_is p n t) tt (process_left p n t old.path) c.requires.1.1.1.0.lowering c.in_ok-check_process.ensures.fault
    (λ q ys stands. ap (λ m. process_left p n t m ys q.around q.state) (sym stands.body.path)) in
    let e = c.in_err-begin_process.field-0.0 in
    let err : c.from_residual-in_err-begin_process.result ≡ Err e = search rules in
    rw err (begin_fails p n t K x old.path old c.requires.1.1.1.1.0 c.arg_count-count.result c.arg_count-count.ensures.are so_far c.begin_process.new.state e c.in_err-begin_process.ensures.walk)

pub calls::process_call-returns-in_err-ports : goal.calls::process_call-returns-in_err-ports
calls::process_call-returns-in_err-ports g t0 c =
    let K = Knows g.N.Natives.titles g.N.Natives.answer c.args.walker.now in
    let p = c.args.place in
    let n = c.args.name.now in
    let t = view_process c.args.process.now in
    let old = c.args.state.now in
    let mid = c.begin_process.new.state in
    let x = c.args.args in
    let so_far = check_passes K x (process_call p n t) (process_fault p n t) (λ s ys. process_left p n t s.path ys) old (process_is p n t) tt (process_left p n t old.path) c.requires.1.1.1.0.lowering c.in_ok-check_process.ensures.fault
    (λ q ys stands. ap (λ m. process_left p n t m ys q.around q.state) (sym stands.body.path)) in
    let there = begun p n t K x old.path old c.requires.1.1.1.1.0 c.arg_count-count.result c.arg_count-count.ensures.are so_far mid tt c.in_ok-begin_process.ensures.walk in
    let e = c.in_err-ports.field-0.0 in
    let err : c.from_residual-in_err-ports.result ≡ Err e = search rules in
    rw err (args_fail_here p n t K x old.path old c.requires.1.1.1.1.0 mid there c.channel_args.new.state e c.in_err-ports.ensures.walk)

pub calls::process_call-returns : goal.calls::process_call-returns
calls::process_call-returns g t0 c =
    let K = Knows g.N.Natives.titles g.N.Natives.answer c.args.walker.now in
    let p = c.args.place in
    let n = c.args.name.now in
    let t = view_process c.args.process.now in
    let old = c.args.state.now in
    let mid = c.begin_process.new.state in
    let two = c.channel_args.new.state in
    let new = c.call_process.new.state in
    let ps = c.in_ok-ports.ports in
    let x = c.args.args in
    let so_far = check_passes K x (process_call p n t) (process_fault p n t) (λ s ys. process_left p n t s.path ys) old (process_is p n t) tt (process_left p n t old.path) c.requires.1.1.1.0.lowering c.in_ok-check_process.ensures.fault
    (λ q ys stands. ap (λ m. process_left p n t m ys q.around q.state) (sym stands.body.path)) in
    let there = begun p n t K x old.path old c.requires.1.1.1.1.0 c.arg_count-count.result c.arg_count-count.ensures.are so_far mid tt c.in_ok-begin_process.ensures.walk in
    let step = c.in_ok-ports.ensures.walk in
    let first = c.in_ok-begin_process.ensures.walk.goes in
    let goes : Goes old two = goes_on old mid two first step.goes in
    let count : length ps.items ≡ c.arg_count-count.result = c.in_ok-ports.ensures.count ∙ sym c.arg_count-count.ensures.count in
    let after = c.calls_last.ensures.after n c.arg_count-count.result old mid two c.in_ok-begin_process.ensures.after step.goes in
    let closes : GoesCalled n c.arg_count-count.result two new → Goes old new = c.calls_last.ensures.called n c.arg_count-count.result old two new after goes in
    let same = c.calls_last.ensures.path old two goes in
    called_at_last p n t K x old.path old c.requires.1.1.1.1.0 mid there two new ps two.path c.call_process.result same step
    (subst (λ k. GoesCalled n k two new → Goes old new) (sym count) closes) c.call_process.ensures

pub calls::process_call-call_process-requires-clause-before : goal.calls::process_call-call_process-requires-clause-before
calls::process_call-call_process-requires-clause-before g t0 c =
    can_go_on g.N.Natives.titles g.N.Natives.answer g.N.Natives.keeps c.args.walker.now c.args.state.now c.channel_args.new.state c.requires.1.1.1.0
    (goes_on c.args.state.now c.begin_process.new.state c.channel_args.new.state c.in_ok-begin_process.ensures.walk.goes c.in_ok-ports.ensures.walk.goes)

pub calls::process_call-call_process-requires-clause-begun : goal.calls::process_call-call_process-requires-clause-begun
calls::process_call-call_process-requires-clause-begun g t0 c =
    c.calls_last.ensures.begun c.args.name.now c.begin_process.new.state c.channel_args.new.state c.in_ok-ports.ensures.walk.goes c.in_ok-begin_process.ensures.begun

pub calls::process_call-call_process-requires-clause-room : goal.calls::process_call-call_process-requires-clause-room
calls::process_call-call_process-requires-clause-room g t0 c =
    let two = c.channel_args.new.state in
    let count : length c.in_ok-ports.ports.items ≡ c.arg_count-count.result = c.in_ok-ports.ensures.count ∙ sym c.arg_count-count.ensures.count in
    subst (λ k. HasRoom two.plan k) (sym count)
    (c.calls_last.ensures.room c.arg_count-count.result c.begin_process.new.state two c.in_ok-ports.ensures.walk.goes c.in_ok-begin_process.ensures.room)

pub calls::process_call-channel_args-requires : goal.calls::process_call-channel_args-requires
calls::process_call-channel_args-requires g t0 c κs within =
    (omega (arith, c.requires.1.0), (search rules, ((can_go_on g.N.Natives.titles g.N.Natives.answer g.N.Natives.keeps c.args.walker.now c.args.state.now c.begin_process.new.state c.requires.1.1.1.0 c.in_ok-begin_process.ensures.walk.goes), (args_read c.args.state.now.plan c.begin_process.new.state.plan c.args.args c.in_ok-begin_process.ensures.walk.later c.requires.1.1.1.1.0))))

pub calls::workflow_call-returns-in_err-check_workflow : goal.calls::workflow_call-returns-in_err-check_workflow
calls::workflow_call-returns-in_err-check_workflow g t0 c =
    let K = Knows g.N.Natives.titles g.N.Natives.answer c.args.walker.now in
    let p = c.args.place in
    let n = c.args.name.now in
    let t = view_workflow c.args.workflow.now in
    let e = c.in_err-check_workflow.field-0.0 in
    let err : c.from_residual.result ≡ Err e = search rules in
    rw err (check_stops K c.args.args (workflow_call p n t) (called_fault p n t) (λ s ys. workflow_left p n t ys) c.args.state.now (workflow_is p n t) e c.in_err-check_workflow.ensures.fault)

pub calls::workflow_call-returns-in_err-begin_workflow : goal.calls::workflow_call-returns-in_err-begin_workflow
calls::workflow_call-returns-in_err-begin_workflow g t0 c =
    let K = Knows g.N.Natives.titles g.N.Natives.answer c.args.walker.now in
    let p = c.args.place in
    let n = c.args.name.now in
    let t = view_workflow c.args.workflow.now in
    let old = c.args.state.now in
    let x = c.args.args in
    let so_far = check_passes K x (workflow_call p n t) (called_fault p n t) (λ s ys. workflow_left p n t ys) old (workflow_is p n t) tt (workflow_left p n t) c.requires.1.1.1.0.lowering c.in_ok-check_workflow.ensures.fault (λ q ys stands. refl) in
    let e = c.in_err-begin_workflow.field-0.0 in
    let err : c.from_residual-in_err-begin_workflow.result ≡ Err e = search rules in
    rw err (workflow_fails p n t K x old c.requires.1.1.1.1.0 so_far c.begin_workflow.new.state e c.in_err-begin_workflow.ensures.walk)

pub calls::workflow_call-returns-in_err-ports : goal.calls::workflow_call-returns-in_err-ports
calls::workflow_call-returns-in_err-ports g t0 c =
    let K = Knows g.N.Natives.titles g.N.Natives.answer c.args.walker.now in
    let p = c.args.place in
    let n = c.args.name.now in
    let t = view_workflow c.args.workflow.now in
    let old = c.args.state.now in
    let mid = c.begin_workflow.new.state in
    let x = c.args.args in
    let so_far = check_passes K x (workflow_call p n t) (called_fault p n t) (λ s ys. workflow_left p n t ys) old (workflow_is p n t) tt (workflow_left p n t) c.requires.1.1.1.0.lowering c.in_ok-check_workflow.ensures.fault (λ q ys stands. refl) in
    let there = workflow_begun p n t K x old c.requires.1.1.1.1.0 so_far mid tt c.in_ok-begin_workflow.ensures.walk in
    let e = c.in_err-ports.field-0.0 in
    let err : c.from_residual-in_err-ports.result ≡ Err e = search rules in
    rw err (workflow_args_fail p n t K x old c.requires.1.1.1.1.0 mid there c.channel_args.new.state e c.in_err-ports.ensures.walk)

pub calls::workflow_call-returns-in_err-outputs : goal.calls::workflow_call-returns-in_err-outputs
calls::workflow_call-returns-in_err-outputs g t0 c =
    let K = Knows g.N.Natives.titles g.N.Natives.answer c.args.walker.now in
    let p = c.args.place in
    let n = c.args.name.now in
    let t = view_workflow c.args.workflow.now in
    let old = c.args.state.now in
    let mid = c.begin_workflow.new.state in
    let two = c.channel_args.new.state in
    let x = c.args.args in
    let so_far = check_passes K x (workflow_call p n t) (called_fault p n t) (λ s ys. workflow_left p n t ys) old (workflow_is p n t) tt (workflow_left p n t) c.requires.1.1.1.0.lowering c.in_ok-check_workflow.ensures.fault (λ q ys stands. refl) in
    let there = workflow_begun p n t K x old c.requires.1.1.1.1.0 so_far mid tt c.in_ok-begin_workflow.ensures.walk in
    let with_ports = workflow_args p n t K x old c.requires.1.1.1.1.0 mid there two c.in_ok-ports.ports c.in_ok-ports.ensures.walk in
    let e = c.in_err-outputs.field-0.0 in
    let err : c.from_residual-in_err-outputs.result ≡ Err e = search rules in
    rw err (enter_fails p n t K x old c.requires.1.1.1.1.0 two c.in_ok-ports.ports with_ports c.enter.new.state e c.in_err-outputs.ensures)

pub calls::workflow_call-returns : goal.calls::workflow_call-returns
calls::workflow_call-returns g t0 c =
    let K = Knows g.N.Natives.titles g.N.Natives.answer c.args.walker.now in
    let p = c.args.place in
    let n = c.args.name.now in
    let t = view_workflow c.args.workflow.now in
    let old = c.args.state.now in
    let mid = c.begin_workflow.new.state in
    let two = c.channel_args.new.state in
    let three = c.enter.new.state in
    let x = c.args.args in
    let so_far = check_passes K x (workflow_call p n t) (called_fault p n t) (λ s ys. workflow_left p n t ys) old (workflow_is p n t) tt (workflow_left p n t) c.requires.1.1.1.0.lowering c.in_ok-check_workflow.ensures.fault (λ q ys stands. refl) in
    let there = workflow_begun p n t K x old c.requires.1.1.1.1.0 so_far mid tt c.in_ok-begin_workflow.ensures.walk in
    let with_ports = workflow_args p n t K x old c.requires.1.1.1.1.0 mid there two c.in_ok-ports.ports c.in_ok-ports.ensures.walk in
    let goes : Goes old two = goes_on old mid two c.in_ok-begin_workflow.ensures.walk.goes c.in_ok-ports.ensures.walk.goes in
    entered_at_last p n t K x old c.requires.1.1.1.1.0 two c.in_ok-ports.ports with_ports three c.called_here.new.state c.in_ok-outputs.outputs c.called_here.result
    (c.calls_last.ensures.entered n old two three c.in_ok-check_workflow.ensures.new goes) c.in_ok-outputs.ensures c.called_here.ensures

pub calls::workflow_call-channel_args-requires : goal.calls::workflow_call-channel_args-requires
calls::workflow_call-channel_args-requires g t0 c κs within =
    (omega (arith, c.requires.1.0), (search rules, ((can_go_on g.N.Natives.titles g.N.Natives.answer g.N.Natives.keeps c.args.walker.now c.args.state.now c.begin_workflow.new.state c.requires.1.1.1.0 c.in_ok-begin_workflow.ensures.walk.goes), (args_read c.args.state.now.plan c.begin_workflow.new.state.plan c.args.args c.in_ok-begin_workflow.ensures.walk.later c.requires.1.1.1.1.0))))

pub calls::workflow_call-enter-requires : goal.calls::workflow_call-enter-requires
calls::workflow_call-enter-requires g t0 c κs within = (
  omega (arith, c.requires.1.0),
  (
    search rules,
    (
      (can_go_on g.N.Natives.titles g.N.Natives.answer g.N.Natives.keeps c.args.walker.now c.args.state.now c.channel_args.new.state c.requires.1.1.1.0
          (goes_on c.args.state.now c.begin_workflow.new.state c.channel_args.new.state c.in_ok-begin_workflow.ensures.walk.goes c.in_ok-ports.ensures.walk.goes)),
      ((c.calls_last.ensures.begun c.args.name.now c.begin_workflow.new.state c.channel_args.new.state c.in_ok-ports.ensures.walk.goes c.in_ok-begin_workflow.ensures.begun), (search rules, search rules)),
    ),
  ),
)

pub chains::called-returns-in-Name : goal.chains::called-returns-in-Name
chains::called-returns-in-Name g t0 c =
    called_name (Knows g.N.Natives.titles g.N.Natives.answer c.args.walker.now) c.args.args (tree_of c.args.front) c.args.place c.args.state.now c.named_call.new.state c.named_call.result _ _ c.in-Name.ensures c.named_call.ensures

pub chains::called-returns-in-Property : goal.chains::called-returns-in-Property
chains::called-returns-in-Property g t0 c =
    called_property (Knows g.N.Natives.titles g.N.Natives.answer c.args.walker.now) c.args.args (tree_of c.args.front) c.args.place c.args.state.now c.method.new.state c.method.result _ _ _ c.in-Property.ensures c.method.ensures

pub chains::called-returns-in-List : goal.chains::called-returns-in-List
chains::called-returns-in-List g t0 c =
    called_refused (Knows g.N.Natives.titles g.N.Natives.answer c.args.walker.now) c.args.args (tree_of c.args.front) c.args.place c.args.state.now c.bad_option.result c.last.result c.last.ensures (ap is_callable c.in-List.is) c.requires.before.lowering c.bad_option.ensures

pub chains::called-returns-in-Index : goal.chains::called-returns-in-Index
chains::called-returns-in-Index g t0 c =
    called_refused (Knows g.N.Natives.titles g.N.Natives.answer c.args.walker.now) c.args.args (tree_of c.args.front) c.args.place c.args.state.now c.bad_option-in-Index.result c.last.result c.last.ensures (ap is_callable c.in-Index.is) c.requires.before.lowering c.bad_option-in-Index.ensures

pub chains::called-returns-in-Call : goal.chains::called-returns-in-Call
chains::called-returns-in-Call g t0 c =
    called_refused (Knows g.N.Natives.titles g.N.Natives.answer c.args.walker.now) c.args.args (tree_of c.args.front) c.args.place c.args.state.now c.bad_option-in-Call.result c.last.result c.last.ensures (ap is_callable c.in-Call.is) c.requires.before.lowering c.bad_option-in-Call.ensures

pub chains::called-returns-in-With : goal.chains::called-returns-in-With
chains::called-returns-in-With g t0 c =
    called_refused (Knows g.N.Natives.titles g.N.Natives.answer c.args.walker.now) c.args.args (tree_of c.args.front) c.args.place c.args.state.now c.bad_option-in-With.result c.last.result c.last.ensures (ap is_callable c.in-With.is) c.requires.before.lowering c.bad_option-in-With.ensures

pub chains::called-returns-in-Pipe : goal.chains::called-returns-in-Pipe
chains::called-returns-in-Pipe g t0 c =
    called_refused (Knows g.N.Natives.titles g.N.Natives.answer c.args.walker.now) c.args.args (tree_of c.args.front) c.args.place c.args.state.now c.bad_option-in-Pipe.result c.last.result c.last.ensures (ap is_callable c.in-Pipe.is) c.requires.before.lowering c.bad_option-in-Pipe.ensures

pub chains::called-returns-in-Conditional : goal.chains::called-returns-in-Conditional
chains::called-returns-in-Conditional g t0 c =
    called_refused (Knows g.N.Natives.titles g.N.Natives.answer c.args.walker.now) c.args.args (tree_of c.args.front) c.args.place c.args.state.now c.bad_option-in-Conditional.result c.last.result c.last.ensures (ap is_callable c.in-Conditional.is) c.requires.before.lowering c.bad_option-in-Conditional.ensures

pub chains::called-returns-in-Other : goal.chains::called-returns-in-Other
chains::called-returns-in-Other g t0 c =
    called_refused (Knows g.N.Natives.titles g.N.Natives.answer c.args.walker.now) c.args.args (tree_of c.args.front) c.args.place c.args.state.now c.bad_option-in-Other.result c.last.result c.last.ensures (ap is_callable c.in-Other.is) c.requires.before.lowering c.bad_option-in-Other.ensures

pub chains::called-method-requires : goal.chains::called-method-requires
chains::called-method-requires g t0 c κs within =
    let is : tree_of c.args.front ≡ tree.property (tree_of c.in-Property.before) (tree.name c.in-Property.at c.in-Property.name.now) = c.in-Property.ensures in
    let deep : depth (tree_of c.args.front) ≡ suc (depth (tree_of c.in-Property.before)) = ap depth is in
    (omega (arith, deep, c.decreases), search rules)

pub chains::closed-returns-in-Call : goal.chains::closed-returns-in-Call
chains::closed-returns-in-Call g t0 c =
    let K = (Knows g.N.Natives.titles g.N.Natives.answer c.args.walker.now) in
    let code = c.args.closure.now in
    let f = tree_of c.in-Call.before in
    let P : Tree → Type 0 = λ t. Walked K (due a_thing ((part_of t).closed code.place (closure_arg code ∷ []))) c.args.state.now c.called.new.state c.called.result in
    subst P (sym c.in-Call.ensures)
    (with_these K c.with_closure.result f c.in-Call.place c.args.state.now c.called.new.state c.called.result (args_in c.in-Call.args.now ++ closure_arg code ∷ []) c.with_closure.ensures.are c.requires.lowering
    ((part_of f).called c.in-Call.place) c.called.ensures)

pub chains::closed-returns-in-Name : goal.chains::closed-returns-in-Name
chains::closed-returns-in-Name g t0 c =
    let P = is_call c.last.result ≡ false in
    let other : is_call c.last.result ≡ false = one_of P c.in-Name.is (λ h. ap is_call h.2) (λ r. one_of P r (λ h. ap is_call h.3) (λ r. one_of P r (λ h. ap is_call h.2) (λ r. one_of P r (λ h. ap is_call h.3) (λ r. one_of P r (λ h. ap is_call h.2) (λ r. one_of P r (λ h. ap is_call h.3) (λ r. one_of P r (λ h. ap is_call h.4) (λ h. ap is_call h))))))) in
    closed_alone (Knows g.N.Natives.titles g.N.Natives.answer c.args.walker.now) c.with_closure-in-Name.result (tree_of c.args.front) c.args.closure.now.place c.args.state.now c.called-in-Name.new.state c.called-in-Name.result (closure_arg c.args.closure.now ∷ []) c.with_closure-in-Name.ensures.are c.requires.lowering c.last.result c.last.ensures other
    c.called-in-Name.ensures

pub chains::closed-called-requires : goal.chains::closed-called-requires
chains::closed-called-requires g t0 c κs within =
    let is : tree_of c.args.front ≡ tree.call c.in-Call.place (tree_of c.in-Call.before) (trees (map view_arg c.in-Call.args.now)) = c.in-Call.ensures in
    let deep : depth (tree_of c.args.front) ≡ suc (max (depth (tree_of c.in-Call.before)) (depth (trees (map view_arg c.in-Call.args.now)))) = ap depth is in
    let args = with_deep c.with_closure.result c.with_closure.ensures.alone c.in-Call.args.now c.args.closure.now c.with_closure.ensures.are in
    (omega (arith, deep, args, c.decreases), search rules)

pub chains::closed-called-requires-in-Name : goal.chains::closed-called-requires-in-Name
chains::closed-called-requires-in-Name g t0 c κs within =
    let args = with_deep c.with_closure-in-Name.result c.with_closure-in-Name.ensures.alone [] c.args.closure.now c.with_closure-in-Name.ensures.are in
    (omega (arith, args, c.decreases), search rules)

pub chains::free_method-returns-then-is_channel_word : goal.chains::free_method-returns-then-is_channel_word
chains::free_method-returns-then-is_channel_word g t0 c =
    let word : is_channel_word c.args.object.now ≡ true = search rules in
    source_method (Knows g.N.Natives.titles g.N.Natives.answer c.args.walker.now) c.args.args c.args.at c.args.object.now c.args.place c.args.name.now c.args.state.now c.requires.before.lowering c.source_call.new.state c.source_call.result
    word c.source_call.ensures

pub chains::free_method-returns : goal.chains::free_method-returns
chains::free_method-returns g t0 c =
    let word : is_channel_word c.args.object.now ≡ false = search rules in
    let fault : c.bad_option.result ≡ Err (BadOption c.args.at) = search rules in
    no_method (Knows g.N.Natives.titles g.N.Natives.answer c.args.walker.now) c.args.args c.args.at c.args.object.now c.args.place c.args.name.now c.args.state.now c.requires.before.lowering c.bad_option.result word fault

pub chains::method-returns-in-Name : goal.chains::method-returns-in-Name
chains::method-returns-in-Name g t0 c =
    let P : Tree → Type 0 = λ t. Walked (Knows g.N.Natives.titles g.N.Natives.answer c.args.walker.now) (of_args c.args.args a_thing ((part_of t).method c.args.place c.args.name.now)) c.args.state.now c.name_method.new.state c.name_method.result in
    subst P (sym c.in-Name.ensures) c.name_method.ensures

pub chains::method-returns-in-List : goal.chains::method-returns-in-List
chains::method-returns-in-List g t0 c =
    let P = is_name c.last.result ≡ false in
    let other : is_name c.last.result ≡ false = one_of P c.in-List.is (λ h. ap is_name h.2) (λ r. one_of P r (λ h. ap is_name h.3) (λ r. one_of P r (λ h. ap is_name h.3) (λ r. one_of P r (λ h. ap is_name h.3) (λ r. one_of P r (λ h. ap is_name h.2) (λ r. one_of P r (λ h. ap is_name h.3) (λ r. one_of P r (λ h. ap is_name h.4) (λ h. ap is_name h))))))) in
    method_of_thing (Knows g.N.Natives.titles g.N.Natives.answer c.args.walker.now) c.args.args (tree_of c.args.front) c.args.place c.args.name.now c.args.state.now c.thing_method.new.state c.thing_method.result c.last.result c.last.ensures other c.thing_method.ensures

pub chains::method_of-returns-in-Known : goal.chains::method_of-returns-in-Known
chains::method_of-returns-in-Known g t0 c =
    method_of_value c.args.begin c.args.place c.args.name.now (Knows g.N.Natives.titles g.N.Natives.answer c.args.walker.now) c.args.args c.args.thing c.args.state.now c.bad_option.result c.requires.before.lowering c.in-Known.field-0 c.in-Known.is c.bad_option.ensures

pub chains::method_of-returns-in-Channel : goal.chains::method_of-returns-in-Channel
chains::method_of-returns-in-Channel g t0 c =
    method_of_port c.args.begin c.args.place c.args.name.now (Knows g.N.Natives.titles g.N.Natives.answer c.args.walker.now) c.args.args c.args.thing c.args.state.now c.operator_call.new.state c.operator_call.result c.requires.before.lowering c.in-Channel.port c.in-Channel.is
    c.operator_call.ensures

pub chains::method_of-returns-in-Outputs : goal.chains::method_of-returns-in-Outputs
chains::method_of-returns-in-Outputs g t0 c =
    method_of_results c.args.begin c.args.place c.args.name.now (Knows g.N.Natives.titles g.N.Natives.answer c.args.walker.now) c.args.args c.args.thing c.args.state.now c.operator_call-in-Outputs.new.state c.operator_call-in-Outputs.result c.requires.before.lowering
    c.in-Outputs.outputs c.in-Outputs.is c.operator_call-in-Outputs.ensures

pub chains::name_method-returns-in_err-thing-in-Some : goal.chains::name_method-returns-in_err-thing-in-Some
chains::name_method-returns-in_err-thing-in-Some g t0 c =
    let err : c.from_residual.result ≡ Err Mem = search rules in
    rw err (lost_here (Knows g.N.Natives.titles g.N.Natives.answer c.args.walker.now) (of_args c.args.args a_thing (name_method_at c.args.at c.args.object.now c.args.place c.args.name.now)) c.args.state.now)

pub chains::name_method-returns-in_ok-thing-in-Some : goal.chains::name_method-returns-in_ok-thing-in-Some
chains::name_method-returns-in_ok-thing-in-Some g t0 c =
    let K = Knows g.N.Natives.titles g.N.Natives.answer c.args.walker.now in
    let t = c.in-Some.thing.now in
    let name : c.as_str.result.now ≡ c.args.object.now = search rules in
    let P : List ℕ → Type 0 = λ m. Finds c.names.result.now m (Some t) in
    bound_method K c.args.args c.args.at c.args.object.now c.args.place c.args.name.now c.args.state.now c.requires.before.lowering c.method_of.new.state t c.in_ok-thing-in-Some.thing c.method_of.result
    (is_found K c.names.result.now c.args.state.now c.args.object.now (Some t) c.names.ensures (subst P name c.in-Some.ensures.stands)) c.in_ok-thing-in-Some.ensures c.method_of.ensures

pub chains::name_method-returns-in-None : goal.chains::name_method-returns-in-None
chains::name_method-returns-in-None g t0 c =
    let K = Knows g.N.Natives.titles g.N.Natives.answer c.args.walker.now in
    let name : c.as_str.result.now ≡ c.args.object.now = search rules in
    let P : List ℕ → Type 0 = λ m. Finds c.names.result.now m None in
    free_method_of K c.args.args c.args.at c.args.object.now c.args.place c.args.name.now c.args.state.now c.requires.before.lowering c.free_method.new.state c.free_method.result
    (is_found K c.names.result.now c.args.state.now c.args.object.now None c.names.ensures (subst P name c.in-None.ensures.stands))
    c.free_method.ensures

pub chains::name_method-method_of-requires : goal.chains::name_method-method_of-requires
chains::name_method-method_of-requires g t0 c κs within = (
  omega (arith, c.decreases),
  (
    search rules,
    (
      search rules,
      (
        search rules,
        (
          search rules,
          (let t = c.in-Some.thing.now in
              let m = c.as_str.result.now in
              let P : BodyNames → Type 0 = λ n. Holds n m t in
              subst (λ v. ThingReads c.args.state.now.plan v) (sym c.in_ok-thing-in-Some.ensures) (c.requires.before.lowering.names m t (subst P c.names.ensures c.in-Some.ensures.holds))),
        ),
      ),
    ),
  ),
)

pub chains::operator_call-returns-in-Some : goal.chains::operator_call-returns-in-Some
chains::operator_call-returns-in-Some g t0 c =
    let P : Option OpRow → Type 0 = λ o. Walked (Knows g.N.Natives.titles g.N.Natives.answer c.args.walker.now) (of_call c.args.thing c.args.args a_thing (λ t xs. workflow.method_by o c.args.place t xs)) c.args.state.now c.operator_on_thing.new.state c.operator_on_thing.result in
    let name = ap (λ n. row_of n operator_rows) c.as_str.ensures in
    subst P (c.in-Some.ensures ∙ name) c.operator_on_thing.ensures

pub chains::operator_call-returns-in-None : goal.chains::operator_call-returns-in-None
chains::operator_call-returns-in-None g t0 c =
    let name = ap (λ n. row_of n operator_rows) c.as_str.ensures in
    unknown_method c.args.place c.args.place c.args.name.now (Knows g.N.Natives.titles g.N.Natives.answer c.args.walker.now) c.args.args c.args.thing c.args.state.now (Err (UnknownName c.args.place)) c.requires.before.lowering (sym (c.in-None.ensures ∙ name))

pub chains::operator_call-operator_on_thing-requires : goal.chains::operator_call-operator_on_thing-requires
chains::operator_call-operator_on_thing-requires g t0 c κs within = (
  omega (arith, c.decreases),
  (
    search rules,
    (
      search rules,
      (
        search rules,
        (
          search rules,
          (record {
            name = c.args.name.now;
            listed = sym (c.in-Some.ensures ∙ ap (λ n. row_of n operator_rows) c.as_str.ensures);
          }),
        ),
      ),
    ),
  ),
)

pub chains::thing_method-returns-in_err-thing : goal.chains::thing_method-returns-in_err-thing
chains::thing_method-returns-in_err-thing g t0 c =
    let e = c.in_err-thing.field-0.0 in
    let t = tree_of c.args.front in
    let err : c.from_residual.result ≡ Err e = search rules in
    rw err (args_fail (Knows g.N.Natives.titles g.N.Natives.answer c.args.walker.now) c.args.args (part_of t).thing (λ y ys. workflow.method_of (begins_at t) c.args.place c.args.name.now ys y) c.args.state.now c.thing.new.state c.requires.before.lowering c.requires.alone e
    c.in_err-thing.ensures)

pub chains::thing_method-returns : goal.chains::thing_method-returns
chains::thing_method-returns g t0 c =
    let K = Knows g.N.Natives.titles g.N.Natives.answer c.args.walker.now in
    let t = tree_of c.args.front in
    let mid = c.thing.new.state in
    let it = c.in_ok-thing.thing in
    args_then K c.args.args (part_of t).thing (λ y ys. workflow.method_of (begins_at t) c.args.place c.args.name.now ys y) c.args.state.now mid c.requires.before.lowering c.requires.alone c.method_of.new.state it c.method_of.result c.in_ok-thing.ensures
    (subst (λ (q : Place). Walked K (of_call it c.args.args a_thing (λ y ys. workflow.method_of q c.args.place c.args.name.now ys y)) mid c.method_of.new.state c.method_of.result) c.begin.ensures c.method_of.ensures)

pub chains::thing_method-method_of-requires : goal.chains::thing_method-method_of-requires
chains::thing_method-method_of-requires g t0 c κs within =
    (omega (arith, c.decreases), (search rules, ((can_go_on g.N.Natives.titles g.N.Natives.answer g.N.Natives.keeps c.args.walker.now c.args.state.now c.thing.new.state c.requires.before c.in_ok-thing.ensures.goes), ((args_read c.args.state.now.plan c.thing.new.state.plan c.args.args c.in_ok-thing.ensures.later c.requires.reads), (search rules, search rules)))))

pub enters::enter-returns-then-walker-eq0 : goal.enters::enter-returns-then-walker-eq0
enters::enter-returns-then-walker-eq0 g t0 c =
    into_none g.N.Natives.titles g.N.Natives.answer c.args.walker.now c.args.place c.args.name.now (view_workflow c.args.called.now) c.args.ports c.args.state.now c.if-walker-eq0.true

pub enters::enter-returns-in_err-names : goal.enters::enter-returns-in_err-names
enters::enter-returns-in_err-names g t0 c =
    let err : c.from_residual.result ≡ Err Mem = search rules in
    rw err (into_lost g.N.Natives.titles g.N.Natives.answer c.args.walker.now c.args.place c.args.name.now (view_workflow c.args.called.now) c.args.ports c.args.state.now c.args.state.now refl)

pub enters::enter-enter_workflow-requires-clause-fresh : goal.enters::enter-enter_workflow-requires-clause-fresh
enters::enter-enter_workflow-requires-clause-fresh g t0 c =
    c.requires.1.1.1.1.0.fresh

pub enters::enter-enter_workflow-requires-clause-reads : goal.enters::enter-enter_workflow-requires-clause-reads
enters::enter-enter_workflow-requires-clause-reads g t0 c =
    table_reads c.args.state.now.plan c.deref.result.now c.args.ports.items c.in_ok-names.names.entries c.deref.ensures.value c.in_ok-names.ensures.only c.requires.1.1.1.1.1.0

pub enters::enter-returns-in_err-outer : goal.enters::enter-returns-in_err-outer
enters::enter-returns-in_err-outer g t0 c =
    let err : c.from_residual-in_err-outer.result ≡ Err Mem = search rules in
    rw err (into_lost g.N.Natives.titles g.N.Natives.answer c.args.walker.now c.args.place c.args.name.now (view_workflow c.args.called.now) c.args.ports c.args.state.now c.enter_workflow.new.self c.enter_workflow.ensures.plan)

pub enters::enter-returns-in_err-outputs : goal.enters::enter-returns-in_err-outputs
enters::enter-returns-in_err-outputs g t0 c =
    let x = c.args.walker.now in
    let n = c.args.name.now in
    let t = view_workflow c.args.called.now in
    let body = view_workflow_body c.args.called.now.body in
    let ports = c.args.ports in
    let names = c.in_ok-names.names.entries in
    let old = c.args.state.now in
    let one = c.enter_workflow.new.self in
    let e = c.in_err-outputs.field-0.0 in
    let left : x.left ≡ suc (x.left - 1) = omega (arith, c.if-walker-eq0.false) in
    let table = names_stand body (map name_tree c.names_taken.result.now) c.deref.result.now ports.items names c.names_taken.ensures c.deref.ensures.value c.in_ok-names.ensures.stands in
    let inside : IsInside n body ports.items names c.in_ok-outer.outer old one =
    is_inside n n body ports.items names c.in_ok-outer.outer old one refl c.requires.1.1.1.1.0 c.requires.1.1.1.0.lowering c.in_ok-outer.ensures.aside c.in_ok-outer.ensures.walk
    c.enter_workflow.ensures.plan c.in_ok-outer.ensures.calls c.in_ok-outer.ensures.within table in
    let err : c.from_residual-in_err-outputs.result ≡ Err e = search (rules, c.from_residual-in_err-outputs.ensures.1) in
    rw err (into_fails g.N.Natives.titles g.N.Natives.answer x (x.left - 1) left c.args.place n t body refl ports names c.in_ok-outer.outer old one c.workflow.new.state e inside c.in_err-outputs.ensures)

pub enters::enter-returns : goal.enters::enter-returns
enters::enter-returns g t0 c =
    let x = c.args.walker.now in
    let n = c.args.name.now in
    let t = view_workflow c.args.called.now in
    let body = view_workflow_body c.args.called.now.body in
    let ports = c.args.ports in
    let names = c.in_ok-names.names.entries in
    let outer = c.in_ok-outer.outer in
    let old = c.args.state.now in
    let one = c.enter_workflow.new.self in
    let two = c.workflow.new.state in
    let new = c.leave_workflow.new.self in
    let left : x.left ≡ suc (x.left - 1) = omega (arith, c.if-walker-eq0.false) in
    let table = names_stand body (map name_tree c.names_taken.result.now) c.deref.result.now ports.items names c.names_taken.ensures c.deref.ensures.value c.in_ok-names.ensures.stands in
    let inside : IsInside n body ports.items names outer old one =
    is_inside n n body ports.items names outer old one refl c.requires.1.1.1.1.0 c.requires.1.1.1.0.lowering c.in_ok-outer.ensures.aside c.in_ok-outer.ensures.walk
    c.enter_workflow.ensures.plan c.in_ok-outer.ensures.calls c.in_ok-outer.ensures.within table in
    let outside : IsOutside outer two new = record { back = c.leave_workflow.ensures.back; plan = c.leave_workflow.ensures.plan; calls = c.leave_workflow.ensures.calls; within = c.leave_workflow.ensures.within } in
    into_gives g.N.Natives.titles g.N.Natives.answer x (x.left - 1) left c.args.place n t body refl ports names outer old one two new c.in_ok-outputs.outputs
    c.paths_stay_apart.ensures.workflow c.paths_stay_apart.ensures.more c.plans_extend.ensures.same inside c.in_ok-outputs.ensures outside

pub enters::enter-workflow-requires : goal.enters::enter-workflow-requires
enters::enter-workflow-requires g t0 c κs within =
    let falls = entered_falls c.args.walker.now c.args.name.now c.args.called.now c.if-walker-eq0.false c.requires.1.1.1.1.1.1 in
    (omega (arith, falls, c.requires.1.0), search rules)

pub members::index_of-returns-in_err-thing : goal.members::index_of-returns-in_err-thing
members::index_of-returns-in_err-thing g t0 c =
    let e = c.in_err-thing.field-0.0 in
    let t = tree_of c.args.front in
    let err : c.from_residual.result ≡ Err e = search rules in
    rw err (thing_fails (Knows g.N.Natives.titles g.N.Natives.answer c.args.walker.now) (part_of t).thing (indexed (begins_at t) c.args.place (view c.args.index.now)) c.args.state.now c.thing.new.state c.requires.lowering e c.in_err-thing.ensures)

pub members::index_of-output_of-requires-clause-before : goal.members::index_of-output_of-requires-clause-before
members::index_of-output_of-requires-clause-before g t0 c =
    can_go_on g.N.Natives.titles g.N.Natives.answer g.N.Natives.keeps c.args.walker.now c.args.state.now c.thing.new.state c.requires c.in_ok-thing.ensures.goes

pub members::index_of-returns : goal.members::index_of-returns
members::index_of-returns g t0 c =
    let K = Knows g.N.Natives.titles g.N.Natives.answer c.args.walker.now in
    let t = tree_of c.args.front in
    let mid = c.thing.new.state in
    let it = c.in_ok-thing.thing in
    let r = c.output_of.result in
    thing_then K (part_of t).thing (indexed (begins_at t) c.args.place (view c.args.index.now)) c.args.state.now mid c.requires.lowering mid it r c.in_ok-thing.ensures
    (subst (λ (q : Place). Walked K (from a_thing it a_thing (indexed q c.args.place (view c.args.index.now))) mid mid r) c.begin.ensures c.output_of.ensures)

pub members::member-returns-in-Name : goal.members::member-returns-in-Name
members::member-returns-in-Name g t0 c =
    let K = Knows g.N.Natives.titles g.N.Natives.answer c.args.walker.now in
    let P : Tree → Type 0 = λ t. Walked K (due a_thing ((part_of t).member c.args.place c.args.name.now)) c.args.state.now c.args.state.now c.name_member.result in
    let Q : List ℕ → Type 0 = λ m. Walked K (due a_thing (name_member_at c.in-Name.at m c.args.place c.args.name.now)) c.args.state.now c.args.state.now c.name_member.result in
    subst P (sym c.in-Name.ensures) (subst Q c.as_str.ensures c.name_member.ensures)

pub members::member-returns-in-List : goal.members::member-returns-in-List
members::member-returns-in-List g t0 c =
    let P = is_name c.last.result ≡ false in
    let other : is_name c.last.result ≡ false = one_of P c.in-List.is (λ h. ap is_name h.2) (λ r. one_of P r (λ h. ap is_name h.3) (λ r. one_of P r (λ h. ap is_name h.3) (λ r. one_of P r (λ h. ap is_name h.3) (λ r. one_of P r (λ h. ap is_name h.2) (λ r. one_of P r (λ h. ap is_name h.3) (λ r. one_of P r (λ h. ap is_name h.4) (λ h. ap is_name h))))))) in
    member_of_thing (Knows g.N.Natives.titles g.N.Natives.answer c.args.walker.now) (tree_of c.args.front) c.args.place c.args.name.now c.args.state.now c.thing_member.new.state c.thing_member.result c.last.result c.last.ensures other c.thing_member.ensures

pub members::thing_member-returns-in_err-thing : goal.members::thing_member-returns-in_err-thing
members::thing_member-returns-in_err-thing g t0 c =
    let e = c.in_err-thing.field-0.0 in
    let t = tree_of c.args.front in
    let err : c.from_residual.result ≡ Err e = search rules in
    rw err (thing_fails (Knows g.N.Natives.titles g.N.Natives.answer c.args.walker.now) (part_of t).thing (workflow.member_of (begins_at t) c.args.place c.args.name.now) c.args.state.now c.thing.new.state c.requires.lowering e c.in_err-thing.ensures)

pub members::thing_member-returns : goal.members::thing_member-returns
members::thing_member-returns g t0 c =
    let K = Knows g.N.Natives.titles g.N.Natives.answer c.args.walker.now in
    let t = tree_of c.args.front in
    let mid = c.thing.new.state in
    let it = c.in_ok-thing.thing in
    let r = c.member_of.result in
    let step = still_from K it a_thing IsThing (workflow.member_of c.begin.result c.args.place c.args.name.now) mid c.in_ok-thing.ensures.goes.keeps (λ x v y h. h) r (member_reads mid.plan it r c.member_of.ensures.port c.in_ok-thing.ensures.fits) c.member_of.ensures.walk in
    thing_then K (part_of t).thing (workflow.member_of (begins_at t) c.args.place c.args.name.now) c.args.state.now mid c.requires.lowering mid it r c.in_ok-thing.ensures
    (subst (λ (q : Place). Walked K (from a_thing it a_thing (workflow.member_of q c.args.place c.args.name.now)) mid mid r) c.begin.ensures step)

pub operators::applied_to_received-returns-in_err-count : goal.operators::applied_to_received-returns-in_err-count
operators::applied_to_received-returns-in_err-count g t0 c =
    let e = c.in_err-count.field-0.0 in
    let err : c.from_residual.result ≡ Err e = search rules in
    let P : ℕ → Type 0 = λ m. Walked (Knows g.N.Natives.titles g.N.Natives.answer c.args.walker.now) (due nothing (counted c.args.place m)) c.args.state.now c.count.new.state (Err e) in
    rw err
    (got_fails (Knows g.N.Natives.titles g.N.Natives.answer c.args.walker.now) c.args.place c.args.row c.args.receiver c.args.args c.requires.alone c.args.state.now c.requires.before.lowering c.requires.reads c.args.operator c.requires.other c.unnamed_of.result c.unnamed_of.ensures.are
    c.count.new.state e (subst P c.ports_of.ensures c.in_err-count.ensures.walk))

pub operators::applied_to_received-returns-in_err-port : goal.operators::applied_to_received-returns-in_err-port
operators::applied_to_received-returns-in_err-port g t0 c =
    let e = c.in_err-port.field-0.0 in
    let err : c.from_residual-in_err-port.result ≡ Err e = search rules in
    let P : ℕ → Type 0 = λ m. Walked (Knows g.N.Natives.titles g.N.Natives.answer c.args.walker.now) (due nothing (counted c.args.place m)) c.args.state.now c.count.new.state (Ok c.in_ok-count.field-0) in
    rw err
    (fetch_fails (Knows g.N.Natives.titles g.N.Natives.answer c.args.walker.now) c.args.place c.args.row c.args.receiver c.args.args c.requires.alone c.args.state.now c.requires.before.lowering c.requires.reads c.args.operator c.requires.other c.unnamed_of.result c.unnamed_of.ensures.are
    c.count.new.state c.in_ok-count.field-0 (subst P c.ports_of.ensures c.in_ok-count.ensures.walk) c.channel_arg.new.state e c.in_err-port.ensures)

pub operators::applied_to_received-returns : goal.operators::applied_to_received-returns
operators::applied_to_received-returns g t0 c =
    let P : ℕ → Type 0 = λ m. Walked (Knows g.N.Natives.titles g.N.Natives.answer c.args.walker.now) (due nothing (counted c.args.place m)) c.args.state.now c.count.new.state (Ok c.in_ok-count.field-0) in
    let Q : ℕ → Type 0 = λ m. Grows c.args.state.now.plan m c.count.new.state.plan in
    got_given (Knows g.N.Natives.titles g.N.Natives.answer c.args.walker.now) c.args.place c.args.row c.args.receiver c.args.args c.requires.alone c.args.state.now c.requires.before.lowering c.requires.reads c.args.operator c.requires.other c.unnamed_of.result c.unnamed_of.ensures.are
    c.count.new.state c.in_ok-count.field-0 (subst P c.ports_of.ensures c.in_ok-count.ensures.walk) c.channel_arg.new.state c.with_channel.new.state c.in_ok-port.port 1 (reads_in c.args.row c.args.args) c.with_channel.result c.in_ok-port.ensures
    (room_by_count c.args.row c.args.args c.unnamed_of.result 1 c.args.state.now.plan c.count.new.state.plan c.unnamed_of.ensures.count
    (leaves_counted (ports_of c.args.row c.unnamed_of.result) c.args.state.now.plan c.count.new.state.plan (subst Q c.ports_of.ensures c.in_ok-count.ensures.grows))) c.with_channel.ensures

pub operators::applied_to_received-channel_arg-requires : goal.operators::applied_to_received-channel_arg-requires
operators::applied_to_received-channel_arg-requires g t0 c κs within = (
  omega (arith, c.decreases),
  (
    search rules,
    (
      (record {
        natives = c.requires.before.natives;
        somewhere = c.requires.before.somewhere;
        plain = c.requires.before.plain;
        lowering = c.in_ok-count.ensures.walk.goes.keeps;
      }),
      (one_still c.args.state.now.plan c.count.new.state.plan c.in_ok-count.ensures.walk.later c.args.receiver c.requires.reads),
    ),
  ),
)

pub operators::applied_to_received-with_channel-requires : goal.operators::applied_to_received-with_channel-requires
operators::applied_to_received-with_channel-requires g t0 c κs within = (
  omega (arith, c.decreases),
  (
    search rules,
    (
      (record {
        natives = c.requires.before.natives;
        somewhere = c.requires.before.somewhere;
        plain = c.requires.before.plain;
        lowering = c.in_ok-port.ensures.goes.keeps;
      }),
      (
        search rules,
        (
          (c.in_ok-port.ensures.fits),
          (
            search rules,
            (
              search rules,
              (room_kept (reads_in c.args.row c.args.args) c.count.new.state.plan c.channel_arg.new.state.plan
                  (room_counted c.args.row c.args.args c.unnamed_of.result c.ports_of.result c.count.new.state.plan c.unnamed_of.ensures.count c.ports_of.ensures c.in_ok-count.ensures.room)
                  (goes_keeps c.count.new.state c.channel_arg.new.state c.in_ok-port.ensures.goes)),
            ),
          ),
        ),
      ),
    ),
  ),
)

pub operators::applied_to_thing-returns-in_err-port : goal.operators::applied_to_thing-returns-in_err-port
operators::applied_to_thing-returns-in_err-port g t0 c =
    let e = c.in_err-port.field-0.0 in
    let err : c.from_residual.result ≡ Err e = search rules in
    rw err
    (met_fails (Knows g.N.Natives.titles g.N.Natives.answer c.args.walker.now) c.args.place c.args.row c.args.operator c.args.args c.args.thing c.unnamed_of-count.result c.args.state.now c.begin_operator.new.state c.requires.before.lowering c.unnamed_of-count.ensures.are e c.in_err-port.ensures.walk)

pub operators::applied_to_thing-returns : goal.operators::applied_to_thing-returns
operators::applied_to_thing-returns g t0 c =
    met_given (Knows g.N.Natives.titles g.N.Natives.answer c.args.walker.now) c.args.place c.args.row c.args.operator c.args.args c.args.thing c.unnamed_of-count.result c.args.state.now c.begin_operator.new.state c.requires.before.lowering c.unnamed_of-count.ensures.are c.requires.alone
    c.with_channel.new.state c.in_ok-port.port 1 (reads_in c.args.row c.args.args) c.with_channel.result c.in_ok-port.ensures.walk
    (room_by_count c.args.row c.args.args c.unnamed_of-count.result 1 c.args.state.now.plan c.begin_operator.new.state.plan c.unnamed_of-count.ensures.count c.in_ok-port.ensures.room) c.with_channel.ensures

pub operators::applied_to_thing-with_channel-requires : goal.operators::applied_to_thing-with_channel-requires
operators::applied_to_thing-with_channel-requires g t0 c κs within = (
  omega (arith, c.decreases),
  (
    search rules,
    (
      (record {
        natives = c.requires.before.natives;
        somewhere = c.requires.before.somewhere;
        plain = c.requires.before.plain;
        lowering = c.in_ok-port.ensures.walk.goes.keeps;
      }),
      (
        search rules,
        (
          (c.in_ok-port.ensures.walk.fits),
          (
            search rules,
            (
              search rules,
              (room_for_one (reads_in c.args.row c.args.args) c.begin_operator.new.state.plan
                  (room_left 1 (reads_in c.args.row c.args.args) c.args.state.now.plan c.begin_operator.new.state.plan c.requires.before.lowering.plan
                  (room_by_count c.args.row c.args.args c.unnamed_of-count.result 1 c.args.state.now.plan c.begin_operator.new.state.plan c.unnamed_of-count.ensures.count c.in_ok-port.ensures.room))),
            ),
          ),
        ),
      ),
    ),
  ),
)

pub operators::operator_on-returns-in-Some : goal.operators::operator_on-returns-in-Some
operators::operator_on-returns-in-Some g t0 c =
    receiver_given (Knows g.N.Natives.titles g.N.Natives.answer c.args.walker.now) c.args.place c.args.row c.args.args c.args.state.now c.in-Some.receiver c.take_receiver.new.self c.operator_on_received.new.state c.operator_on_received.result c.in-Some.ensures c.operator_on_received.ensures

pub operators::operator_on-returns-in-None : goal.operators::operator_on-returns-in-None
operators::operator_on-returns-in-None g t0 c =
    receiver_none (Knows g.N.Natives.titles g.N.Natives.answer c.args.walker.now) c.args.place c.args.row c.args.args c.args.state.now c.in-None.ensures c.requires.before.lowering

pub operators::operator_on-operator_on_received-requires : goal.operators::operator_on-operator_on_received-requires
operators::operator_on-operator_on_received-requires g t0 c κs within =
    let all = receiver_deep c.in-Some.receiver c.args.args c.take_receiver.new.self c.in-Some.ensures in
    (omega (arith, all, c.decreases), (search rules, (search rules, ((receiver_reads c.args.state.now.plan c.in-Some.receiver c.args.args c.take_receiver.new.self c.in-Some.ensures c.requires.reads.reads), ((c.in-Some.ensures.left), search rules)))))

pub operators::operator_on_received-returns-in_err-operator : goal.operators::operator_on_received-returns-in_err-operator
operators::operator_on_received-returns-in_err-operator g t0 c =
    let e = c.in_err-operator.field-0.0 in
    let err : c.from_residual.result ≡ Err e = search rules in
    rw err
    (one_refused (Knows g.N.Natives.titles g.N.Natives.answer c.args.walker.now) c.args.place c.args.row c.args.receiver c.args.args c.unnamed_of.result c.args.state.now c.requires.before.lowering c.unnamed_of.ensures.are e c.in_err-operator.ensures)

pub operators::operator_on_received-returns-in-Set : goal.operators::operator_on_received-returns-in-Set
operators::operator_on_received-returns-in-Set g t0 c =
    one_goes (Knows g.N.Natives.titles g.N.Natives.answer c.args.walker.now) c.args.place c.args.row c.args.receiver c.args.args c.unnamed_of.result c.args.state.now c.requires.before.lowering c.unnamed_of.ensures.are c.in_ok-operator.operator Set c.set_received.new.state
    c.set_received.result c.in_ok-operator.ensures c.in-Set.is c.set_received.ensures

pub operators::operator_on_received-returns-in_default : goal.operators::operator_on_received-returns-in_default
operators::operator_on_received-returns-in_default g t0 c =
    one_goes (Knows g.N.Natives.titles g.N.Natives.answer c.args.walker.now) c.args.place c.args.row c.args.receiver c.args.args c.unnamed_of.result c.args.state.now c.requires.before.lowering c.unnamed_of.ensures.are c.in_ok-operator.operator c.in_ok-operator.operator
    c.applied_to_received.new.state c.applied_to_received.result c.in_ok-operator.ensures refl c.applied_to_received.ensures

pub operators::operator_on_received-set_received-requires : goal.operators::operator_on_received-set_received-requires
operators::operator_on_received-set_received-requires g t0 c κs within =
    (omega (arith, c.decreases), (search rules, (search rules, (search rules, (search rules, (record { name = c.requires.listed.name; listed = c.requires.listed.listed; operator = c.in_ok-operator.ensures.operator ∙ ap Bag c.in-Set.is }))))))

pub operators::operator_on_received-applied_to_received-requires : goal.operators::operator_on_received-applied_to_received-requires
operators::operator_on_received-applied_to_received-requires g t0 c κs within =
    (omega (arith, c.decreases), (search rules, (search rules, (search rules, (search rules, ((record { name = c.requires.listed.name; listed = c.requires.listed.listed; operator = c.in_ok-operator.ensures.operator }), ((is_other c.in_ok-operator.operator c.in_default.not-Set), search rules)))))))

pub operators::operator_on_thing-returns-in_err-operator : goal.operators::operator_on_thing-returns-in_err-operator
operators::operator_on_thing-returns-in_err-operator g t0 c =
    let e = c.in_err-operator.field-0.0 in
    let err : c.from_residual.result ≡ Err e = search rules in
    rw err
    (thing_refused (Knows g.N.Natives.titles g.N.Natives.answer c.args.walker.now) c.args.place c.args.row c.args.args c.args.thing c.unnamed_of.result c.args.state.now c.requires.before.lowering c.unnamed_of.ensures.are e c.in_err-operator.ensures)

pub operators::operator_on_thing-returns-in-Set : goal.operators::operator_on_thing-returns-in-Set
operators::operator_on_thing-returns-in-Set g t0 c =
    thing_set (Knows g.N.Natives.titles g.N.Natives.answer c.args.walker.now) c.args.place c.args.row c.args.args c.args.thing c.unnamed_of.result c.args.state.now c.requires.before.lowering c.unnamed_of.ensures.are c.in_ok-operator.operator c.set_thing.new.state c.set_thing.result
    c.in_ok-operator.ensures c.in-Set.is c.set_thing.ensures

pub operators::operator_on_thing-returns-in_default : goal.operators::operator_on_thing-returns-in_default
operators::operator_on_thing-returns-in_default g t0 c =
    thing_other (Knows g.N.Natives.titles g.N.Natives.answer c.args.walker.now) c.args.place c.args.row c.args.args c.args.thing c.unnamed_of.result c.args.state.now c.requires.before.lowering c.unnamed_of.ensures.are c.in_ok-operator.operator c.applied_to_thing.new.state
    c.applied_to_thing.result c.in_ok-operator.ensures (is_other c.in_ok-operator.operator c.in_default.not-Set) c.applied_to_thing.ensures

pub operators::operator_on_thing-set_thing-requires : goal.operators::operator_on_thing-set_thing-requires
operators::operator_on_thing-set_thing-requires g t0 c κs within =
    (omega (arith, c.decreases), (search rules, (search rules, (search rules, (search rules, (record { name = c.requires.listed.name; listed = c.requires.listed.listed; operator = c.in_ok-operator.ensures.operator ∙ ap Bag c.in-Set.is }))))))

pub operators::operator_on_thing-applied_to_thing-requires : goal.operators::operator_on_thing-applied_to_thing-requires
operators::operator_on_thing-applied_to_thing-requires g t0 c κs within =
    (omega (arith, c.decreases), (search rules, (search rules, (search rules, (search rules, ((record { name = c.requires.listed.name; listed = c.requires.listed.listed; operator = c.in_ok-operator.ensures.operator }), search rules))))))

pub operators::set_received-returns-in_err-thing : goal.operators::set_received-returns-in_err-thing
operators::set_received-returns-in_err-thing g t0 c =
    let e = c.in_err-thing.field-0.0 in
    let err : c.from_residual.result ≡ Err e = search rules in
    rw err
    (named_fails (Knows g.N.Natives.titles g.N.Natives.answer c.args.walker.now) c.args.place c.args.row c.args.receiver c.args.args c.requires.alone c.args.state.now c.requires.before.lowering c.requires.reads c.thing_arg.new.state e c.in_err-thing.ensures)

pub operators::set_received-returns : goal.operators::set_received-returns
operators::set_received-returns g t0 c =
    named_given (Knows g.N.Natives.titles g.N.Natives.answer c.args.walker.now) c.args.place c.args.row c.args.receiver c.args.args c.requires.alone c.args.state.now c.requires.before.lowering c.requires.reads c.thing_arg.new.state c.set_thing.new.state c.in_ok-thing.thing c.place-begin.result
    c.set_thing.result c.place-begin.ensures c.in_ok-thing.ensures c.set_thing.ensures

pub operators::with_channel-apply_taken-requires-clause-before : goal.operators::with_channel-apply_taken-requires-clause-before
operators::with_channel-apply_taken-requires-clause-before g t0 c =
    record {
      natives = c.requires.before.natives;
      somewhere = c.requires.before.somewhere;
      plain = c.requires.before.plain;
      lowering = c.in_ok-taken.ensures.walk.goes.keeps;
    }

pub operators::with_channel-apply_taken-requires-clause-reads : goal.operators::with_channel-apply_taken-requires-clause-reads
operators::with_channel-apply_taken-requires-clause-reads g t0 c =
    c.in_ok-taken.ensures.walk.later.reads (read c.args.port) c.requires.port

pub operators::with_channel-apply_taken-requires-clause-fits : goal.operators::with_channel-apply_taken-requires-clause-fits
operators::with_channel-apply_taken-requires-clause-fits g t0 c =
    c.in_ok-taken.ensures.walk.fits

pub operators::with_channel-apply_taken-requires-clause-count : goal.operators::with_channel-apply_taken-requires-clause-count
operators::with_channel-apply_taken-requires-clause-count g t0 c =
    inputs_taken c.args.row c.args.operator c.args.args c.in_ok-taken.taken c.in_ok-taken.ensures.ports (c.inputs_fit.ensures c.args.row c.args.operator _ c.requires.row c.requires.takes)

pub operators::with_channel-apply_taken-requires-clause-room : goal.operators::with_channel-apply_taken-requires-clause-room
operators::with_channel-apply_taken-requires-clause-room g t0 c =
    room_taken c.args.row c.args.args c.in_ok-taken.taken c.in_ok-taken.ensures.ports c.args.state.now c.take_args.new.state c.requires.room c.in_ok-taken.ensures.walk.goes

pub operators::with_channel-returns-in_err-taken : goal.operators::with_channel-returns-in_err-taken
operators::with_channel-returns-in_err-taken g t0 c =
    let e = c.in_err-taken.field-0.0 in
    let err : c.from_residual.result ≡ Err e = search rules in
    rw err
    (fed_fails (Knows g.N.Natives.titles g.N.Natives.answer c.args.walker.now) c.args.place c.args.row c.args.operator c.args.args c.args.port c.args.state.now c.take_args.new.state c.requires.before.lowering c.requires.port 1 (reads_in c.args.row c.args.args) e c.in_err-taken.ensures.walk)

pub operators::with_channel-returns : goal.operators::with_channel-returns
operators::with_channel-returns g t0 c =
    fed_as (Knows g.N.Natives.titles g.N.Natives.answer c.args.walker.now) c.args.place c.args.row c.args.operator c.args.args c.args.port c.args.state.now c.take_args.new.state c.requires.before.lowering c.requires.port c.apply_taken.new.state c.in_ok-taken.taken c.apply_taken.result
    c.in_ok-taken.ensures.ports c.in_ok-taken.ensures.walk c.apply_taken.ensures

pub pipes::head-returns-in-List : goal.pipes::head-returns-in-List
pipes::head-returns-in-List g t0 c =
    let P = is_name c.last.result ≡ false in
    let other : is_name c.last.result ≡ false = one_of P c.in-List.is (λ h. ap is_name h.2) (λ r. one_of P r (λ h. ap is_name h.3) (λ r. one_of P r (λ h. ap is_name h.3) (λ r. one_of P r (λ h. ap is_name h.3) (λ r. one_of P r (λ h. ap is_name h.2) (λ r. one_of P r (λ h. ap is_name h.3) (λ r. one_of P r (λ h. ap is_name h.4) (λ h. ap is_name h))))))) in
    head_of_thing (Knows g.N.Natives.titles g.N.Natives.answer c.args.walker.now) (tree_of c.args.front) c.args.state.now c.thing.new.state c.thing.result c.last.result c.last.ensures other c.thing.ensures

pub pipes::name_head-returns-then-is_called_alone : goal.pipes::name_head-returns-then-is_called_alone
pipes::name_head-returns-then-is_called_alone g t0 c =
    let K = Knows g.N.Natives.titles g.N.Natives.answer c.args.walker.now in
    let P : List ℕ → Type 0 = λ m. Here K c.args.state.now (λ q. c.is_called_alone.result ≡ is_called_alone q m) in
    let alone = subst P c.as_str.ensures c.is_called_alone.ensures in
    head_called K (tree_of c.args.front) c.args.place c.args.name.now c.args.state.now c.named_call.new.state c.named_call.result c.requires.name c.is_called_alone.result alone c.of.result c.if-is_called_alone.true
    c.of.ensures.are c.named_call.ensures

pub pipes::name_head-returns : goal.pipes::name_head-returns
pipes::name_head-returns g t0 c =
    let K = Knows g.N.Natives.titles g.N.Natives.answer c.args.walker.now in
    let P : List ℕ → Type 0 = λ m. Here K c.args.state.now (λ q. c.is_called_alone.result ≡ is_called_alone q m) in
    let alone = subst P c.as_str.ensures c.is_called_alone.ensures in
    head_named K (tree_of c.args.front) c.args.place c.args.name.now c.args.state.now c.thing.new.state c.thing.result c.requires.name c.is_called_alone.result alone c.if-is_called_alone.false c.thing.ensures

pub pipes::name_head-named_call-requires : goal.pipes::name_head-named_call-requires
pipes::name_head-named_call-requires g t0 c κs within =
    let args = of_deep c.of.result c.of.ensures.alone [] c.of.ensures.are in
    (omega (arith, args, c.decreases), search rules)

pub pipes::named-returns-in-Name : goal.pipes::named-returns-in-Name
pipes::named-returns-in-Name g t0 c =
    let P : Tree → Type 0 = λ t. Walked (Knows g.N.Natives.titles g.N.Natives.answer c.args.walker.now) (of_args c.args.args a_thing (part_of t).named) c.args.state.now c.named_call.new.state c.named_call.result in
    subst P (sym c.in-Name.ensures) c.named_call.ensures

pub pipes::named-returns-in-List : goal.pipes::named-returns-in-List
pipes::named-returns-in-List g t0 c =
    let P = is_name c.last.result ≡ false in
    let other : is_name c.last.result ≡ false = one_of P c.in-List.is (λ h. ap is_name h.2) (λ r. one_of P r (λ h. ap is_name h.3) (λ r. one_of P r (λ h. ap is_name h.3) (λ r. one_of P r (λ h. ap is_name h.3) (λ r. one_of P r (λ h. ap is_name h.2) (λ r. one_of P r (λ h. ap is_name h.3) (λ r. one_of P r (λ h. ap is_name h.4) (λ h. ap is_name h))))))) in
    named_refused (Knows g.N.Natives.titles g.N.Natives.answer c.args.walker.now) c.args.args (tree_of c.args.front) c.args.state.now c.bad_option.result c.last.result c.begin.result c.last.ensures other c.requires.before.lowering c.begin.ensures c.bad_option.ensures

pub pipes::pipe-returns-in_err-before : goal.pipes::pipe-returns-in_err-before
pipes::pipe-returns-in_err-before g t0 c =
    let K = Knows g.N.Natives.titles g.N.Natives.answer c.args.walker.now in
    let e = c.in_err-before.field-0.0 in
    let err : c.from_residual.result ≡ Err e = search rules in
    rw err (pipe_fails_head K (tree_of c.args.front) (view c.args.expr.now) c.begin-place.result c.begin-place.ensures c.args.state.now c.head.new.state e c.requires.lowering c.in_err-before.ensures)

pub pipes::pipe-returns-in_err-thing : goal.pipes::pipe-returns-in_err-thing
pipes::pipe-returns-in_err-thing g t0 c =
    let K = Knows g.N.Natives.titles g.N.Natives.answer c.args.walker.now in
    let e = c.in_err-thing.field-0.0 in
    let t = tree_of c.args.front in
    let f = view c.args.expr.now in
    let err : c.from_residual-in_err-thing.result ≡ Err e = search rules in
    rw err (pipe_fails_flowing K t f c.begin-place.result c.begin-place.ensures c.args.state.now c.head.new.state c.in_ok-before.before
    (pipe_headed K t f c.begin-place.result c.begin-place.ensures c.args.state.now c.head.new.state c.in_ok-before.before c.requires.lowering c.in_ok-before.ensures)
    c.flowing.new.state e c.in_err-thing.ensures)

pub pipes::pipe-returns : goal.pipes::pipe-returns
pipes::pipe-returns g t0 c =
    let K = Knows g.N.Natives.titles g.N.Natives.answer c.args.walker.now in
    let t = tree_of c.args.front in
    let f = view c.args.expr.now in
    pipe_ends K t f c.begin-place.result c.begin-place.ensures c.args.state.now c.head.new.state c.in_ok-before.before
    (pipe_headed K t f c.begin-place.result c.begin-place.ensures c.args.state.now c.head.new.state c.in_ok-before.before c.requires.lowering c.in_ok-before.ensures)
    c.flowing.new.state c.piped.new.state (record { place = c.begin-place.result; thing = c.in_ok-thing.thing }) c.piped.result refl c.in_ok-thing.ensures c.piped.ensures

pub pipes::pipe-flowing-requires-clause-before : goal.pipes::pipe-flowing-requires-clause-before
pipes::pipe-flowing-requires-clause-before g t0 c =
    can_go_on g.N.Natives.titles g.N.Natives.answer g.N.Natives.keeps c.args.walker.now c.args.state.now c.head.new.state c.requires c.in_ok-before.ensures.goes

pub pipes::pipe-piped-requires : goal.pipes::pipe-piped-requires
pipes::pipe-piped-requires g t0 c κs within = (
  omega (arith, c.decreases),
  (
    search rules,
    (
      (can_go_on g.N.Natives.titles g.N.Natives.answer g.N.Natives.keeps c.args.walker.now c.args.state.now c.flowing.new.state c.requires
          (goes_on c.args.state.now c.head.new.state c.flowing.new.state c.in_ok-before.ensures.goes c.in_ok-thing.ensures.goes)),
      search rules,
    ),
  ),
)

pub pipes::piped-returns-in-Call : goal.pipes::piped-returns-in-Call
pipes::piped-returns-in-Call g t0 c =
    let K = Knows g.N.Natives.titles g.N.Natives.answer c.args.walker.now in
    first_before K c.args.before c.after.result (args_in c.in-Call.args.now) (part_of (tree_of c.in-Call.callee)).named c.args.state.now c.named.new.state c.named.result c.requires.keeps.lowering
    (λ bags y is. c.after.ensures.are bags (y ∷ []) (args_in c.in-Call.args.now) (y, refl, is) (c.of.ensures.are bags))
    (part_of (tree_of c.args.front)).piped (λ y. ap (λ t. (part_of t).piped y) c.in-Call.ensures) c.named.ensures

pub pipes::piped-returns-in-With : goal.pipes::piped-returns-in-With
pipes::piped-returns-in-With g t0 c =
    let P : Tree → Type 0 = λ t. Walked (Knows g.N.Natives.titles g.N.Natives.answer c.args.walker.now) (of_before c.args.before a_thing (part_of t).piped) c.args.state.now c.piped_closed.new.state c.piped_closed.result in
    subst P (sym c.in-With.ensures) c.piped_closed.ensures

pub pipes::piped-returns-in-Name : goal.pipes::piped-returns-in-Name
pipes::piped-returns-in-Name g t0 c =
    let P = has_args c.last.result ≡ false in
    let other : has_args c.last.result ≡ false = one_of P c.in-Name.is (λ h. ap has_args h.2) (λ r. one_of P r (λ h. ap has_args h.2) (λ r. one_of P r (λ h. ap has_args h.3) (λ r. one_of P r (λ h. ap has_args h.3) (λ r. one_of P r (λ h. ap has_args h.3) (λ r. one_of P r (λ h. ap has_args h.4) (λ h. ap has_args h)))))) in
    let K = Knows g.N.Natives.titles g.N.Natives.answer c.args.walker.now in
    first_before K c.args.before c.after-in-Name.result [] (part_of (tree_of c.args.front)).named c.args.state.now c.named-in-Name.new.state c.named-in-Name.result c.requires.keeps.lowering
    (λ bags y is. c.after-in-Name.ensures.are bags (y ∷ []) [] (y, refl, is) (c.of-in-Name.ensures.are bags))
    (part_of (tree_of c.args.front)).piped (λ y. is_named_alone (tree_of c.args.front) c.last.result c.last.ensures other y) c.named-in-Name.ensures

pub pipes::piped-named-requires : goal.pipes::piped-named-requires
pipes::piped-named-requires g t0 c κs within =
    let is : tree_of c.args.front ≡ tree.call c.in-Call.field-1 (tree_of c.in-Call.callee) (trees (map view_arg c.in-Call.args.now)) = c.in-Call.ensures in
    let deep : depth (tree_of c.args.front) ≡ suc (max (depth (tree_of c.in-Call.callee)) (depth (trees (map view_arg c.in-Call.args.now)))) = ap depth is in
    let args = of_deep c.of.result c.of.ensures.alone c.in-Call.args.now c.of.ensures.are in
    let same : depth_of (written_args c.of.result) ≡ depth_of (written_args c.after.result) = ap depth_of (written_after c.of.result c.after.result c.args.before c.of.ensures.alone c.after.ensures.before c.after.ensures.are) in
    (omega (arith, deep, args, same, c.decreases), (search rules, (search rules, (args_after c.args.state.now.plan c.of.result c.after.result c.args.before c.after.ensures.before c.after.ensures.options c.of.ensures.whole c.requires.reads))))

pub pipes::piped-named-requires-in-Name : goal.pipes::piped-named-requires-in-Name
pipes::piped-named-requires-in-Name g t0 c κs within =
    let args = of_deep c.of-in-Name.result c.of-in-Name.ensures.alone [] c.of-in-Name.ensures.are in
    let same : depth_of (written_args c.of-in-Name.result) ≡ depth_of (written_args c.after-in-Name.result) = ap depth_of (written_after c.of-in-Name.result c.after-in-Name.result c.args.before c.of-in-Name.ensures.alone c.after-in-Name.ensures.before c.after-in-Name.ensures.are) in
    (omega (arith, args, same, c.decreases), (search rules, (search rules, (args_after c.args.state.now.plan c.of-in-Name.result c.after-in-Name.result c.args.before c.after-in-Name.ensures.before c.after-in-Name.ensures.options c.of-in-Name.ensures.whole c.requires.reads))))

pub pipes::piped-piped_closed-requires : goal.pipes::piped-piped_closed-requires
pipes::piped-piped_closed-requires g t0 c κs within =
    let is : tree_of c.args.front ≡ tree.call_with (tree_of c.in-With.callee) (view_closure c.in-With.closure.now) = c.in-With.ensures in
    let deep : depth (tree_of c.args.front) ≡ suc (depth (tree_of c.in-With.callee)) = ap depth is in
    (omega (arith, deep, c.decreases), search rules)

pub pipes::piped_closed-returns-in-Call : goal.pipes::piped_closed-returns-in-Call
pipes::piped_closed-returns-in-Call g t0 c =
    let K = Knows g.N.Natives.titles g.N.Natives.answer c.args.walker.now in
    let xs = args_in c.in-Call.args.now ++ closure_arg c.args.closure.now ∷ [] in
    first_before K c.args.before c.after-args.result xs (part_of (tree_of c.in-Call.callee)).named c.args.state.now c.named.new.state c.named.result c.requires.keeps.lowering
    (λ bags y is. c.after-args.ensures.are bags (y ∷ []) xs (y, refl, is) (c.with_closure.ensures.are bags))
    (λ y. (part_of (tree_of c.args.front)).piped_closed y (closure_arg c.args.closure.now ∷ []))
    (λ y. ap (λ t. (part_of t).piped_closed y (closure_arg c.args.closure.now ∷ [])) c.in-Call.ensures) c.named.ensures

pub pipes::piped_closed-returns-in-Name : goal.pipes::piped_closed-returns-in-Name
pipes::piped_closed-returns-in-Name g t0 c =
    let P = is_call c.last.result ≡ false in
    let other : is_call c.last.result ≡ false = one_of P c.in-Name.is (λ h. ap is_call h.2) (λ r. one_of P r (λ h. ap is_call h.2) (λ r. one_of P r (λ h. ap is_call h.3) (λ r. one_of P r (λ h. ap is_call h.3) (λ r. one_of P r (λ h. ap is_call h.2) (λ r. one_of P r (λ h. ap is_call h.3) (λ r. one_of P r (λ h. ap is_call h.4) (λ h. ap is_call h))))))) in
    let K = Knows g.N.Natives.titles g.N.Natives.answer c.args.walker.now in
    let xs = closure_arg c.args.closure.now ∷ [] in
    first_before K c.args.before c.after-args-in-Name.result xs (part_of (tree_of c.args.front)).named c.args.state.now c.named-in-Name.new.state c.named-in-Name.result c.requires.keeps.lowering
    (λ bags y is. c.after-args-in-Name.ensures.are bags (y ∷ []) xs (y, refl, is) (c.with_closure-in-Name.ensures.are bags))
    (λ y. (part_of (tree_of c.args.front)).piped_closed y xs) (λ y. is_named (tree_of c.args.front) c.last.result c.last.ensures other y xs) c.named-in-Name.ensures

pub pipes::piped_closed-named-requires : goal.pipes::piped_closed-named-requires
pipes::piped_closed-named-requires g t0 c κs within =
    let is : tree_of c.args.front ≡ tree.call c.in-Call.field-1 (tree_of c.in-Call.callee) (trees (map view_arg c.in-Call.args.now)) = c.in-Call.ensures in
    let deep : depth (tree_of c.args.front) ≡ suc (max (depth (tree_of c.in-Call.callee)) (depth (trees (map view_arg c.in-Call.args.now)))) = ap depth is in
    let args = with_deep c.with_closure.result c.with_closure.ensures.alone c.in-Call.args.now c.args.closure.now c.with_closure.ensures.are in
    let same : depth_of (written_args c.with_closure.result) ≡ depth_of (written_args c.after-args.result) = ap depth_of (written_after c.with_closure.result c.after-args.result c.args.before c.with_closure.ensures.alone c.after-args.ensures.before c.after-args.ensures.are) in
    (omega (arith, deep, args, same, c.decreases), (search rules, (search rules, (args_after c.args.state.now.plan c.with_closure.result c.after-args.result c.args.before c.after-args.ensures.before c.after-args.ensures.options c.with_closure.ensures.whole c.requires.reads))))

pub pipes::piped_closed-named-requires-in-Name : goal.pipes::piped_closed-named-requires-in-Name
pipes::piped_closed-named-requires-in-Name g t0 c κs within =
    let args = with_deep c.with_closure-in-Name.result c.with_closure-in-Name.ensures.alone [] c.args.closure.now c.with_closure-in-Name.ensures.are in
    let same : depth_of (written_args c.with_closure-in-Name.result) ≡ depth_of (written_args c.after-args-in-Name.result) = ap depth_of (written_after c.with_closure-in-Name.result c.after-args-in-Name.result c.args.before c.with_closure-in-Name.ensures.alone c.after-args-in-Name.ensures.before c.after-args-in-Name.ensures.are) in
    (omega (arith, args, same, c.decreases), (search rules, (search rules, (args_after c.args.state.now.plan c.with_closure-in-Name.result c.after-args-in-Name.result c.args.before c.after-args-in-Name.ensures.before c.after-args-in-Name.ensures.options c.with_closure-in-Name.ensures.whole c.requires.reads))))

pub sets::set_all-name_outputs-requires-clause-before : goal.sets::set_all-name_outputs-requires-clause-before
sets::set_all-name_outputs-requires-clause-before g t0 c =
    record {
      natives = c.requires.before.natives;
      somewhere = c.requires.before.somewhere;
      plain = c.requires.before.plain;
      lowering = c.in_ok-taken.ensures.walk.goes.keeps;
    }

pub sets::set_all-returns-in_err-count_each : goal.sets::set_all-returns-in_err-count_each
sets::set_all-returns-in_err-count_each g t0 c =
    let e = c.in_err-count_each.field-0.0 in
    let err : c.from_residual.result ≡ Err e = search rules in
    let n : c.len.result ≡ length c.args.outputs.items = search rules in
    let P : ℕ → Type 0 = λ m. Walked (Knows g.N.Natives.titles g.N.Natives.answer c.args.walker.now) (of_count m (counted_all c.args.place)) c.args.state.now c.count_each.new.state (Err e) in
    rw err
    (count_fails (Knows g.N.Natives.titles g.N.Natives.answer c.args.walker.now) c.args.place c.args.place c.args.row c.args.args c.requires.alone c.args.outputs c.args.state.now c.count_each.new.state c.requires.before.lowering c.requires.outputs e (subst P n c.in_err-count_each.ensures.walk))

pub sets::set_all-returns-in_err-taken : goal.sets::set_all-returns-in_err-taken
sets::set_all-returns-in_err-taken g t0 c =
    let e = c.in_err-taken.field-0.0 in
    let err : c.from_residual-in_err-taken.result ≡ Err e = search rules in
    let n : c.len.result ≡ length c.args.outputs.items = search rules in
    let P : ℕ → Type 0 = λ m. Walked (Knows g.N.Natives.titles g.N.Natives.answer c.args.walker.now) (of_count m (counted_all c.args.place)) c.args.state.now c.count_each.new.state (Ok c.in_ok-count_each.field-0) in
    rw err
    (all_take_fails (Knows g.N.Natives.titles g.N.Natives.answer c.args.walker.now) c.args.place c.args.place c.args.row c.args.args c.requires.alone c.args.outputs c.args.state.now c.count_each.new.state c.requires.before.lowering c.requires.outputs c.in_ok-count_each.field-0
    (subst P n c.in_ok-count_each.ensures.walk) c.take_args.new.state e c.in_err-taken.ensures.walk)

pub sets::set_all-name_outputs-requires-clause-reads : goal.sets::set_all-name_outputs-requires-clause-reads
sets::set_all-name_outputs-requires-clause-reads g t0 c =
    let same : c.as_slice.result.now ≡ c.args.outputs.items = search rules in
    let P : List CallOutput → Type 0 = λ os. OutputsRead c.take_args.new.state.plan (map output_of os) in
    let all = results (map output_of c.args.outputs.items) in
    subst P (sym same) (c.in_ok-taken.ensures.walk.later.reads all (c.in_ok-count_each.ensures.walk.later.reads all c.requires.outputs))

pub sets::set_all-name_outputs-requires-clause-room : goal.sets::set_all-name_outputs-requires-clause-room
sets::set_all-name_outputs-requires-clause-room g t0 c =
    let same : c.as_slice.result.now ≡ c.args.outputs.items = search rules in
    let n : c.len.result ≡ length c.args.outputs.items = search rules in
    let k = length c.args.outputs.items in
    let P : List CallOutput → Type 0 = λ os. HasRoomFor (length os) (length os) c.take_args.new.state.plan in
    let Q : ℕ → Type 0 = λ m. LeavesRoom m m c.args.state.now.plan c.count_each.new.state.plan in
    subst P (sym same)
    (room_left k k c.args.state.now.plan c.take_args.new.state.plan c.requires.before.lowering.plan
    (leaves_on k k c.args.state.now.plan c.count_each.new.state.plan c.take_args.new.state.plan (subst Q n c.in_ok-count_each.ensures.room) (goes_keeps c.count_each.new.state c.take_args.new.state c.in_ok-taken.ensures.walk.goes)))

pub sets::set_all-returns : goal.sets::set_all-returns
sets::set_all-returns g t0 c =
    let same : c.as_slice.result.now ≡ c.args.outputs.items = search rules in
    let n : c.len.result ≡ length c.args.outputs.items = search rules in
    let P : ℕ → Type 0 = λ m. Walked (Knows g.N.Natives.titles g.N.Natives.answer c.args.walker.now) (of_count m (counted_all c.args.place)) c.args.state.now c.count_each.new.state (Ok c.in_ok-count_each.field-0) in
    let Q : ℕ → Type 0 = λ m. LeavesRoom m m c.args.state.now.plan c.count_each.new.state.plan in
    let R : List CallOutput → Type 0 =
    λ os. Used (Knows g.N.Natives.titles g.N.Natives.answer c.args.walker.now) (length os) (length os) (of_named_outputs c.args.place os c.in_ok-taken.taken) c.take_args.new.state c.name_outputs.new.state c.name_outputs.result
    in
    all_given (Knows g.N.Natives.titles g.N.Natives.answer c.args.walker.now) c.args.place c.args.place c.args.row c.args.args c.requires.alone c.args.outputs c.args.state.now c.count_each.new.state c.requires.before.lowering c.requires.outputs c.in_ok-count_each.field-0
    (subst P n c.in_ok-count_each.ensures.walk) c.take_args.new.state c.name_outputs.new.state c.in_ok-taken.taken c.name_outputs.result (λ xs. c.set_takes_a_name.ensures c.args.row Set xs (set_has_name c.args.row c.requires.row))
    (subst Q n c.in_ok-count_each.ensures.room) c.in_ok-taken.ensures.walk (subst R same c.name_outputs.ensures)

pub sets::set_all-take_args-requires : goal.sets::set_all-take_args-requires
sets::set_all-take_args-requires g t0 c κs within = (
  omega (arith, c.decreases),
  (
    search rules,
    (
      (record {
        natives = c.requires.before.natives;
        somewhere = c.requires.before.somewhere;
        plain = c.requires.before.plain;
        lowering = c.in_ok-count_each.ensures.walk.goes.keeps;
      }),
      (search rules, search rules),
    ),
  ),
)

pub sets::set_one-name_channel-requires-clause-before : goal.sets::set_one-name_channel-requires-clause-before
sets::set_one-name_channel-requires-clause-before g t0 c =
    record {
      natives = c.requires.before.natives;
      somewhere = c.requires.before.somewhere;
      plain = c.requires.before.plain;
      lowering = c.in_ok-taken.ensures.walk.goes.keeps;
    }

pub sets::set_one-name_channel-requires-clause-reads : goal.sets::set_one-name_channel-requires-clause-reads
sets::set_one-name_channel-requires-clause-reads g t0 c =
    c.in_ok-taken.ensures.walk.later.reads (read c.in_ok-port.port) c.in_ok-port.ensures.walk.fits

pub sets::set_one-name_channel-requires-clause-room : goal.sets::set_one-name_channel-requires-clause-room
sets::set_one-name_channel-requires-clause-room g t0 c =
    room_for_one 1 c.take_args.new.state.plan
    (room_left 1 1 c.args.state.now.plan c.take_args.new.state.plan c.requires.before.lowering.plan
    (leaves_on 1 1 c.args.state.now.plan c.begin_set.new.state.plan c.take_args.new.state.plan c.in_ok-port.ensures.room (goes_keeps c.begin_set.new.state c.take_args.new.state c.in_ok-taken.ensures.walk.goes)))

pub sets::set_one-returns-in_err-port : goal.sets::set_one-returns-in_err-port
sets::set_one-returns-in_err-port g t0 c =
    let e = c.in_err-port.field-0.0 in
    let err : c.from_residual.result ≡ Err e = search rules in
    rw err
    (start_fails (Knows g.N.Natives.titles g.N.Natives.answer c.args.walker.now) c.args.place c.args.begin c.args.row c.args.args c.requires.alone c.args.thing c.requires.one c.args.state.now c.begin_set.new.state c.requires.before.lowering e c.in_err-port.ensures.walk)

pub sets::set_one-returns-in_err-taken : goal.sets::set_one-returns-in_err-taken
sets::set_one-returns-in_err-taken g t0 c =
    let e = c.in_err-taken.field-0.0 in
    let err : c.from_residual-in_err-taken.result ≡ Err e = search rules in
    rw err
    (take_fails (Knows g.N.Natives.titles g.N.Natives.answer c.args.walker.now) c.args.place c.args.begin c.args.row c.args.args c.requires.alone c.args.thing c.requires.one c.args.state.now c.begin_set.new.state c.requires.before.lowering c.in_ok-port.port c.in_ok-port.ensures.walk
    c.take_args.new.state e c.in_err-taken.ensures.walk)

pub sets::set_one-returns : goal.sets::set_one-returns
sets::set_one-returns g t0 c =
    set_given (Knows g.N.Natives.titles g.N.Natives.answer c.args.walker.now) c.args.place c.args.begin c.args.row c.args.args c.requires.alone c.args.thing c.requires.one c.args.state.now c.begin_set.new.state c.requires.before.lowering c.in_ok-port.port c.in_ok-port.ensures.walk
    c.take_args.new.state c.name_channel.new.state c.in_ok-taken.taken c.name_channel.result (λ xs. c.set_takes_a_name.ensures c.args.row Set xs (set_has_name c.args.row c.requires.row)) c.in_ok-port.ensures.room c.in_ok-taken.ensures.walk
    c.name_channel.ensures

pub sets::set_one-take_args-requires : goal.sets::set_one-take_args-requires
sets::set_one-take_args-requires g t0 c κs within = (
  omega (arith, c.decreases),
  (
    search rules,
    (
      (record {
        natives = c.requires.before.natives;
        somewhere = c.requires.before.somewhere;
        plain = c.requires.before.plain;
        lowering = c.in_ok-port.ensures.walk.goes.keeps;
      }),
      (search rules, search rules),
    ),
  ),
)

pub sets::set_thing-returns-in-Outputs : goal.sets::set_thing-returns-in-Outputs
sets::set_thing-returns-in-Outputs g t0 c =
    all_anywhere (Knows g.N.Natives.titles g.N.Natives.answer c.args.walker.now) c.args.place c.args.begin c.args.row c.args.args c.in-Outputs.outputs c.args.thing c.args.state.now c.set_all.new.state c.set_all.result c.in-Outputs.is c.set_all.ensures

pub sources::alone_items-returns-in_err-given-clause-walk : goal.sources::alone_items-returns-in_err-given-clause-walk
sources::alone_items-returns-in_err-given-clause-walk g t0 c =
    let e = c.in_err-given.field-0.0 in
    let err : c.from_residual.result ≡ Err e = search rules in
    rw err
    (all_fail (Knows g.N.Natives.titles g.N.Natives.answer c.args.walker.now) c.args.args placed meaning.only_values (channel_items source.Value) (λ vs. gives (record { is_value = true; bag = map (λ v. v.1) vs })) c.args.state.now c.only_values.new.state c.requires.before.lowering e
    c.in_err-given.ensures.walk)

pub sources::alone_items-returns-in_err-values_in-clause-walk : goal.sources::alone_items-returns-in_err-values_in-clause-walk
sources::alone_items-returns-in_err-values_in-clause-walk g t0 c =
    let err : c.from_residual-in_err-values_in.result ≡ Err Mem = search rules in
    rw err
    (lost_later (Knows g.N.Natives.titles g.N.Natives.answer c.args.walker.now) (of_args c.args.args (channel_items source.Value) (meaning.source meaning.of_value)) c.args.state.now c.only_values.new.state c.in_ok-given.ensures.walk.later)

pub sources::alone_items-returns-clause-walk : goal.sources::alone_items-returns-clause-walk
sources::alone_items-returns-clause-walk g t0 c =
    all_then (Knows g.N.Natives.titles g.N.Natives.answer c.args.walker.now) c.args.args placed meaning.only_values (channel_items source.Value) (λ vs. gives (record { is_value = true; bag = map (λ v. v.1) vs })) c.args.state.now c.only_values.new.state c.requires.before.lowering
    c.only_values.new.state c.in_ok-given.given (Ok c.in_ok-values_in.field-0) c.in_ok-given.ensures.walk
    (alone_from (Knows g.N.Natives.titles g.N.Natives.answer c.args.walker.now) c.in_ok-given.given c.in_ok-values_in.field-0 c.only_values.new.state c.in_ok-given.ensures.walk.goes.keeps c.in_ok-values_in.ensures)

pub sources::alone_items-returns-clause-count : goal.sources::alone_items-returns-clause-count
sources::alone_items-returns-clause-count g t0 c =
    ap (λ (vs : List Value). length vs) c.in_ok-values_in.ensures ∙ length-map c.in_ok-given.given.items (λ v. v.1) ∙ c.in_ok-given.ensures.count

pub sources::file_call-returns-then-unnamed-ne1 : goal.sources::file_call-returns-then-unnamed-ne1
sources::file_call-returns-then-unnamed-ne1 g t0 c =
    let other : (c.unnamed.result == 1) ≡ false = search rules in
    file_refused (Knows g.N.Natives.titles g.N.Natives.answer c.args.walker.now) c.args.place c.args.args c.unnamed.result c.unnamed.ensures c.args.state.now c.requires.before.lowering other

pub sources::file_call-returns-in_err-given : goal.sources::file_call-returns-in_err-given
sources::file_call-returns-in_err-given g t0 c =
    let e = c.in_err-given.field-0.0 in
    let err : c.from_residual.result ≡ Err e = search rules in
    let one : (c.unnamed.result == 1) ≡ true = search rules in
    rw err
    (file_given (Knows g.N.Natives.titles g.N.Natives.answer c.args.walker.now) c.args.place c.args.args c.unnamed.result c.unnamed.ensures c.args.state.now c.path_args.new.state (Err e) one
    (all_fail (Knows g.N.Natives.titles g.N.Natives.answer c.args.walker.now) c.args.args a_path (λ xs. meaning.path_args (fits_kind kind.File) xs meaning.no_path) a_thing (with_files false (λ x fs. known_value (meaning.first_file x.path fs))) c.args.state.now c.path_args.new.state
    c.requires.before.lowering e c.in_err-given.ensures))

pub sources::file_call-returns : goal.sources::file_call-returns
sources::file_call-returns g t0 c =
    let one : (c.unnamed.result == 1) ≡ true = search rules in
    file_given (Knows g.N.Natives.titles g.N.Natives.answer c.args.walker.now) c.args.place c.args.args c.unnamed.result c.unnamed.ensures c.args.state.now c.found_file.new.state c.found_file.result one
    (all_then (Knows g.N.Natives.titles g.N.Natives.answer c.args.walker.now) c.args.args a_path (λ xs. meaning.path_args (fits_kind kind.File) xs meaning.no_path) a_thing (with_files false (λ x fs. known_value (meaning.first_file x.path fs))) c.args.state.now c.path_args.new.state
    c.requires.before.lowering c.found_file.new.state c.in_ok-given.given c.found_file.result c.in_ok-given.ensures c.found_file.ensures)

pub sources::from_pairs-returns-in_err-given : goal.sources::from_pairs-returns-in_err-given
sources::from_pairs-returns-in_err-given g t0 c =
    let e = c.in_err-given.field-0.0 in
    let err : c.from_residual.result ≡ Err e = search rules in
    rw err
    (all_fail (Knows g.N.Natives.titles g.N.Natives.answer c.args.walker.now) c.args.args a_path (λ xs. meaning.path_args (fits_kind kind.Pairs) xs meaning.no_path) (channel_items source.FromFilePairs) (with_files true (λ x fs. queue (paths.pairs_of (chars x.path) fs))) c.args.state.now c.path_args.new.state
    c.requires.before.lowering e c.in_err-given.ensures)

pub sources::from_pairs-returns : goal.sources::from_pairs-returns
sources::from_pairs-returns g t0 c =
    all_then (Knows g.N.Natives.titles g.N.Natives.answer c.args.walker.now) c.args.args a_path (λ xs. meaning.path_args (fits_kind kind.Pairs) xs meaning.no_path) (channel_items source.FromFilePairs) (with_files true (λ x fs. queue (paths.pairs_of (chars x.path) fs))) c.args.state.now c.path_args.new.state
    c.requires.before.lowering c.found_pairs.new.state c.in_ok-given.given c.found_pairs.result c.in_ok-given.ensures c.found_pairs.ensures

pub sources::from_path-returns-in_err-given : goal.sources::from_path-returns-in_err-given
sources::from_path-returns-in_err-given g t0 c =
    let e = c.in_err-given.field-0.0 in
    let err : c.from_residual.result ≡ Err e = search rules in
    rw err
    (all_fail (Knows g.N.Natives.titles g.N.Natives.answer c.args.walker.now) c.args.args a_path (λ xs. meaning.path_args (fits_kind kind.Files) xs meaning.no_path) (channel_items source.FromPath) (with_files false (λ x fs. queue (map file_plain fs))) c.args.state.now c.path_args.new.state
    c.requires.before.lowering e c.in_err-given.ensures)

pub sources::from_path-returns : goal.sources::from_path-returns
sources::from_path-returns g t0 c =
    all_then (Knows g.N.Natives.titles g.N.Natives.answer c.args.walker.now) c.args.args a_path (λ xs. meaning.path_args (fits_kind kind.Files) xs meaning.no_path) (channel_items source.FromPath) (with_files false (λ x fs. queue (map file_plain fs))) c.args.state.now c.path_args.new.state
    c.requires.before.lowering c.found_files.new.state c.in_ok-given.given c.found_files.result c.in_ok-given.ensures c.found_files.ensures

pub sources::item_arg-returns-in-Written : goal.sources::item_arg-returns-in-Written
sources::item_arg-returns-in-Written g t0 c =
    written_step (Knows g.N.Natives.titles g.N.Natives.answer c.args.walker.now) values c.args.arg c.in-Written.written c.args.items (and_more (λ x. one_item_arg x.label x)) c.args.state.now c.written_item.new.state c.written_item.result c.in-Written.is c.written_item.ensures

pub sources::item_arg-returns-in-Before : goal.sources::item_arg-returns-in-Before
sources::item_arg-returns-in-Before g t0 c =
    never_before c.args.arg c.in-Before.before c.in-Before.is c.requires.written

pub sources::item_arg-written_item-requires : goal.sources::item_arg-written_item-requires
sources::item_arg-written_item-requires g t0 c κs within =
    let deep : depth_of (written_in c.args.arg) ≡ max (depth (written_arg c.in-Written.written).tree) 0 = ap (λ (x : One). depth_of (written_in x)) c.in-Written.is in
    (omega (arith, deep, c.decreases), search rules)

pub sources::item_args-loop-arg-init : goal.sources::item_args-loop-arg-init
sources::item_args-loop-arg-init g t0 c =
    let none : c.new-items.result.items ≡ [] = search rules in
    record {
      deep = omega arith;
      alone = c.requires.alone;
      leads = row_begins (Knows g.N.Natives.titles g.N.Natives.answer c.args.walker.now) values all_items (λ x. one_item_arg x.label x) (λ y ys a s. refl) (λ a s. refl) c.args.args c.args.state.now c.new-items.result (λ p. ap (map plain_of) none) c.requires.before.lowering;
    }

pub sources::item_args-loop-arg-smaller : goal.sources::item_args-loop-arg-smaller
sources::item_args-loop-arg-smaller g t0 c =
    c.in-Some.ensures.fewer

pub sources::item_args-loop-arg-preserved : goal.sources::item_args-loop-arg-preserved
sources::item_args-loop-arg-preserved g t0 c =
    record {
      deep = omega (arith, first_deep c.in-Some.arg c.loop-arg.args c.take_first.new.self c.in-Some.ensures, c.loop-arg.invariant.deep);
      alone = c.in-Some.ensures.left;
      leads =
          row_goes (Knows g.N.Natives.titles g.N.Natives.answer c.args.walker.now) values all_items (λ x. one_item_arg x.label x) (λ y ys a s. refl) (λ a s. refl) c.args.args c.args.state.now c.loop-arg.state c.in-Some.arg c.loop-arg.args c.take_first.new.self c.loop-arg.items c.in-Some.ensures
          c.loop-arg.invariant.leads c.item_arg.new.state c.in_ok-items.items c.in_ok-items.ensures;
    }

pub sources::item_args-returns-in_err-items : goal.sources::item_args-returns-in_err-items
sources::item_args-returns-in_err-items g t0 c =
    let e = c.in_err-items.field-0.0 in
    let err : c.from_residual.result ≡ Err e = search rules in
    rw err
    (row_fails (Knows g.N.Natives.titles g.N.Natives.answer c.args.walker.now) values all_items (λ x. one_item_arg x.label x) (λ y ys a s. refl) (λ a s. refl) c.args.args c.args.state.now c.loop-arg.state c.in-Some.arg c.loop-arg.args c.take_first.new.self c.loop-arg.items c.in-Some.ensures
    c.loop-arg.invariant.leads c.item_arg.new.state e c.in_err-items.ensures)

pub sources::item_args-returns : goal.sources::item_args-returns
sources::item_args-returns g t0 c =
    row_ends (Knows g.N.Natives.titles g.N.Natives.answer c.args.walker.now) values all_items (λ x. one_item_arg x.label x) (λ y ys a s. refl) (λ a s. refl) c.args.args c.args.state.now c.loop-arg.state c.loop-arg.args c.loop-arg.items c.in_default.ensures tt c.loop-arg.invariant.leads

pub sources::item_args-item_arg-requires : goal.sources::item_args-item_arg-requires
sources::item_args-item_arg-requires g t0 c κs within =
    let first = first_deep c.in-Some.arg c.loop-arg.args c.take_first.new.self c.in-Some.ensures in (
      omega (arith, first, c.loop-arg.invariant.deep, c.decreases),
      (
        search rules,
        (
          (record {
            natives = c.requires.before.natives;
            somewhere = c.requires.before.somewhere;
            plain = c.requires.before.plain;
            lowering = c.loop-arg.invariant.leads.goes.keeps;
          }),
          (sym c.in-Some.ensures.was ∙ c.loop-arg.invariant.alone),
        ),
      ),
    )

pub sources::list_items-returns-in_err-given : goal.sources::list_items-returns-in_err-given
sources::list_items-returns-in_err-given g t0 c =
    let e = c.in_err-given.field-0.0 in
    let err : c.from_residual.result ≡ Err e = search rules in
    rw err
    (all_fail (Knows g.N.Natives.titles g.N.Natives.answer c.args.walker.now) c.args.args placed meaning.only_values values meaning.list_items c.args.state.now c.only_values.new.state c.requires.before.lowering e c.in_err-given.ensures.walk)

pub sources::list_items-returns : goal.sources::list_items-returns
sources::list_items-returns g t0 c =
    all_then (Knows g.N.Natives.titles g.N.Natives.answer c.args.walker.now) c.args.args placed meaning.only_values values meaning.list_items c.args.state.now c.only_values.new.state c.requires.before.lowering c.only_values.new.state c.in_ok-given.given c.items_in.result
    c.in_ok-given.ensures.walk (items_from (Knows g.N.Natives.titles g.N.Natives.answer c.args.walker.now) c.in_ok-given.given (λ vs. meaning.list_items vs) c.only_values.new.state c.items_in.result c.in_ok-given.ensures.walk.goes.keeps c.items_in.ensures)

pub sources::no_items-returns-in_err-only_values : goal.sources::no_items-returns-in_err-only_values
sources::no_items-returns-in_err-only_values g t0 c =
    let e = c.in_err-only_values.field-0.0 in
    let err : c.from_residual.result ≡ Err e = search rules in
    rw err
    (all_fail (Knows g.N.Natives.titles g.N.Natives.answer c.args.walker.now) c.args.args placed meaning.only_values (channel_items source.Empty) (λ vs. gives (queue [])) c.args.state.now c.only_values.new.state c.requires.before.lowering e c.in_err-only_values.ensures.walk)

pub sources::no_items-returns : goal.sources::no_items-returns
sources::no_items-returns g t0 c =
    all_then (Knows g.N.Natives.titles g.N.Natives.answer c.args.walker.now) c.args.args placed meaning.only_values (channel_items source.Empty) (λ vs. gives (queue [])) c.args.state.now c.only_values.new.state c.requires.before.lowering c.only_values.new.state c.in_ok-only_values.field-0
    (Ok c.new.result) c.in_ok-only_values.ensures.walk (none_from (Knows g.N.Natives.titles g.N.Natives.answer c.args.walker.now) c.in_ok-only_values.field-0 c.new.result c.only_values.new.state c.in_ok-only_values.ensures.walk.goes.keeps (search rules))

pub sources::only_value-returns-in-Some-clause-walk : goal.sources::only_value-returns-in-Some-clause-walk
sources::only_value-returns-in-Some-clause-walk g t0 c =
    rw c.bad_option.ensures
    (option_refused (Knows g.N.Natives.titles g.N.Natives.answer c.args.walker.now) placed c.args.arg c.args.given.values (λ l. and_more (one_value l)) _ c.args.state.now c.requires.before.lowering
    (λ bags y h. sym (c.label.ensures bags y h) ∙ ap (option_map plain_label) c.in-Some.is) (λ y b a s. refl))

pub sources::only_value-returns-in-None-clause-walk : goal.sources::only_value-returns-in-None-clause-walk
sources::only_value-returns-in-None-clause-walk g t0 c =
    plain_step (Knows g.N.Natives.titles g.N.Natives.answer c.args.walker.now) placed c.args.arg c.args.given.values (λ l. and_more (one_value l)) c.args.state.now c.placed_value.new.state c.placed_value.result
    (λ bags y h. sym (c.label.ensures bags y h) ∙ ap (option_map plain_label) c.in-None.is) c.placed_value.ensures.walk

pub sources::only_value-returns-in-None-clause-count : goal.sources::only_value-returns-in-None-clause-count
sources::only_value-returns-in-None-clause-count g t0 c =
    pairs_on c.args.arg (length c.args.given.values.items) c.placed_value.result c.requires.written (λ bags y h. sym (c.label.ensures bags y h) ∙ ap (option_map plain_label) c.in-None.is) c.placed_value.ensures.count

pub sources::only_values-loop-arg-init : goal.sources::only_values-loop-arg-init
sources::only_values-loop-arg-init g t0 c =
    let none : c.new-given.result.items ≡ [] = search rules in
    let empty = ap (λ (vs : List (Place × Value)). length vs) none in
    record {
      deep = omega arith;
      alone = c.requires.alone;
      count = omega (arith, empty);
      leads = row_begins (Knows g.N.Natives.titles g.N.Natives.answer c.args.walker.now) placed all_values (λ x. one_value x.label x) (λ y ys a s. refl) (λ a s. refl) c.args.args c.args.state.now c.new-given.result (λ p. ap (map plain_pair) none) c.requires.before.lowering;
    }

pub sources::only_values-loop-arg-smaller : goal.sources::only_values-loop-arg-smaller
sources::only_values-loop-arg-smaller g t0 c =
    c.in-Some.ensures.fewer

pub sources::only_values-loop-arg-preserved : goal.sources::only_values-loop-arg-preserved
sources::only_values-loop-arg-preserved g t0 c =
    record {
      deep = omega (arith, first_deep c.in-Some.arg c.loop-arg.args c.take_first.new.self c.in-Some.ensures, c.loop-arg.invariant.deep);
      alone = c.in-Some.ensures.left;
      count =
          pairs_go c.in-Some.arg c.loop-arg.args c.take_first.new.self (length c.in_ok-given.given.items) (length c.loop-arg.given.items) (unnamed (written_args c.args.args)) c.in-Some.ensures c.in_ok-given.ensures.count
          c.loop-arg.invariant.count;
      leads =
          row_goes (Knows g.N.Natives.titles g.N.Natives.answer c.args.walker.now) placed all_values (λ x. one_value x.label x) (λ y ys a s. refl) (λ a s. refl) c.args.args c.args.state.now c.loop-arg.state c.in-Some.arg c.loop-arg.args c.take_first.new.self c.loop-arg.given c.in-Some.ensures
          c.loop-arg.invariant.leads c.only_value.new.state c.in_ok-given.given c.in_ok-given.ensures.walk;
    }

pub sources::only_values-returns-in_err-given-clause-walk : goal.sources::only_values-returns-in_err-given-clause-walk
sources::only_values-returns-in_err-given-clause-walk g t0 c =
    let e = c.in_err-given.field-0.0 in
    let err : c.from_residual.result ≡ Err e = search rules in
    rw err
    (row_fails (Knows g.N.Natives.titles g.N.Natives.answer c.args.walker.now) placed all_values (λ x. one_value x.label x) (λ y ys a s. refl) (λ a s. refl) c.args.args c.args.state.now c.loop-arg.state c.in-Some.arg c.loop-arg.args c.take_first.new.self c.loop-arg.given c.in-Some.ensures
    c.loop-arg.invariant.leads c.only_value.new.state e c.in_err-given.ensures.walk)

pub sources::only_values-returns-clause-walk : goal.sources::only_values-returns-clause-walk
sources::only_values-returns-clause-walk g t0 c =
    row_ends (Knows g.N.Natives.titles g.N.Natives.answer c.args.walker.now) placed all_values (λ x. one_value x.label x) (λ y ys a s. refl) (λ a s. refl) c.args.args c.args.state.now c.loop-arg.state c.loop-arg.args c.loop-arg.given c.in_default.ensures tt c.loop-arg.invariant.leads

pub sources::only_values-returns-clause-count : goal.sources::only_values-returns-clause-count
sources::only_values-returns-clause-count g t0 c =
    let none = none_unnamed c.loop-arg.args c.loop-arg.invariant.alone c.in_default.ensures in omega (arith, none, c.loop-arg.invariant.count)

pub sources::only_values-only_value-requires : goal.sources::only_values-only_value-requires
sources::only_values-only_value-requires g t0 c κs within =
    let first = first_deep c.in-Some.arg c.loop-arg.args c.take_first.new.self c.in-Some.ensures in (
      omega (arith, first, c.loop-arg.invariant.deep, c.decreases),
      (
        search rules,
        (
          (record {
            natives = c.requires.before.natives;
            somewhere = c.requires.before.somewhere;
            plain = c.requires.before.plain;
            lowering = c.loop-arg.invariant.leads.goes.keeps;
          }),
          (sym c.in-Some.ensures.was ∙ c.loop-arg.invariant.alone),
        ),
      ),
    )

pub sources::path_arg-path_named-requires-clause-label : goal.sources::path_arg-path_named-requires-clause-label
sources::path_arg-path_named-requires-clause-label g t0 c bags y h =
    sym (c.label.ensures bags y h) ∙ ap (option_map plain_label) c.in-Some.is

pub sources::path_arg-returns-in-Some : goal.sources::path_arg-returns-in-Some
sources::path_arg-returns-in-Some g t0 c =
    named_step (Knows g.N.Natives.titles g.N.Natives.answer c.args.walker.now) a_path c.args.arg c.args.given (λ l x so_far. meaning.path_arg (fits_kind c.args.kind) l x so_far) _ c.args.state.now c.args.state.now c.path_named.result
    (λ bags y h. sym (c.label.ensures bags y h) ∙ ap (option_map plain_label) c.in-Some.is) c.path_named.ensures

pub sources::path_arg-returns-in-None : goal.sources::path_arg-returns-in-None
sources::path_arg-returns-in-None g t0 c =
    plain_step (Knows g.N.Natives.titles g.N.Natives.answer c.args.walker.now) a_path c.args.arg c.args.given (λ l x so_far. meaning.path_arg (fits_kind c.args.kind) l x so_far) c.args.state.now c.plain_path.new.state c.plain_path.result
    (λ bags y h. sym (c.label.ensures bags y h) ∙ ap (option_map plain_label) c.in-None.is) c.plain_path.ensures

pub sources::path_args-loop-arg-init : goal.sources::path_args-loop-arg-init
sources::path_args-loop-arg-init g t0 c =
    record {
      deep = omega arith;
      reads = c.requires.reads;
      leads = paths_begin (Knows g.N.Natives.titles g.N.Natives.answer c.args.walker.now) c.args.kind c.args.args c.args.state.now c.nothing-given.result c.nothing-given.ensures c.requires.before.lowering;
    }

pub sources::path_args-loop-arg-smaller : goal.sources::path_args-loop-arg-smaller
sources::path_args-loop-arg-smaller g t0 c =
    c.in-Some.ensures.fewer

pub sources::path_args-loop-arg-preserved : goal.sources::path_args-loop-arg-preserved
sources::path_args-loop-arg-preserved g t0 c =
    record {
      deep = omega (arith, first_deep c.in-Some.arg c.loop-arg.args c.take_first.new.self c.in-Some.ensures, c.loop-arg.invariant.deep);
      reads = rest_reads c.path_arg.new.state.plan c.in-Some.arg c.loop-arg.args c.take_first.new.self c.in-Some.ensures;
      leads =
          paths_go (Knows g.N.Natives.titles g.N.Natives.answer c.args.walker.now) c.args.kind c.args.args c.args.state.now c.loop-arg.state c.in-Some.arg c.loop-arg.args c.take_first.new.self c.loop-arg.given c.in-Some.ensures c.loop-arg.invariant.leads c.path_arg.new.state
          c.in_ok-given.given c.in_ok-given.ensures;
    }

pub sources::path_args-returns-in_err-given : goal.sources::path_args-returns-in_err-given
sources::path_args-returns-in_err-given g t0 c =
    let e = c.in_err-given.field-0.0 in
    let err : c.from_residual.result ≡ Err e = search rules in
    rw err
    (paths_fail (Knows g.N.Natives.titles g.N.Natives.answer c.args.walker.now) c.args.kind c.args.args c.args.state.now c.loop-arg.state c.in-Some.arg c.loop-arg.args c.take_first.new.self c.loop-arg.given c.in-Some.ensures c.loop-arg.invariant.leads c.path_arg.new.state e c.in_err-given.ensures)

pub sources::path_args-returns : goal.sources::path_args-returns
sources::path_args-returns g t0 c =
    paths_end (Knows g.N.Natives.titles g.N.Natives.answer c.args.walker.now) c.args.kind c.args.args c.args.state.now c.loop-arg.state c.loop-arg.args c.loop-arg.given c.in_default.ensures c.loop-arg.invariant.leads

pub sources::path_args-path_arg-requires : goal.sources::path_args-path_arg-requires
sources::path_args-path_arg-requires g t0 c κs within =
    let first = first_deep c.in-Some.arg c.loop-arg.args c.take_first.new.self c.in-Some.ensures in (
      omega (arith, first, c.loop-arg.invariant.deep, c.decreases),
      (
        search rules,
        (
          (record {
            natives = c.requires.before.natives;
            somewhere = c.requires.before.somewhere;
            plain = c.requires.before.plain;
            lowering = c.loop-arg.invariant.leads.goes.keeps;
          }),
          (first_reads c.loop-arg.state.plan c.in-Some.arg c.loop-arg.args c.take_first.new.self c.in-Some.ensures c.loop-arg.invariant.reads),
        ),
      ),
    )

pub sources::placed_value-returns-in_err-value-clause-walk : goal.sources::placed_value-returns-in_err-value-clause-walk
sources::placed_value-returns-in_err-value-clause-walk g t0 c =
    let e = c.in_err-value.field-0.0 in
    let err : c.from_residual.result ≡ Err e = search rules in
    rw err (pair_fails (Knows g.N.Natives.titles g.N.Natives.answer c.args.walker.now) c.args.arg c.args.given.values c.args.state.now c.value_arg.new.state c.requires.before.lowering e c.in_err-value.ensures)

pub sources::placed_value-returns-in_err-push-clause-walk : goal.sources::placed_value-returns-in_err-push-clause-walk
sources::placed_value-returns-in_err-push-clause-walk g t0 c =
    let err : c.from_residual-in_err-push.result ≡ Err Mem = search rules in
    rw err
    (lost_later (Knows g.N.Natives.titles g.N.Natives.answer c.args.walker.now) (of_step c.args.arg c.args.given.values placed (and_more (only_value None))) c.args.state.now c.value_arg.new.state c.in_ok-value.ensures.later)

pub sources::placed_value-returns-clause-walk : goal.sources::placed_value-returns-clause-walk
sources::placed_value-returns-clause-walk g t0 c =
    pair_given (Knows g.N.Natives.titles g.N.Natives.answer c.args.walker.now) c.args.arg c.args.given.values c.args.state.now c.value_arg.new.state c.requires.before.lowering c.place-place.result c.in_ok-value.value c.push.new.self c.place-place.ensures c.in_ok-value.ensures (search rules)

pub sources::placed_value-value_arg-requires : goal.sources::placed_value-value_arg-requires
sources::placed_value-value_arg-requires g t0 c κs within =
    (omega (arith, c.decreases), (search rules, (search rules, (one_reads c.args.state.now.plan c.args.arg c.requires.written))))

pub sources::plain_path-returns-in_err-value : goal.sources::plain_path-returns-in_err-value
sources::plain_path-returns-in_err-value g t0 c =
    let e = c.in_err-value.field-0.0 in
    let err : c.from_residual.result ≡ Err e = search rules in
    rw err (path_fails (Knows g.N.Natives.titles g.N.Natives.answer c.args.walker.now) c.args.kind c.args.arg c.args.given c.args.state.now c.value_arg.new.state c.requires.before.lowering e c.in_err-value.ensures)

pub sources::plain_path-returns : goal.sources::plain_path-returns
sources::plain_path-returns g t0 c =
    path_given (Knows g.N.Natives.titles g.N.Natives.answer c.args.walker.now) c.args.kind c.args.arg c.args.given c.args.state.now c.value_arg.new.state c.requires.before.lowering c.place-place.result c.in_ok-value.value c.with_path.result c.place-place.ensures c.in_ok-value.ensures c.with_path.ensures

pub sources::source_call-returns-in_err-source : goal.sources::source_call-returns-in_err-source
sources::source_call-returns-in_err-source g t0 c =
    let e = c.in_err-source.field-0.0 in
    let err : c.from_residual.result ≡ Err e = search rules in
    let name : c.as_str.result.now ≡ c.args.name.now = search rules in
    rw err
    (source_refused (Knows g.N.Natives.titles g.N.Natives.answer c.args.walker.now) c.args.place c.args.name.now c.args.args c.unnamed.result c.unnamed.ensures c.args.state.now c.requires.before.lowering e
    (refused_so c.args.place c.as_str.result.now c.args.name.now c.unnamed.result e name c.in_err-source.ensures))

pub sources::source_call-give_source-requires-clause-before : goal.sources::source_call-give_source-requires-clause-before
sources::source_call-give_source-requires-clause-before g t0 c =
    record {
      natives = c.requires.before.natives;
      somewhere = c.requires.before.somewhere;
      plain = c.requires.before.plain;
      lowering = c.in_ok-items.ensures.walk.goes.keeps;
    }

pub sources::source_call-give_source-requires-clause-room : goal.sources::source_call-give_source-requires-clause-room
sources::source_call-give_source-requires-clause-room g t0 c =
    room_kept 0 c.count.new.state.plan c.source_items.new.state.plan c.in_ok-count.ensures.room (goes_keeps c.count.new.state c.source_items.new.state c.in_ok-items.ensures.walk.goes)

pub sources::source_call-returns-in_err-count : goal.sources::source_call-returns-in_err-count
sources::source_call-returns-in_err-count g t0 c =
    let e = c.in_err-count.field-0.0 in
    let err : c.from_residual-in_err-count.result ≡ Err e = search rules in
    let name : c.as_str.result.now ≡ c.args.name.now = search rules in
    rw err
    (source_uncounted (Knows g.N.Natives.titles g.N.Natives.answer c.args.walker.now) c.args.place c.args.name.now c.args.args c.unnamed.result c.unnamed.ensures c.args.state.now c.requires.before.lowering c.in_ok-source.source
    (made_so c.args.place c.as_str.result.now c.args.name.now c.unnamed.result c.in_ok-source.source name c.in_ok-source.ensures) c.requires.alone c.count.new.state e c.in_err-count.ensures.walk)

pub sources::source_call-returns-in_err-items : goal.sources::source_call-returns-in_err-items
sources::source_call-returns-in_err-items g t0 c =
    let e = c.in_err-items.field-0.0 in
    let err : c.from_residual-in_err-items.result ≡ Err e = search rules in
    let name : c.as_str.result.now ≡ c.args.name.now = search rules in
    rw err
    (source_items_fail (Knows g.N.Natives.titles g.N.Natives.answer c.args.walker.now) c.args.place c.args.name.now c.args.args c.unnamed.result c.unnamed.ensures c.args.state.now c.requires.before.lowering c.in_ok-source.source
    (made_so c.args.place c.as_str.result.now c.args.name.now c.unnamed.result c.in_ok-source.source name c.in_ok-source.ensures) c.requires.alone c.count.new.state c.in_ok-count.field-0 c.in_ok-count.ensures.walk
    c.source_items.new.state e c.in_err-items.ensures.walk)

pub sources::source_call-returns : goal.sources::source_call-returns
sources::source_call-returns g t0 c =
    let name : c.as_str.result.now ≡ c.args.name.now = search rules in
    source_items_given (Knows g.N.Natives.titles g.N.Natives.answer c.args.walker.now) c.args.place c.args.name.now c.args.args c.unnamed.result c.unnamed.ensures c.args.state.now c.requires.before.lowering c.in_ok-source.source
    (made_so c.args.place c.as_str.result.now c.args.name.now c.unnamed.result c.in_ok-source.source name c.in_ok-source.ensures) c.requires.alone c.count.new.state c.in_ok-count.field-0 c.in_ok-count.ensures.walk
    c.source_items.new.state c.give_source.new.state c.in_ok-items.items c.give_source.result c.in_ok-items.ensures.walk (leaves_counted 0 c.args.state.now.plan c.count.new.state.plan c.in_ok-count.ensures.grows) c.give_source.ensures

pub sources::source_call-source_items-requires : goal.sources::source_call-source_items-requires
sources::source_call-source_items-requires g t0 c κs within = (
  omega (arith, c.decreases),
  (
    search rules,
    (
      (record {
        natives = c.requires.before.natives;
        somewhere = c.requires.before.somewhere;
        plain = c.requires.before.plain;
        lowering = c.in_ok-count.ensures.walk.goes.keeps;
      }),
      (search rules, (takes_so_many c.in_ok-source.source c.args.args c.unnamed.result c.requires.alone c.unnamed.ensures c.in_ok-source.ensures.takes_it)),
    ),
  ),
)

pub sources::source_items-returns-in-Of-clause-walk : goal.sources::source_items-returns-in-Of-clause-walk
sources::source_items-returns-in-Of-clause-walk g t0 c =
    for_source (Knows g.N.Natives.titles g.N.Natives.answer c.args.walker.now) c.args.args source.Of c.args.source c.args.state.now c.item_args.new.state c.item_args.result c.in-Of.is
    (as_channel (Knows g.N.Natives.titles g.N.Natives.answer c.args.walker.now) c.args.args source.Of meaning.item_args c.args.state.now c.item_args.new.state c.item_args.result c.item_args.ensures)

pub sources::source_items-returns-in-Of-clause-single : goal.sources::source_items-returns-in-Of-clause-single
sources::source_items-returns-in-Of-clause-single g t0 c h =
    no_single source.Of c.args.source c.item_args.result c.in-Of.is refl h

pub sources::source_items-returns-in-FromList-clause-walk : goal.sources::source_items-returns-in-FromList-clause-walk
sources::source_items-returns-in-FromList-clause-walk g t0 c =
    for_source (Knows g.N.Natives.titles g.N.Natives.answer c.args.walker.now) c.args.args source.FromList c.args.source c.args.state.now c.list_items.new.state c.list_items.result c.in-FromList.is
    (as_channel (Knows g.N.Natives.titles g.N.Natives.answer c.args.walker.now) c.args.args source.FromList (λ xs. meaning.only_values xs >>= meaning.list_items) c.args.state.now c.list_items.new.state c.list_items.result c.list_items.ensures)

pub sources::source_items-returns-in-FromList-clause-single : goal.sources::source_items-returns-in-FromList-clause-single
sources::source_items-returns-in-FromList-clause-single g t0 c h =
    no_single source.FromList c.args.source c.list_items.result c.in-FromList.is refl h

pub sources::source_items-returns-in-Value-clause-walk : goal.sources::source_items-returns-in-Value-clause-walk
sources::source_items-returns-in-Value-clause-walk g t0 c =
    for_source (Knows g.N.Natives.titles g.N.Natives.answer c.args.walker.now) c.args.args source.Value c.args.source c.args.state.now c.alone_items.new.state c.alone_items.result c.in-Value.is c.alone_items.ensures.walk

pub sources::source_items-returns-in-Empty-clause-walk : goal.sources::source_items-returns-in-Empty-clause-walk
sources::source_items-returns-in-Empty-clause-walk g t0 c =
    for_source (Knows g.N.Natives.titles g.N.Natives.answer c.args.walker.now) c.args.args source.Empty c.args.source c.args.state.now c.no_items.new.state c.no_items.result c.in-Empty.is c.no_items.ensures

pub sources::source_items-returns-in-Empty-clause-single : goal.sources::source_items-returns-in-Empty-clause-single
sources::source_items-returns-in-Empty-clause-single g t0 c h =
    no_single source.Empty c.args.source c.no_items.result c.in-Empty.is refl h

pub sources::source_items-returns-in-FromPath-clause-walk : goal.sources::source_items-returns-in-FromPath-clause-walk
sources::source_items-returns-in-FromPath-clause-walk g t0 c =
    for_source (Knows g.N.Natives.titles g.N.Natives.answer c.args.walker.now) c.args.args source.FromPath c.args.source c.args.state.now c.from_path.new.state c.from_path.result c.in-FromPath.is c.from_path.ensures

pub sources::source_items-returns-in-FromPath-clause-single : goal.sources::source_items-returns-in-FromPath-clause-single
sources::source_items-returns-in-FromPath-clause-single g t0 c h =
    no_single source.FromPath c.args.source c.from_path.result c.in-FromPath.is refl h

pub sources::source_items-returns-in-FromFilePairs-clause-walk : goal.sources::source_items-returns-in-FromFilePairs-clause-walk
sources::source_items-returns-in-FromFilePairs-clause-walk g t0 c =
    for_source (Knows g.N.Natives.titles g.N.Natives.answer c.args.walker.now) c.args.args source.FromFilePairs c.args.source c.args.state.now c.from_pairs.new.state c.from_pairs.result c.in-FromFilePairs.is c.from_pairs.ensures

pub sources::source_items-returns-in-FromFilePairs-clause-single : goal.sources::source_items-returns-in-FromFilePairs-clause-single
sources::source_items-returns-in-FromFilePairs-clause-single g t0 c h =
    no_single source.FromFilePairs c.args.source c.from_pairs.result c.in-FromFilePairs.is refl h

pub sources::source_items-returns-in-Value-clause-single : goal.sources::source_items-returns-in-Value-clause-single
sources::source_items-returns-in-Value-clause-single g t0 c h =
    at_most_one c.args.source c.args.args c.alone_items.result c.in-Value.is c.requires.count c.alone_items.ensures.count

pub sources::unnamed_item-returns-in-Some : goal.sources::unnamed_item-returns-in-Some
sources::unnamed_item-returns-in-Some g t0 c =
    item_range (Knows g.N.Natives.titles g.N.Natives.answer c.args.walker.now) (written_arg c.args.arg) c.args.items c.args.state.now c.args.state.now c.range_items.result c.in-Some.range.now c.in-Some.ensures c.range_items.ensures

pub sources::unnamed_item-returns-in-None : goal.sources::unnamed_item-returns-in-None
sources::unnamed_item-returns-in-None g t0 c =
    item_value (Knows g.N.Natives.titles g.N.Natives.answer c.args.walker.now) (written_arg c.args.arg) c.args.items c.args.state.now c.value_item.new.state c.value_item.result c.in-None.ensures c.value_item.ensures

pub sources::value_item-returns-in_err-value : goal.sources::value_item-returns-in_err-value
sources::value_item-returns-in_err-value g t0 c =
    let e = c.in_err-value.field-0.0 in
    let err : c.from_residual.result ≡ Err e = search rules in
    rw err (item_fails (Knows g.N.Natives.titles g.N.Natives.answer c.args.walker.now) c.args.arg c.args.items c.args.state.now c.value_arg.new.state c.requires.lowering e c.in_err-value.ensures)

pub sources::value_item-returns-in_err-push : goal.sources::value_item-returns-in_err-push
sources::value_item-returns-in_err-push g t0 c =
    let err : c.from_residual-in_err-push.result ≡ Err Mem = search rules in
    rw err
    (lost_later (Knows g.N.Natives.titles g.N.Natives.answer c.args.walker.now) (from values c.args.items values (and_more (items_by false) (written_arg c.args.arg))) c.args.state.now c.value_arg.new.state c.in_ok-value.ensures.later)

pub sources::value_item-returns : goal.sources::value_item-returns
sources::value_item-returns g t0 c =
    item_given (Knows g.N.Natives.titles g.N.Natives.answer c.args.walker.now) c.args.arg c.args.items c.args.state.now c.value_arg.new.state c.requires.lowering c.in_ok-value.value c.push.new.self c.in_ok-value.ensures (search rules)

pub sources::written_item-returns-in-Some : goal.sources::written_item-returns-in-Some
sources::written_item-returns-in-Some g t0 c =
    rw c.bad_option.ensures (item_named (Knows g.N.Natives.titles g.N.Natives.answer c.args.walker.now) (written_arg c.args.arg) c.args.items c.args.state.now _ c.requires.lowering (sym c.label.ensures ∙ ap (option_map plain_label) c.in-Some.is))

pub sources::written_item-returns-in-None : goal.sources::written_item-returns-in-None
sources::written_item-returns-in-None g t0 c =
    item_plain (Knows g.N.Natives.titles g.N.Natives.answer c.args.walker.now) (written_arg c.args.arg) c.args.items c.args.state.now c.unnamed_item.new.state c.unnamed_item.result (sym c.label.ensures ∙ ap (option_map plain_label) c.in-None.is) c.unnamed_item.ensures

pub taking::take_arg-returns-in-Written-clause-walk : goal.taking::take_arg-returns-in-Written-clause-walk
taking::take_arg-returns-in-Written-clause-walk g t0 c =
    written_step (Knows g.N.Natives.titles g.N.Natives.answer c.args.walker.now) (a_taken c.args.operator) c.args.arg c.in-Written.written c.args.taken (λ y t. taken.take_arg c.args.row c.args.operator c.args.is_last y.label y t)
    c.args.state.now c.take_written.new.state c.take_written.result c.in-Written.is c.take_written.ensures.walk

pub taking::take_arg-returns-in-Written-clause-ports : goal.taking::take_arg-returns-in-Written-clause-ports
taking::take_arg-returns-in-Written-clause-ports g t0 c =
    rw (one_written c.args.arg c.in-Written.written c.in-Written.is) c.take_written.ensures.ports

pub taking::take_arg-returns-in-Before : goal.taking::take_arg-returns-in-Before
taking::take_arg-returns-in-Before g t0 c =
    never_before c.args.arg c.in-Before.before c.in-Before.is c.requires.written

pub taking::take_arg-take_written-requires : goal.taking::take_arg-take_written-requires
taking::take_arg-take_written-requires g t0 c κs within =
    let deep : depth_of (written_in c.args.arg) ≡ max (depth (written_arg c.in-Written.written).tree) 0 = ap (λ (x : One). depth_of (written_in x)) c.in-Written.is in
    (omega (arith, deep, c.decreases), search rules)

pub taking::take_args-loop-arg-init : goal.taking::take_args-loop-arg-init
taking::take_args-loop-arg-init g t0 c =
    record {
      deep = omega arith;
      alone = c.requires.alone;
      fits = none_fits c.args.operator c.args.state.now.plan c.nothing-taken.result c.nothing-taken.ensures.ports (c.nothing-taken.ensures.closing c.args.operator);
      ports = (let e = ap (λ (ps : List Port). length ps) c.nothing-taken.ensures.ports in omega (arith, e));
      leads = takes_begin (Knows g.N.Natives.titles g.N.Natives.answer c.args.walker.now) c.args.row c.args.operator c.args.args c.args.state.now c.nothing-taken.result c.nothing-taken.ensures.taken c.requires.before.lowering;
    }

pub taking::take_args-loop-arg-smaller : goal.taking::take_args-loop-arg-smaller
taking::take_args-loop-arg-smaller g t0 c =
    c.in-Some.ensures.fewer

pub taking::take_args-loop-arg-preserved : goal.taking::take_args-loop-arg-preserved
taking::take_args-loop-arg-preserved g t0 c =
    record {
      deep = omega (arith, first_deep c.in-Some.arg c.loop-arg.args c.take_first.new.self c.in-Some.ensures, c.loop-arg.invariant.deep);
      alone = c.in-Some.ensures.left;
      fits = c.in_ok-taken.ensures.walk.fits;
      ports =
          ports_go c.args.row.args (length c.loop-arg.taken.ports.items) (unnamed (written_args c.args.args)) c.in-Some.arg c.loop-arg.args c.take_first.new.self (length c.in_ok-taken.taken.ports.items) c.in-Some.ensures c.in_ok-taken.ensures.ports
          c.loop-arg.invariant.ports;
      leads =
          takes_go (Knows g.N.Natives.titles g.N.Natives.answer c.args.walker.now) c.args.row c.args.operator c.args.args c.args.state.now c.loop-arg.state c.in-Some.arg c.loop-arg.args c.take_first.new.self c.loop-arg.taken (c.unnamed-is_last.result == 0)
          (λ bags ys are. ap (λ n. n == 0) (c.unnamed-is_last.ensures bags ys are)) c.in-Some.ensures c.loop-arg.invariant.leads c.take_arg.new.state c.in_ok-taken.taken c.in_ok-taken.ensures.walk;
    }

pub taking::take_args-returns-in_err-taken-clause-walk : goal.taking::take_args-returns-in_err-taken-clause-walk
taking::take_args-returns-in_err-taken-clause-walk g t0 c =
    let e = c.in_err-taken.field-0.0 in
    let err : c.from_residual.result ≡ Err e = search rules in
    rw err
    (takes_fail (Knows g.N.Natives.titles g.N.Natives.answer c.args.walker.now) c.args.row c.args.operator c.args.args c.args.state.now c.loop-arg.state c.in-Some.arg c.loop-arg.args c.take_first.new.self c.loop-arg.taken (c.unnamed-is_last.result == 0)
    (λ bags ys are. ap (λ n. n == 0) (c.unnamed-is_last.ensures bags ys are)) c.in-Some.ensures c.loop-arg.invariant.leads c.take_arg.new.state e c.in_err-taken.ensures.walk)

pub taking::take_args-returns-clause-walk : goal.taking::take_args-returns-clause-walk
taking::take_args-returns-clause-walk g t0 c =
    takes_end (Knows g.N.Natives.titles g.N.Natives.answer c.args.walker.now) c.args.row c.args.operator c.args.args c.args.state.now c.loop-arg.state c.loop-arg.args c.loop-arg.taken c.in_default.ensures c.loop-arg.invariant.fits c.loop-arg.invariant.leads

pub taking::take_args-returns-clause-ports : goal.taking::take_args-returns-clause-ports
taking::take_args-returns-clause-ports g t0 c =
    ports_end c.args.row.args (length c.loop-arg.taken.ports.items) (unnamed (written_args c.args.args)) c.loop-arg.args (none_unnamed c.loop-arg.args c.loop-arg.invariant.alone c.in_default.ensures) c.loop-arg.invariant.ports

pub taking::take_args-take_arg-requires : goal.taking::take_args-take_arg-requires
taking::take_args-take_arg-requires g t0 c κs within =
    let first = first_deep c.in-Some.arg c.loop-arg.args c.take_first.new.self c.in-Some.ensures in (
      omega (arith, first, c.loop-arg.invariant.deep, c.decreases),
      (
        search rules,
        (
          (record {
            natives = c.requires.before.natives;
            somewhere = c.requires.before.somewhere;
            plain = c.requires.before.plain;
            lowering = c.loop-arg.invariant.leads.goes.keeps;
          }),
          ((c.loop-arg.invariant.fits), (search rules, (sym c.in-Some.ensures.was ∙ c.loop-arg.invariant.alone))),
        ),
      ),
    )

pub taking::take_channel-returns-in_err-port-clause-walk : goal.taking::take_channel-returns-in_err-port-clause-walk
taking::take_channel-returns-in_err-port-clause-walk g t0 c =
    let e = c.in_err-port.field-0.0 in
    let err : c.from_residual.result ≡ Err e = search rules in
    rw err
    (step_fails (Knows g.N.Natives.titles g.N.Natives.answer c.args.walker.now) c.args.operator c.args.taken c.args.arg c.args.state.now c.channel_arg.new.state c.requires.before.lowering c.requires.reads a_port arguments.channel_arg with_channel e
    c.in_err-port.ensures)

pub taking::take_channel-returns-clause-walk : goal.taking::take_channel-returns-clause-walk
taking::take_channel-returns-clause-walk g t0 c =
    port_taken (Knows g.N.Natives.titles g.N.Natives.answer c.args.walker.now) c.args.operator c.args.taken c.args.arg c.args.state.now c.channel_arg.new.state c.requires.before.lowering c.requires.reads c.in_ok-port.port
    c.in_ok-and_port.field-0 c.in_ok-port.ensures c.in_ok-and_port.ensures.ports c.in_ok-and_port.ensures.closing c.in_ok-and_port.ensures.taken

pub taking::take_unnamed-returns-in-Channel-clause-walk : goal.taking::take_unnamed-returns-in-Channel-clause-walk
taking::take_unnamed-returns-in-Channel-clause-walk g t0 c =
    let P : (taken.Taken → Walk taken.Taken) → Type 0 =
    λ u. Walked (Knows g.N.Natives.titles g.N.Natives.answer c.args.walker.now) (from (a_taken c.args.operator) c.args.taken (a_taken c.args.operator) u) c.args.state.now c.take_channel.new.state c.take_channel.result
    in
    subst P (sym c.in-Channel.ensures.walk) c.take_channel.ensures.walk

pub taking::take_unnamed-returns-in-Channel-clause-ports : goal.taking::take_unnamed-returns-in-Channel-clause-ports
taking::take_unnamed-returns-in-Channel-clause-ports g t0 c =
    ports_as_on c.args.row 1 c.args.taken c.take_channel.result c.take_channel.ensures.ports c.in-Channel.ensures.ports

pub taking::take_unnamed-returns-in_err-value-in-Start-clause-walk : goal.taking::take_unnamed-returns-in_err-value-in-Start-clause-walk
taking::take_unnamed-returns-in_err-value-in-Start-clause-walk g t0 c =
    let e = c.in_err-value-in-Start.field-0.0 in
    let err : c.from_residual.result ≡ Err e = search rules in
    let P : (taken.Taken → Walk taken.Taken) → Type 0 =
    λ u. Walked (Knows g.N.Natives.titles g.N.Natives.answer c.args.walker.now) (from (a_taken c.args.operator) c.args.taken (a_taken c.args.operator) u) c.args.state.now c.value_arg.new.state (Err e)
    in
    rw err
    (subst P (sym c.in-Start.ensures.walk)
    (step_fails (Knows g.N.Natives.titles g.N.Natives.answer c.args.walker.now) c.args.operator c.args.taken c.args.arg c.args.state.now c.value_arg.new.state c.requires.before.lowering c.requires.reads a_value arguments.value_arg with_start e
    c.in_err-value-in-Start.ensures))

pub taking::take_unnamed-returns-in_ok-value-in-Start-clause-walk : goal.taking::take_unnamed-returns-in_ok-value-in-Start-clause-walk
taking::take_unnamed-returns-in_ok-value-in-Start-clause-walk g t0 c =
    let P : (taken.Taken → Walk taken.Taken) → Type 0 =
    λ u. Walked (Knows g.N.Natives.titles g.N.Natives.answer c.args.walker.now) (from (a_taken c.args.operator) c.args.taken (a_taken c.args.operator) u) c.args.state.now c.value_arg.new.state (Ok c.and_start.result)
    in
    subst P (sym c.in-Start.ensures.walk)
    (value_taken (Knows g.N.Natives.titles g.N.Natives.answer c.args.walker.now) c.args.operator c.args.taken c.args.arg c.args.state.now c.value_arg.new.state c.requires.before.lowering c.requires.reads with_start c.in_ok-value-in-Start.value
    c.and_start.result c.in_ok-value-in-Start.ensures (c.and_start.ensures.keeps c.args.operator) c.and_start.ensures.taken)

pub taking::take_unnamed-returns-in_ok-value-in-Start-clause-ports : goal.taking::take_unnamed-returns-in_ok-value-in-Start-clause-ports
taking::take_unnamed-returns-in_ok-value-in-Start-clause-ports g t0 c =
    let same = ap (λ (ps : List Port). length ps) (c.and_start.ensures.keeps c.args.operator).ports in
    ports_as c.args.row 0 c.args.taken c.and_start.result (omega (arith, same)) c.in-Start.ensures.ports

pub taking::take_unnamed-returns-in_err-value-in-Literal-clause-walk : goal.taking::take_unnamed-returns-in_err-value-in-Literal-clause-walk
taking::take_unnamed-returns-in_err-value-in-Literal-clause-walk g t0 c =
    let e = c.in_err-value-in-Literal.field-0.0 in
    let err : c.from_residual-in_err-value-in-Literal.result ≡ Err e = search rules in
    let P : (taken.Taken → Walk taken.Taken) → Type 0 =
    λ u. Walked (Knows g.N.Natives.titles g.N.Natives.answer c.args.walker.now) (from (a_taken c.args.operator) c.args.taken (a_taken c.args.operator) u) c.args.state.now c.value_arg-in-Literal.new.state (Err e)
    in
    rw err
    (subst P (sym c.in-Literal.ensures.walk)
    (step_fails (Knows g.N.Natives.titles g.N.Natives.answer c.args.walker.now) c.args.operator c.args.taken c.args.arg c.args.state.now c.value_arg-in-Literal.new.state c.requires.before.lowering c.requires.reads a_value arguments.value_arg
    with_literal e c.in_err-value-in-Literal.ensures))

pub taking::take_unnamed-returns-in_ok-value-in-Literal-clause-walk : goal.taking::take_unnamed-returns-in_ok-value-in-Literal-clause-walk
taking::take_unnamed-returns-in_ok-value-in-Literal-clause-walk g t0 c =
    let P : (taken.Taken → Walk taken.Taken) → Type 0 =
    λ u.
    Walked (Knows g.N.Natives.titles g.N.Natives.answer c.args.walker.now) (from (a_taken c.args.operator) c.args.taken (a_taken c.args.operator) u) c.args.state.now c.value_arg-in-Literal.new.state (Ok c.and_literal.result)
    in
    subst P (sym c.in-Literal.ensures.walk)
    (value_taken (Knows g.N.Natives.titles g.N.Natives.answer c.args.walker.now) c.args.operator c.args.taken c.args.arg c.args.state.now c.value_arg-in-Literal.new.state c.requires.before.lowering c.requires.reads with_literal
    c.in_ok-value-in-Literal.value c.and_literal.result c.in_ok-value-in-Literal.ensures (c.and_literal.ensures.keeps c.args.operator) c.and_literal.ensures.taken)

pub taking::take_unnamed-returns-in_ok-value-in-Literal-clause-ports : goal.taking::take_unnamed-returns-in_ok-value-in-Literal-clause-ports
taking::take_unnamed-returns-in_ok-value-in-Literal-clause-ports g t0 c =
    let same = ap (λ (ps : List Port). length ps) (c.and_literal.ensures.keeps c.args.operator).ports in
    ports_as c.args.row 0 c.args.taken c.and_literal.result (omega (arith, same)) c.in-Literal.ensures.ports

pub taking::take_unnamed-returns-in-Alone-clause-walk : goal.taking::take_unnamed-returns-in-Alone-clause-walk
taking::take_unnamed-returns-in-Alone-clause-walk g t0 c =
    let P : (taken.Taken → Walk taken.Taken) → Type 0 =
    λ u. Walked (Knows g.N.Natives.titles g.N.Natives.answer c.args.walker.now) (from (a_taken c.args.operator) c.args.taken (a_taken c.args.operator) u) c.args.state.now c.args.state.now c.take_alone.result
    in
    subst P (sym c.in-Alone.ensures.walk) (c.take_alone.ensures.walk c.args.operator c.in-Alone.ensures.fits c.requires.reads)

pub taking::take_unnamed-returns-in-Alone-clause-ports : goal.taking::take_unnamed-returns-in-Alone-clause-ports
taking::take_unnamed-returns-in-Alone-clause-ports g t0 c =
    ports_as_on c.args.row 0 c.args.taken c.take_alone.result (same_ports_on c.args.taken c.take_alone.result (c.take_alone.ensures.ports c.args.operator c.in-Alone.ensures.fits)) c.in-Alone.ensures.ports

pub taking::take_written-take_named-requires-clause-label : goal.taking::take_written-take_named-requires-clause-label
taking::take_written-take_named-requires-clause-label g t0 c =
    sym c.label.ensures ∙ ap (option_map plain_label) c.in-Some.is

pub taking::take_written-returns-in-Some-clause-walk : goal.taking::take_written-returns-in-Some-clause-walk
taking::take_written-returns-in-Some-clause-walk g t0 c =
    let label : (written_arg c.args.arg).label ≡ Some (c.in-Some.place, c.in-Some.name.now) = sym c.label.ensures ∙ ap (option_map plain_label) c.in-Some.is in
    let P : Option (Place × List ℕ) → Type 0 =
    λ l.
    Walked (Knows g.N.Natives.titles g.N.Natives.answer c.args.walker.now)
    (from (a_taken c.args.operator) c.args.taken (a_taken c.args.operator) (taken.take_arg c.args.row c.args.operator c.args.is_last l (written_arg c.args.arg))) c.args.state.now c.args.state.now c.take_named.result
    in
    subst P (sym label) (c.take_named.ensures.walk c.args.operator c.requires.reads)

pub taking::take_written-returns-in-Some-clause-ports : goal.taking::take_written-returns-in-Some-clause-ports
taking::take_written-returns-in-Some-clause-ports g t0 c =
    let label : (written_arg c.args.arg).label ≡ Some (c.in-Some.place, c.in-Some.name.now) = sym c.label.ensures ∙ ap (option_map plain_label) c.in-Some.is in
    let P : Option (Place × List ℕ) → Type 0 = λ l. MorePorts c.args.row (is_unnamed l) c.args.taken c.take_named.result in
    subst P (sym label) (none_more c.args.row c.args.taken c.take_named.result c.take_named.ensures.ports)

pub taking::take_written-returns-in-None-clause-walk : goal.taking::take_written-returns-in-None-clause-walk
taking::take_written-returns-in-None-clause-walk g t0 c =
    let label : (written_arg c.args.arg).label ≡ None = sym c.label.ensures ∙ ap (option_map plain_label) c.in-None.is in
    let P : Option (Place × List ℕ) → Type 0 =
    λ l.
    Walked (Knows g.N.Natives.titles g.N.Natives.answer c.args.walker.now)
    (from (a_taken c.args.operator) c.args.taken (a_taken c.args.operator) (taken.take_arg c.args.row c.args.operator c.args.is_last l (written_arg c.args.arg))) c.args.state.now c.take_unnamed.new.state
    c.take_unnamed.result
    in
    subst P (sym label) c.take_unnamed.ensures.walk

pub taking::take_written-returns-in-None-clause-ports : goal.taking::take_written-returns-in-None-clause-ports
taking::take_written-returns-in-None-clause-ports g t0 c =
    let label : (written_arg c.args.arg).label ≡ None = sym c.label.ensures ∙ ap (option_map plain_label) c.in-None.is in
    let P : Option (Place × List ℕ) → Type 0 = λ l. MorePorts c.args.row (is_unnamed l) c.args.taken c.take_unnamed.result in
    subst P (sym label) c.take_unnamed.ensures.ports

pub things::items-loop-expr-init : goal.things::items-loop-expr-init
things::items-loop-expr-init g t0 c =
    items_begin (Knows g.N.Natives.titles g.N.Natives.answer c.args.walker.now) c.args.exprs.now c.args.state.now c.new-items.result (search rules) c.requires.lowering

pub things::items-loop-expr-preserved : goal.things::items-loop-expr-preserved
things::items-loop-expr-preserved g t0 c =
    items_go (Knows g.N.Natives.titles g.N.Natives.answer c.args.walker.now) c.args.exprs.now c.args.state.now c.loop-expr.expr-index c.expr-item.result c.loop-expr.items c.push.new.self c.in_ok-item.item c.loop-expr.state
    c.value_thing.new.state c.loop-expr-test.true c.expr-item.is (search rules) c.loop-expr.invariant c.in_ok-item.ensures

pub things::items-returns-in_err-item : goal.things::items-returns-in_err-item
things::items-returns-in_err-item g t0 c =
    let e = c.in_err-item.field-0.0 in
    let err : c.from_residual.result ≡ Err e = search rules in
    rw err (items_fail (Knows g.N.Natives.titles g.N.Natives.answer c.args.walker.now) c.args.exprs.now c.args.state.now c.loop-expr.expr-index c.expr-item.result c.loop-expr.items c.loop-expr.state c.value_thing.new.state e
    c.loop-expr-test.true c.expr-item.is c.loop-expr.invariant c.in_err-item.ensures)

pub things::items-returns : goal.things::items-returns
things::items-returns g t0 c =
    items_end (Knows g.N.Natives.titles g.N.Natives.answer c.args.walker.now) c.args.exprs.now c.args.state.now c.loop-expr.expr-index c.loop-expr.items c.loop-expr.state c.loop-expr-test.false c.loop-expr.invariant

pub things::items-returns-in_err-push : goal.things::items-returns-in_err-push
things::items-returns-in_err-push g t0 c =
    let xs = c.args.exprs.now in
    let i = c.loop-expr.expr-index in
    let err : c.from_residual-in_err-push.result ≡ Err Mem = search rules in
    rw err (is_lost (Knows g.N.Natives.titles g.N.Natives.answer c.args.walker.now) NoIn (λ y. items_of xs) (AreValues c.loop-expr.items) (λ ys. with_more ys (items_of (drop i xs))) c.args.state.now c.loop-expr.state values c.value_thing.new.state
    c.loop-expr.invariant c.in_ok-item.ensures.later)

pub things::items-value_thing-requires : goal.things::items-value_thing-requires
things::items-value_thing-requires g t0 c κs within =
    let low : depth (view c.expr-item.result) ≤ depth (views c.args.exprs.now) = part_within view c.args.exprs.now c.loop-expr.expr-index c.expr-item.result c.loop-expr-test.true c.expr-item.is in
    (omega (arith, low, c.decreases), search rules)

pub things::leading_thing-returns-in-Name : goal.things::leading_thing-returns-in-Name
things::leading_thing-returns-in-Name g t0 c =
    let is = subst (λ l. IsLast (tree_of c.args.front) l) c.in-Name.is c.requires.last in
    led_to (Knows g.N.Natives.titles g.N.Natives.answer c.args.walker.now) (tree_of c.args.front) _ (name_thing_at c.in-Name.name.now c.in-Name.place) c.args.state.now c.args.state.now c.name_thing.result is refl c.name_thing.ensures

pub things::leading_thing-returns-in-List : goal.things::leading_thing-returns-in-List
things::leading_thing-returns-in-List g t0 c =
    let is = subst (λ l. IsLast (tree_of c.args.front) l) c.in-List.is c.requires.last in
    led_to (Knows g.N.Natives.titles g.N.Natives.answer c.args.walker.now) (tree_of c.args.front) _ (list_at c.in-List.place (views c.in-List.items.now)) c.args.state.now c.list_thing.new.state c.list_thing.result is refl c.list_thing.ensures

pub things::leading_thing-returns-in-Property : goal.things::leading_thing-returns-in-Property
things::leading_thing-returns-in-Property g t0 c =
    let is = subst (λ l. IsLast (tree_of c.args.front) l) c.in-Property.is c.requires.last in
    led_to (Knows g.N.Natives.titles g.N.Natives.answer c.args.walker.now) (tree_of c.args.front) _ ((part_of (tree_of c.in-Property.before)).member c.in-Property.place c.in-Property.name.now) c.args.state.now c.member.new.state c.member.result is refl c.member.ensures

pub things::leading_thing-returns-in-Index : goal.things::leading_thing-returns-in-Index
things::leading_thing-returns-in-Index g t0 c =
    let is = subst (λ l. IsLast (tree_of c.args.front) l) c.in-Index.is c.requires.last in
    led_to (Knows g.N.Natives.titles g.N.Natives.answer c.args.walker.now) (tree_of c.args.front) _ (index_at (tree_of c.in-Index.before) c.in-Index.place (view c.in-Index.index.now)) c.args.state.now c.index_of.new.state c.index_of.result is refl c.index_of.ensures

pub things::leading_thing-returns-in-Call : goal.things::leading_thing-returns-in-Call
things::leading_thing-returns-in-Call g t0 c =
    let is = subst (λ l. IsLast (tree_of c.args.front) l) c.in-Call.is c.requires.last in
    let ys = args_in c.in-Call.args.now in
    let w = (part_of (tree_of c.in-Call.before)).called c.in-Call.place in
    led_to (Knows g.N.Natives.titles g.N.Natives.answer c.args.walker.now) (tree_of c.args.front) _ (w ys) c.args.state.now c.called.new.state c.called.result is refl
    (of_args_here (Knows g.N.Natives.titles g.N.Natives.answer c.args.walker.now) c.of.result ys w c.args.state.now c.called.new.state c.called.result c.of.ensures.are c.called.ensures)

pub things::leading_thing-returns-in-With : goal.things::leading_thing-returns-in-With
things::leading_thing-returns-in-With g t0 c =
    let is = subst (λ l. IsLast (tree_of c.args.front) l) c.in-With.is c.requires.last in
    let x = c.in-With.closure.now in
    let w = (part_of (tree_of c.in-With.before)).closed in
    let place : opening (view_closure x) ≡ x.place = search (rules, closure_lemmas) in
    led_to (Knows g.N.Natives.titles g.N.Natives.answer c.args.walker.now) (tree_of c.args.front) _ (w (opening (view_closure x)) (closure_arg x ∷ [])) c.args.state.now c.closed.new.state c.closed.result is refl
    (as_walk c.closed.ensures (ap (λ p. w p (closure_arg x ∷ [])) (sym place)))

pub things::leading_thing-returns-in-Pipe : goal.things::leading_thing-returns-in-Pipe
things::leading_thing-returns-in-Pipe g t0 c =
    let is = subst (λ l. IsLast (tree_of c.args.front) l) c.in-Pipe.is c.requires.last in
    led_to (Knows g.N.Natives.titles g.N.Natives.answer c.args.walker.now) (tree_of c.args.front) _ (pipe_of (tree_of c.in-Pipe.before) (view c.in-Pipe.expr.now)) c.args.state.now c.pipe.new.state c.pipe.result is refl c.pipe.ensures

pub things::leading_thing-returns-in-Conditional : goal.things::leading_thing-returns-in-Conditional
things::leading_thing-returns-in-Conditional g t0 c =
    let is = subst (λ l. IsLast (tree_of c.args.front) l) c.in-Conditional.is c.requires.last in
    led_to (Knows g.N.Natives.titles g.N.Natives.answer c.args.walker.now) (tree_of c.args.front) _ (turn_of (view c.in-Conditional.condition.now) (tree_of c.in-Conditional.yes) (maybe_tree c.in-Conditional.no)) c.args.state.now c.turn.new.state c.turn.result is refl
    c.turn.ensures

pub things::leading_thing-returns-in-Other : goal.things::leading_thing-returns-in-Other
things::leading_thing-returns-in-Other g t0 c =
    let is = subst (λ l. IsLast (tree_of c.args.front) l) c.in-Other.is c.requires.last in
    led_nowhere (Knows g.N.Natives.titles g.N.Natives.answer c.args.walker.now) (tree_of c.args.front) c.args.state.now c.args.state.now c.known_thing.result is c.known_thing.ensures

pub things::leading_thing-list_thing-requires : goal.things::leading_thing-list_thing-requires
things::leading_thing-list_thing-requires g t0 c κs within =
    let is : tree_of c.args.front ≡ tree.list c.in-List.place (views c.in-List.items.now) = subst (λ l. IsLast (tree_of c.args.front) l) c.in-List.is c.requires.last in
    let deep : depth (tree_of c.args.front) ≡ suc (depth (views c.in-List.items.now)) = ap depth is in
    (omega (arith, deep, c.decreases), search rules)

pub things::leading_thing-member-requires : goal.things::leading_thing-member-requires
things::leading_thing-member-requires g t0 c κs within =
    let is : tree_of c.args.front ≡ tree.property (tree_of c.in-Property.before) (tree.name c.in-Property.place c.in-Property.name.now) = subst (λ l. IsLast (tree_of c.args.front) l) c.in-Property.is c.requires.last in
    let deep : depth (tree_of c.args.front) ≡ suc (depth (tree_of c.in-Property.before)) = ap depth is in
    (omega (arith, deep, c.decreases), search rules)

pub things::leading_thing-index_of-requires : goal.things::leading_thing-index_of-requires
things::leading_thing-index_of-requires g t0 c κs within =
    let is : tree_of c.args.front ≡ tree.index c.in-Index.place (tree_of c.in-Index.before) (view c.in-Index.index.now) = subst (λ l. IsLast (tree_of c.args.front) l) c.in-Index.is c.requires.last in
    let deep : depth (tree_of c.args.front) ≡ suc (depth (tree_of c.in-Index.before)) = ap depth is in
    (omega (arith, deep, c.decreases), search rules)

pub things::leading_thing-called-requires : goal.things::leading_thing-called-requires
things::leading_thing-called-requires g t0 c κs within =
    let is : tree_of c.args.front ≡ tree.call c.in-Call.place (tree_of c.in-Call.before) (trees (map view_arg c.in-Call.args.now)) = subst (λ l. IsLast (tree_of c.args.front) l) c.in-Call.is c.requires.last in
    let deep : depth (tree_of c.args.front) ≡ suc (max (depth (tree_of c.in-Call.before)) (depth (trees (map view_arg c.in-Call.args.now)))) = ap depth is in
    let args = of_deep c.of.result c.of.ensures.alone c.in-Call.args.now c.of.ensures.are in
    (omega (arith, deep, args, c.decreases), search rules)

pub things::leading_thing-closed-requires : goal.things::leading_thing-closed-requires
things::leading_thing-closed-requires g t0 c κs within =
    let is : tree_of c.args.front ≡ tree.call_with (tree_of c.in-With.before) (view_closure c.in-With.closure.now) = subst (λ l. IsLast (tree_of c.args.front) l) c.in-With.is c.requires.last in
    let deep : depth (tree_of c.args.front) ≡ suc (depth (tree_of c.in-With.before)) = ap depth is in
    (omega (arith, deep, c.decreases), search rules)

pub things::leading_thing-pipe-requires : goal.things::leading_thing-pipe-requires
things::leading_thing-pipe-requires g t0 c κs within =
    let is : tree_of c.args.front ≡ tree.binary c.in-Pipe.field-1 infix_operator.Pipe (tree_of c.in-Pipe.before) (view c.in-Pipe.expr.now) = subst (λ l. IsLast (tree_of c.args.front) l) c.in-Pipe.is c.requires.last in
    let deep : depth (tree_of c.args.front) ≡ suc (max (depth (tree_of c.in-Pipe.before)) (depth (view c.in-Pipe.expr.now))) = ap depth is in
    (omega (arith, deep, c.decreases), search rules)

pub things::leading_thing-turn-requires : goal.things::leading_thing-turn-requires
things::leading_thing-turn-requires g t0 c κs within =
    let is : tree_of c.args.front ≡ tree.conditional c.in-Conditional.field-0 (view c.in-Conditional.condition.now) (tree_of c.in-Conditional.yes) (maybe_tree c.in-Conditional.no) = subst (λ l. IsLast (tree_of c.args.front) l) c.in-Conditional.is c.requires.last in
    let deep : depth (tree_of c.args.front) ≡ suc (max (depth (tree_of c.in-Conditional.yes)) (depth (maybe_tree c.in-Conditional.no))) = ap depth is in
    (omega (arith, deep, c.decreases), search rules)

pub things::list_thing-returns-in_err-items : goal.things::list_thing-returns-in_err-items
things::list_thing-returns-in_err-items g t0 c =
    let e = c.in_err-items.field-0.0 in
    let err : c.from_residual.result ≡ Err e = search rules in
    rw err (fails_first a_thing (list_made c.args.place) c.requires.lowering c.in_err-items.ensures)

pub things::list_thing-returns-in_err-list : goal.things::list_thing-returns-in_err-list
things::list_thing-returns-in_err-list g t0 c =
    let e = c.in_err-list.field-0.0 in
    let err : c.from_residual-in_err-list.result ≡ Err e = search rules in
    rw err (then_from c.requires.lowering c.in_ok-items.ensures (list_fails (Knows g.N.Natives.titles g.N.Natives.answer c.args.walker.now) c.in_ok-items.items c.args.place c.items.new.state e c.in_ok-items.ensures.goes.keeps c.in_err-list.ensures))

pub things::list_thing-returns : goal.things::list_thing-returns
things::list_thing-returns g t0 c =
    then_from c.requires.lowering c.in_ok-items.ensures
    (list_known (Knows g.N.Natives.titles g.N.Natives.answer c.args.walker.now) c.in_ok-items.items c.args.place c.items.new.state c.in_ok-list.list c.in_ok-items.ensures.goes.keeps c.in_ok-list.ensures)

pub things::thing-returns-then-leads : goal.things::thing-returns-then-leads
things::thing-returns-then-leads g t0 c =
    when_led (Knows g.N.Natives.titles g.N.Natives.answer c.args.walker.now) (tree_of c.args.front) c.leads.result c.args.state.now c.leading_thing.new.state c.leading_thing.result (search rules) c.leads.ensures
    c.leading_thing.ensures

pub things::thing-returns : goal.things::thing-returns
things::thing-returns g t0 c =
    when_alone (Knows g.N.Natives.titles g.N.Natives.answer c.args.walker.now) (tree_of c.args.front) c.last-last.result c.leads.result c.args.state.now c.args.state.now c.known_thing.result c.last-last.ensures (search rules)
    c.leads.ensures c.known_thing.ensures

pub things::turn-returns-in_err-value : goal.things::turn-returns-in_err-value
things::turn-returns-in_err-value g t0 c =
    let e = c.in_err-value.field-0.0 in
    let err : c.from_residual.result ≡ Err e = search rules in
    rw err (turn_fails (Knows g.N.Natives.titles g.N.Natives.answer c.args.walker.now) (view c.args.condition.now) (tree_of c.args.yes) (maybe_tree c.args.no) c.args.state.now c.args.state.now e c.requires.lowering c.in_err-value.ensures)

pub things::turn-returns-then-truth : goal.things::turn-returns-then-truth
things::turn-returns-then-truth g t0 c =
    let is : truth_of (plain_of c.in_ok-value.value) ≡ true = search rules in
    turned_by (Knows g.N.Natives.titles g.N.Natives.answer c.args.walker.now) (view c.args.condition.now) (tree_of c.args.yes) (maybe_tree c.args.no) c.args.state.now c.thing.new.state true c.in_ok-value.value c.thing.result c.requires.lowering is c.in_ok-value.ensures c.thing.ensures

pub things::turn-returns-in-Some : goal.things::turn-returns-in-Some
things::turn-returns-in-Some g t0 c =
    let is : truth_of (plain_of c.in_ok-value.value) ≡ false = search rules in
    let no : c.args.no ≡ Some c.in-Some.no = search rules in
    turned_by (Knows g.N.Natives.titles g.N.Natives.answer c.args.walker.now) (view c.args.condition.now) (tree_of c.args.yes) (maybe_tree c.args.no) c.args.state.now c.thing-in-Some.new.state false c.in_ok-value.value c.thing-in-Some.result c.requires.lowering is c.in_ok-value.ensures
    (rw no c.thing-in-Some.ensures)

pub things::turn-returns : goal.things::turn-returns
things::turn-returns g t0 c =
    let is : truth_of (plain_of c.in_ok-value.value) ≡ false = search rules in
    let no : c.args.no ≡ None = search rules in
    let fault : c.no_arm.result ≡ no_arm = search rules in
    rw (no, fault) (turned_none (Knows g.N.Natives.titles g.N.Natives.answer c.args.walker.now) (view c.args.condition.now) (tree_of c.args.yes) c.args.state.now c.in_ok-value.value c.requires.lowering is c.in_ok-value.ensures)

pub things::turn-thing-requires-in-Some : goal.things::turn-thing-requires-in-Some
things::turn-thing-requires-in-Some g t0 c κs within =
    let no : c.args.no ≡ Some c.in-Some.no = search rules in
    let deep : depth (maybe_tree c.args.no) ≡ depth (tree_of c.in-Some.no) = ap (λ (o : Option Front). depth (maybe_tree o)) no in
    (omega (arith, deep, c.decreases), search rules)

pub things::value_thing-returns-in_err-thing : goal.things::value_thing-returns-in_err-thing
things::value_thing-returns-in_err-thing g t0 c =
    let e = c.in_err-thing.field-0.0 in
    let err : c.from_residual.result ≡ Err e = search rules in
    rw err (fails_first a_value (value_wanted (begins_at (view c.args.expr.now))) c.requires.lowering c.in_err-thing.ensures)

pub things::value_thing-returns : goal.things::value_thing-returns
things::value_thing-returns g t0 c =
    then_from c.requires.lowering c.in_ok-thing.ensures
    (answers_for c.in_ok-thing.thing (value_wanted (begins_at (view c.args.expr.now))) IsValue c.in_ok-thing.ensures.goes.keeps (anything c.value_wanted.result) (subst (λ q. WantsValue q c.in_ok-thing.thing c.value_wanted.result) c.begins_at.ensures c.value_wanted.ensures) (λ x v y h. h))

pub workflows::all_emitted-returns-in_default : goal.workflows::all_emitted-returns-in_default
workflows::all_emitted-returns-in_default g t0 c =
    let none : c.args.emits.now ≡ None = search rules in
    as_walk (nothing_given (Knows g.N.Natives.titles g.N.Natives.answer c.args.walker.now) c.args.state.now c.new-outputs.result c.requires.lowering (search rules))
    (ap (λ (o : Option Emits). emits_of [] (maybe view_emits o)) (sym none))

pub workflows::all_emitted-loop-emit-init : goal.workflows::all_emitted-loop-emit-init
workflows::all_emitted-loop-emit-init g t0 c =
    let none : c.new-outputs.result.items ≡ [] = search rules in
    record {
      leads = emits_begin (Knows g.N.Natives.titles g.N.Natives.answer c.args.walker.now) c.deref-emit-items.result.now c.args.state.now c.new-outputs.result none c.requires.lowering;
      fits = subst (λ (os : List CallOutput). OutputsRead c.args.state.now.plan (map output_of os)) (sym none) tt;
    }

pub workflows::all_emitted-loop-emit-preserved : goal.workflows::all_emitted-loop-emit-preserved
workflows::all_emitted-loop-emit-preserved g t0 c =
    let K = Knows g.N.Natives.titles g.N.Natives.answer c.args.walker.now in
    let x = c.emit-item.result in
    let os = c.loop-emit.outputs in
    let o = c.in_ok-output.output in
    let mid = c.loop-emit.state in
    let new = c.one_emitted.new.state in
    let more : c.push.new.self.items ≡ os.items ++ o ∷ [] = search rules in
    let step = as_walk c.in_ok-output.ensures.walk (ap (λ (qs : List CallOutput). emit_after (labels_of qs) (view_emit x)) c.deref.ensures.value) in
    record {
      leads = emits_go K c.deref-emit-items.result.now c.args.state.now c.loop-emit.emit-index x os c.push.new.self o mid new c.loop-emit-test.true c.emit-item.is more c.in_ok-output.ensures.label c.loop-emit.invariant.fits
          c.loop-emit.invariant.leads step;
      fits = fit_more mid new os o c.push.new.self step.later c.loop-emit.invariant.fits c.in_ok-output.ensures.walk.fits more;
    }

pub workflows::all_emitted-returns-in_err-output : goal.workflows::all_emitted-returns-in_err-output
workflows::all_emitted-returns-in_err-output g t0 c =
    let K = Knows g.N.Natives.titles g.N.Natives.answer c.args.walker.now in
    let xs = c.deref-emit-items.result.now in
    let x = c.emit-item.result in
    let e = c.in_err-output.field-0.0 in
    let some : c.args.emits.now ≡ Some c.in-Some.section = search rules in
    let step = as_walk c.in_err-output.ensures.walk (ap (λ (qs : List CallOutput). emit_after (labels_of qs) (view_emit x)) c.deref.ensures.value) in
    let err : c.from_residual.result ≡ Err e = search rules in
    rw err
    (as_walk (emits_fail K xs c.args.state.now c.loop-emit.emit-index x c.loop-emit.outputs c.loop-emit.state c.one_emitted.new.state e c.loop-emit-test.true c.emit-item.is c.loop-emit.invariant.leads step)
    (ap (λ (ys : List Emit). emits_from [] ys) c.deref-emit-items.ensures.value ∙ ap (λ (o : Option Emits). emits_of [] (maybe view_emits o)) (sym some)))

pub workflows::all_emitted-returns-in_err-push : goal.workflows::all_emitted-returns-in_err-push
workflows::all_emitted-returns-in_err-push g t0 c =
    let K = Knows g.N.Natives.titles g.N.Natives.answer c.args.walker.now in
    let xs = c.deref-emit-items.result.now in
    let some : c.args.emits.now ≡ Some c.in-Some.section = search rules in
    let err : c.from_residual-in_err-push.result ≡ Err Mem = search rules in
    rw err
    (as_walk
    (is_lost K NoIn (λ y. emits_from [] xs) (AreOutputs c.loop-emit.outputs) (rest_from xs c.loop-emit.emit-index c.loop-emit.outputs) c.args.state.now c.loop-emit.state outputs c.one_emitted.new.state c.loop-emit.invariant.leads
    c.in_ok-output.ensures.walk.later)
    (ap (λ (ys : List Emit). emits_from [] ys) c.deref-emit-items.ensures.value ∙ ap (λ (o : Option Emits). emits_of [] (maybe view_emits o)) (sym some)))

pub workflows::all_emitted-returns : goal.workflows::all_emitted-returns
workflows::all_emitted-returns g t0 c =
    let K = Knows g.N.Natives.titles g.N.Natives.answer c.args.walker.now in
    let some : c.args.emits.now ≡ Some c.in-Some.section = search rules in
    as_walk (emits_end K c.deref-emit-items.result.now c.args.state.now c.loop-emit.emit-index c.loop-emit.outputs c.loop-emit.state c.loop-emit-test.false c.loop-emit.invariant.fits c.loop-emit.invariant.leads)
    (ap (λ (ys : List Emit). emits_from [] ys) c.deref-emit-items.ensures.value ∙ ap (λ (o : Option Emits). emits_of [] (maybe view_emits o)) (sym some))

pub workflows::all_emitted-one_emitted-requires : goal.workflows::all_emitted-one_emitted-requires
workflows::all_emitted-one_emitted-requires g t0 c κs within =
    let xs = c.deref-emit-items.result.now in
    let whole : depth (maybe view_emits c.args.emits.now) ≡ depth (trees (map view_emit c.in-Some.section.emits.items)) = ap (λ (o : Option Emits). depth (maybe view_emits o)) c.in-Some.is in
    let there : depth (trees (map view_emit xs)) ≡ depth (trees (map view_emit c.in-Some.section.emits.items)) = ap (λ (ys : List Emit). depth (trees (map view_emit ys))) c.deref-emit-items.ensures.value in
    let low : depth (view_emit c.emit-item.result) ≤ depth (trees (map view_emit xs)) = part_within view_emit xs c.loop-emit.emit-index c.emit-item.result c.loop-emit-test.true c.emit-item.is in
    (omega (arith, whole, there, low, c.decreases), search rules)

pub workflows::emitted_channel-returns-in_err-thing : goal.workflows::emitted_channel-returns-in_err-thing
workflows::emitted_channel-returns-in_err-thing g t0 c =
    let e = c.in_err-thing.field-0.0 in
    let err : c.from_residual.result ≡ Err e = search rules in
    rw err (fails_first a_port (script.emitted (begins_at (view c.args.expr.now))) c.requires.lowering c.in_err-thing.ensures)

pub workflows::emitted_channel-returns-in_err-has_no_file : goal.workflows::emitted_channel-returns-in_err-has_no_file
workflows::emitted_channel-returns-in_err-has_no_file g t0 c =
    let e = c.in_err-has_no_file.field-0.0 in
    let q = begins_at (view c.args.expr.now) in
    let t = c.in_ok-thing.thing in
    let keeps = c.in_ok-thing.ensures.goes.keeps in
    let err : c.from_residual-in_err-has_no_file.result ≡ Err e = search rules in
    let P : Place → Type 0 = λ p. HasNoFile p t (Err e) in
    rw err (then_from c.requires.lowering c.in_ok-thing.ensures
    (fails_check a_port (channel_wanted q) keeps (answers_for {g = nothing} t (not_tied_to_file q) IsUnit keeps tt (subst P c.begins_at-begin.ensures c.in_err-has_no_file.ensures) (λ x v y h. tt))))

pub workflows::emitted_channel-returns : goal.workflows::emitted_channel-returns
workflows::emitted_channel-returns g t0 c =
    let q = begins_at (view c.args.expr.now) in
    let t = c.in_ok-thing.thing in
    let keeps = c.in_ok-thing.ensures.goes.keeps in
    let P : Place → Type 0 = λ p. HasNoFile p t (Ok tt) in
    let Q : Place → Type 0 = λ p. Walked (Knows g.N.Natives.titles g.N.Natives.answer c.args.walker.now) (from a_thing t a_port (channel_wanted p)) c.thing.new.state c.channel.new.state c.channel.result in
    then_from c.requires.lowering c.in_ok-thing.ensures
    (then_check keeps (λ p s y h. h) (answers_for {g = nothing} t (not_tied_to_file q) IsUnit keeps tt (subst P c.begins_at-begin.ensures c.in_ok-has_no_file.ensures) (λ x v y h. tt)) (subst Q c.begins_at-begin.ensures c.channel.ensures))

pub workflows::one_emitted-returns-in_err-check_label-clause-walk : goal.workflows::one_emitted-returns-in_err-check_label-clause-walk
workflows::one_emitted-returns-in_err-check_label-clause-walk g t0 c =
    let e = c.in_err-check_label.field-0.0 in
    let err : c.from_residual.result ≡ Err e = search rules in
    rw err
    (label_fails (Knows g.N.Natives.titles g.N.Natives.answer c.args.walker.now) (labels_of c.args.before.now) (view_emit c.args.emit.now) c.args.state.now c.requires.lowering (option_map name_at c.emit_parts.result.0)
    c.emit_parts.ensures.label e c.in_err-check_label.ensures)

pub workflows::one_emitted-returns-in_err-port-clause-walk : goal.workflows::one_emitted-returns-in_err-port-clause-walk
workflows::one_emitted-returns-in_err-port-clause-walk g t0 c =
    let e = c.in_err-port.field-0.0 in
    let err : c.from_residual-in_err-port.result ≡ Err e = search rules in
    rw err
    (emitted_fails (Knows g.N.Natives.titles g.N.Natives.answer c.args.walker.now) (labels_of c.args.before.now) (view_emit c.args.emit.now) c.args.state.now c.requires.lowering (option_map name_at c.emit_parts.result.0)
    c.emit_parts.ensures.label c.emitted_channel.new.state c.in_ok-check_label.ensures (view c.emit_parts.result.1.now) c.emit_parts.ensures.value e c.in_err-port.ensures)

pub workflows::one_emitted-returns-in_err-label-clause-walk : goal.workflows::one_emitted-returns-in_err-label-clause-walk
workflows::one_emitted-returns-in_err-label-clause-walk g t0 c =
    let err : c.from_residual-in_err-label.result ≡ Err Mem = search rules in
    rw err
    (label_lost (Knows g.N.Natives.titles g.N.Natives.answer c.args.walker.now) (labels_of c.args.before.now) (view_emit c.args.emit.now) c.args.state.now c.requires.lowering c.emitted_channel.new.state
    (view c.emit_parts.result.1.now) c.in_ok-port.port c.in_ok-port.ensures)

pub workflows::one_emitted-returns-clause-walk : goal.workflows::one_emitted-returns-clause-walk
workflows::one_emitted-returns-clause-walk g t0 c =
    output_given (Knows g.N.Natives.titles g.N.Natives.answer c.args.walker.now) (labels_of c.args.before.now) (view_emit c.args.emit.now) c.args.state.now c.requires.lowering (option_map name_at c.emit_parts.result.0)
    c.emit_parts.ensures.label c.emitted_channel.new.state c.in_ok-check_label.ensures (view c.emit_parts.result.1.now) c.emit_parts.ensures.value c.in_ok-port.port _ c.in_ok-port.ensures refl
    (c.in_ok-label.ensures ∙ ap label_of c.emit_parts.ensures.label)

pub workflows::one_emitted-returns-clause-label : goal.workflows::one_emitted-returns-clause-label
workflows::one_emitted-returns-clause-label g t0 c =
    c.in_ok-label.ensures ∙ ap label_of c.emit_parts.ensures.label

pub workflows::one_emitted-emitted_channel-requires : goal.workflows::one_emitted-emitted_channel-requires
workflows::one_emitted-emitted_channel-requires g t0 c κs within =
    let same : depth (view c.emit_parts.result.1.now) ≡ depth (emit_value (view_emit c.args.emit.now)) = ap depth c.emit_parts.ensures.value in
    let low = emit_deep (view_emit c.args.emit.now) in
    (omega (arith, same, low, c.decreases), search rules)

pub workflows::workflow-returns-in_err-statements-in-Statements : goal.workflows::workflow-returns-in_err-statements-in-Statements
workflows::workflow-returns-in_err-statements-in-Statements g t0 c =
    let ts = map view_stmt c.in-Statements.stmts.items in
    let e = c.in_err-statements-in-Statements.field-0.0 in
    let is : view_workflow_body c.args.body.now ≡ trees ts = ap view_workflow_body c.in-Statements.is in
    let same : map view_stmt c.deref.result.now ≡ ts = ap (map view_stmt) c.deref.ensures.value in
    let err : c.from_residual.result ≡ Err e = search rules in
    rw err (as_walk (alone_fails ts c.requires.lowering (as_walk c.in_err-statements-in-Statements.ensures (ap (λ (us : List Tree). (part_of (trees us)).body) same))) (ap workflow_walk (sym is)))

pub workflows::workflow-returns-in_ok-statements-in-Statements : goal.workflows::workflow-returns-in_ok-statements-in-Statements
workflows::workflow-returns-in_ok-statements-in-Statements g t0 c =
    let ts = map view_stmt c.in-Statements.stmts.items in
    let is : view_workflow_body c.args.body.now ≡ trees ts = ap view_workflow_body c.in-Statements.is in
    let same : map view_stmt c.deref.result.now ≡ ts = ap (map view_stmt) c.deref.ensures.value in
    as_walk (alone_emits ts c.new.result c.requires.lowering (search rules) (as_walk c.in_ok-statements-in-Statements.ensures (ap (λ (us : List Tree). (part_of (trees us)).body) same))) (ap workflow_walk (sym is))

pub workflows::workflow-returns-in_err-check_taken-in-Parts : goal.workflows::workflow-returns-in_err-check_taken-in-Parts
workflows::workflow-returns-in_err-check_taken-in-Parts g t0 c =
    let p = c.in-Parts.parts in
    let e = c.in_err-check_taken-in-Parts.field-0.0 in
    let is : view_workflow_body c.args.body.now ≡ view_parts p = ap view_workflow_body c.in-Parts.is in
    let names : map name_tree c.names_taken.result.now ≡ take_in (view_parts p) = c.names_taken.ensures ∙ ap take_in is in
    let twice : FaultIs (taken_twice [] (take_in (view_parts p))) (Err e) = subst (λ (ns : List Tree). FaultIs (taken_twice [] ns) (Err e)) names c.in_err-check_taken-in-Parts.ensures in
    let err : c.from_residual-in_err-check_taken-in-Parts.result ≡ Err e = search rules in
    rw err
    (as_walk
    (fails_first outputs (λ u. (part_of (view_stmts p.main.body.items)).body >>= λ v. emits_of [] (maybe view_emits p.emit)) c.requires.lowering
    (checked (Knows g.N.Natives.titles g.N.Natives.answer c.args.walker.now) (taken_twice [] (take_in (view_parts p))) c.args.state.now (Err e) c.requires.lowering twice))
    (ap workflow_walk (sym is)))

pub workflows::workflow-returns-in_err-statements-in-Parts : goal.workflows::workflow-returns-in_err-statements-in-Parts
workflows::workflow-returns-in_err-statements-in-Parts g t0 c =
    let p = c.in-Parts.parts in
    let e = c.in_err-statements-in-Parts.field-0.0 in
    let is : view_workflow_body c.args.body.now ≡ view_parts p = ap view_workflow_body c.in-Parts.is in
    let names : map name_tree c.names_taken.result.now ≡ take_in (view_parts p) = c.names_taken.ensures ∙ ap take_in is in
    let once : FaultIs (taken_twice [] (take_in (view_parts p))) (Ok tt) = subst (λ (ns : List Tree). FaultIs (taken_twice [] ns) (Ok tt)) names c.in_ok-check_taken-in-Parts.ensures in
    let same : map view_stmt c.deref-in-Parts.result.now ≡ map view_stmt p.main.body.items = ap (map view_stmt) c.deref-in-Parts.ensures.value in
    let err : c.from_residual-in_err-statements-in-Parts.result ≡ Err e = search rules in
    rw err
    (as_walk
    (then_due c.requires.lowering
    (checked (Knows g.N.Natives.titles g.N.Natives.answer c.args.walker.now) (taken_twice [] (take_in (view_parts p))) c.args.state.now (Ok tt) c.requires.lowering once)
    (fails_first outputs (λ v. emits_of [] (maybe view_emits p.emit)) c.requires.lowering (as_walk c.in_err-statements-in-Parts.ensures (ap (λ (us : List Tree). (part_of (trees us)).body) same))))
    (ap workflow_walk (sym is)))

pub workflows::workflow-returns-in_ok-statements-in-Parts : goal.workflows::workflow-returns-in_ok-statements-in-Parts
workflows::workflow-returns-in_ok-statements-in-Parts g t0 c =
    let p = c.in-Parts.parts in
    let is : view_workflow_body c.args.body.now ≡ view_parts p = ap view_workflow_body c.in-Parts.is in
    let names : map name_tree c.names_taken.result.now ≡ take_in (view_parts p) = c.names_taken.ensures ∙ ap take_in is in
    let once : FaultIs (taken_twice [] (take_in (view_parts p))) (Ok tt) = subst (λ (ns : List Tree). FaultIs (taken_twice [] ns) (Ok tt)) names c.in_ok-check_taken-in-Parts.ensures in
    let same : map view_stmt c.deref-in-Parts.result.now ≡ map view_stmt p.main.body.items = ap (map view_stmt) c.deref-in-Parts.ensures.value in
    as_walk
    (then_due c.requires.lowering
    (checked (Knows g.N.Natives.titles g.N.Natives.answer c.args.walker.now) (taken_twice [] (take_in (view_parts p))) c.args.state.now (Ok tt) c.requires.lowering once)
    (then_due c.requires.lowering (as_walk c.in_ok-statements-in-Parts.ensures (ap (λ (us : List Tree). (part_of (trees us)).body) same)) c.all_emitted.ensures))
    (ap workflow_walk (sym is))

pub workflows::workflow-statements-requires : goal.workflows::workflow-statements-requires
workflows::workflow-statements-requires g t0 c κs within =
    let whole : depth (view_workflow_body c.args.body.now) ≡ depth (view_stmts c.in-Statements.stmts.items) = ap (λ b. depth (view_workflow_body b)) c.in-Statements.is in
    let there : depth (view_stmts c.deref.result.now) ≡ depth (view_stmts c.in-Statements.stmts.items) = ap (λ ss. depth (view_stmts ss)) c.deref.ensures.value in
    (omega (arith, whole, there, c.decreases), search rules)

pub workflows::workflow-statements-requires-in-Parts : goal.workflows::workflow-statements-requires-in-Parts
workflows::workflow-statements-requires-in-Parts g t0 c κs within =
    let whole : depth (view_workflow_body c.args.body.now) ≡ max (depth (view_stmts c.in-Parts.parts.main.body.items)) (depth (maybe view_emits c.in-Parts.parts.emit)) = ap (λ b. depth (view_workflow_body b)) c.in-Parts.is in
    let there : depth (view_stmts c.deref-in-Parts.result.now) ≡ depth (view_stmts c.in-Parts.parts.main.body.items) = ap (λ ss. depth (view_stmts ss)) c.deref-in-Parts.ensures.value in
    (omega (arith, whole, there, c.decreases), search rules)

pub workflows::workflow-all_emitted-requires : goal.workflows::workflow-all_emitted-requires
workflows::workflow-all_emitted-requires g t0 c κs within =
    let whole : depth (view_workflow_body c.args.body.now) ≡ max (depth (view_stmts c.in-Parts.parts.main.body.items)) (depth (maybe view_emits c.in-Parts.parts.emit)) = ap (λ b. depth (view_workflow_body b)) c.in-Parts.is in
    (omega (arith, whole, c.decreases), search rules)
