use Rattle.nf_applied.specs.Taking.{TakenFits}
use Rattle.nf_arguments.specs.Args.{count_in, written_arg, written_args, written_in}
use Rattle.nf_ast.specs.Tops.{maybe, view_emit, view_emits, view_workflow_body}
use Rattle.nf_ast.specs.View.{view, view_stmt, view_stmts, views}
use Rattle.nf_applied.specs.Sources.{placed}
use Rattle.nf_fronts.specs.Fronts.{tree_of}
use Rattle.nf_fronts.specs.Lasts.{maybe_tree}
use Rattle.nf_lower.proofs.Measures.{depth_of, weigh}
use Rattle.nf_lower.proofs.Ports.{ChannelsLead}
use Rattle.nf_lower.proofs.Sourcing.{PathLeads, RowLeads}
use Rattle.nf_lower.proofs.Takes.{TakesLead}
use Rattle.nf_meaning.specs.Arguments.{unnamed}
use Rattle.nf_meaning.specs.Sources.{item_arg, item_args, only_value, only_values}
use Rattle.nf_meaning.specs.Taken.{args_ports}
use Rattle.nf_plan.specs.Plans.{ReadPlan}
use Rattle.nf_walked.proofs.Bodies.{BodyLeads}
use Rattle.nf_walked.proofs.Choices.{ChoiceLeads}
use Rattle.nf_walked.proofs.Emitting.{EmitLeads, OutputsFit}
use Rattle.nf_walked.proofs.Items.{ItemLeads}
use Rattle.nf_walked.specs.Args.{BeforeReads}
use Rattle.nf_walked.specs.Around.{Knows}
use Rattle.nf_walked.specs.Depth.{budget, depth}
use Rattle.nf_walked.specs.Forms.{values}
use Rattle.nf_walked.specs.Parts.{choice_of}
use Rattle.std.proofs.Common.{None, length, max, refl, ◌+◌, ◌≡◌, ◌≤◌}
use Rattle.nf_lower.proofs.+lower.Given as goal

abbrev pub decreases-args::thing_arg : goal.decreases-args::thing_arg
decreases-args::thing_arg g l = weigh (depth_of (written_in l.arg)) (budget l.walker.now) 5

abbrev pub decreases-args::written_thing : goal.decreases-args::written_thing
decreases-args::written_thing g l = weigh (depth (written_arg l.arg).tree) (budget l.walker.now) 4

abbrev pub decreases-args::plain_thing : goal.decreases-args::plain_thing
decreases-args::plain_thing g l = weigh (depth (written_arg l.arg).tree) (budget l.walker.now) 3

abbrev pub decreases-args::value_arg : goal.decreases-args::value_arg
decreases-args::value_arg g l = weigh (depth_of (written_in l.arg)) (budget l.walker.now) 6

abbrev pub decreases-args::channel_arg : goal.decreases-args::channel_arg
decreases-args::channel_arg g l = weigh (depth_of (written_in l.arg)) (budget l.walker.now) 6

abbrev pub decreases-args::unnamed_channel : goal.decreases-args::unnamed_channel
decreases-args::unnamed_channel g l = weigh (depth_of (written_in l.arg)) (budget l.walker.now) 7

abbrev pub decreases-args::and_channel : goal.decreases-args::and_channel
decreases-args::and_channel g l = weigh (depth_of (written_in l.arg)) (budget l.walker.now) 8

abbrev pub decreases-args::channel_args : goal.decreases-args::channel_args
decreases-args::channel_args g l = weigh (depth_of (written_args l.args)) (budget l.walker.now) 9

abbrev pub decreases-body::statements : goal.decreases-body::statements
decreases-body::statements g l = weigh (depth (view_stmts l.stmts.now)) (budget l.walker.now) 6

abbrev pub decreases-body::statement : goal.decreases-body::statement
decreases-body::statement g l = weigh (depth (view_stmt l.stmt.now)) (budget l.walker.now) 5

abbrev pub decreases-body::done_with : goal.decreases-body::done_with
decreases-body::done_with g l = weigh (depth (view l.expr.now)) (budget l.walker.now) 3

abbrev pub decreases-body::assign : goal.decreases-body::assign
decreases-body::assign g l = weigh (depth (view l.expr.now)) (budget l.walker.now) 3

abbrev pub decreases-body::define_one : goal.decreases-body::define_one
decreases-body::define_one g l = weigh (depth (view l.expr.now)) (budget l.walker.now) 3

abbrev pub decreases-body::define_each : goal.decreases-body::define_each
decreases-body::define_each g l = weigh (depth (view l.expr.now)) (budget l.walker.now) 4

abbrev pub decreases-body::choice : goal.decreases-body::choice
decreases-body::choice g l = weigh (depth (choice_of l.arms.now l.last.now)) (budget l.walker.now) 1

abbrev pub decreases-body::block : goal.decreases-body::block
decreases-body::block g l = weigh (depth (view_stmts l.stmts.now)) (budget l.walker.now) 7

abbrev pub decreases-calls::named_call : goal.decreases-calls::named_call
decreases-calls::named_call g l = weigh (depth_of (written_args l.args)) (budget l.walker.now) 17

abbrev pub decreases-calls::process_call : goal.decreases-calls::process_call
decreases-calls::process_call g l = weigh (depth_of (written_args l.args)) (budget l.walker.now) 10

abbrev pub decreases-calls::workflow_call : goal.decreases-calls::workflow_call
decreases-calls::workflow_call g l = weigh (depth_of (written_args l.args)) (budget l.walker.now) 10

abbrev pub decreases-chains::called : goal.decreases-chains::called
decreases-chains::called g l = weigh (max (depth (tree_of l.front)) (depth_of (written_args l.args))) (budget l.walker.now) 19

abbrev pub decreases-chains::closed : goal.decreases-chains::closed
decreases-chains::closed g l = weigh (depth (tree_of l.front)) (budget l.walker.now) 20

abbrev pub decreases-chains::method : goal.decreases-chains::method
decreases-chains::method g l = weigh (max (depth (tree_of l.front)) (depth_of (written_args l.args))) (budget l.walker.now) 18

abbrev pub decreases-chains::thing_method : goal.decreases-chains::thing_method
decreases-chains::thing_method g l = weigh (max (depth (tree_of l.front)) (depth_of (written_args l.args))) (budget l.walker.now) 17

abbrev pub decreases-chains::name_method : goal.decreases-chains::name_method
decreases-chains::name_method g l = weigh (depth_of (written_args l.args)) (budget l.walker.now) 17

abbrev pub decreases-chains::free_method : goal.decreases-chains::free_method
decreases-chains::free_method g l = weigh (depth_of (written_args l.args)) (budget l.walker.now) 14

abbrev pub decreases-chains::method_of : goal.decreases-chains::method_of
decreases-chains::method_of g l = weigh (depth_of (written_args l.args)) (budget l.walker.now) 16

abbrev pub decreases-chains::operator_call : goal.decreases-chains::operator_call
decreases-chains::operator_call g l = weigh (depth_of (written_args l.args)) (budget l.walker.now) 15

abbrev pub decreases-enters::enter : goal.decreases-enters::enter
decreases-enters::enter g l = weigh 0 (budget l.walker.now) 1

abbrev pub decreases-members::member : goal.decreases-members::member
decreases-members::member g l = weigh (depth (tree_of l.front)) (budget l.walker.now) 4

abbrev pub decreases-members::thing_member : goal.decreases-members::thing_member
decreases-members::thing_member g l = weigh (depth (tree_of l.front)) (budget l.walker.now) 3

abbrev pub decreases-members::index_of : goal.decreases-members::index_of
decreases-members::index_of g l = weigh (depth (tree_of l.front)) (budget l.walker.now) 3

abbrev pub decreases-operators::operator_on_thing : goal.decreases-operators::operator_on_thing
decreases-operators::operator_on_thing g l = weigh (depth_of (written_args l.args)) (budget l.walker.now) 14

abbrev pub decreases-operators::applied_to_thing : goal.decreases-operators::applied_to_thing
decreases-operators::applied_to_thing g l = weigh (depth_of (written_args l.args)) (budget l.walker.now) 13

abbrev pub decreases-operators::operator_on : goal.decreases-operators::operator_on
decreases-operators::operator_on g l = weigh (depth_of (written_args l.args)) (budget l.walker.now) 16

abbrev pub decreases-operators::operator_on_received : goal.decreases-operators::operator_on_received
decreases-operators::operator_on_received g l = weigh (max (depth_of (written_args l.args)) (depth_of (written_in l.receiver))) (budget l.walker.now) 15

abbrev pub decreases-operators::set_received : goal.decreases-operators::set_received
decreases-operators::set_received g l = weigh (max (depth_of (written_args l.args)) (depth_of (written_in l.receiver))) (budget l.walker.now) 14

abbrev pub decreases-operators::applied_to_received : goal.decreases-operators::applied_to_received
decreases-operators::applied_to_received g l = weigh (max (depth_of (written_args l.args)) (depth_of (written_in l.receiver))) (budget l.walker.now) 13

abbrev pub decreases-operators::with_channel : goal.decreases-operators::with_channel
decreases-operators::with_channel g l = weigh (depth_of (written_args l.args)) (budget l.walker.now) 12

abbrev pub decreases-pipes::pipe : goal.decreases-pipes::pipe
decreases-pipes::pipe g l = weigh (max (depth (tree_of l.front)) (depth (view l.expr.now))) (budget l.walker.now) 21

abbrev pub decreases-pipes::head : goal.decreases-pipes::head
decreases-pipes::head g l = weigh (depth (tree_of l.front)) (budget l.walker.now) 19

abbrev pub decreases-pipes::name_head : goal.decreases-pipes::name_head
decreases-pipes::name_head g l = weigh (depth (tree_of l.front)) (budget l.walker.now) 18

abbrev pub decreases-pipes::piped : goal.decreases-pipes::piped
decreases-pipes::piped g l = weigh (depth (tree_of l.front)) (budget l.walker.now) 20

abbrev pub decreases-pipes::piped_closed : goal.decreases-pipes::piped_closed
decreases-pipes::piped_closed g l = weigh (depth (tree_of l.front)) (budget l.walker.now) 19

abbrev pub decreases-pipes::named : goal.decreases-pipes::named
decreases-pipes::named g l = weigh (max (depth (tree_of l.front)) (depth_of (written_args l.args))) (budget l.walker.now) 18

abbrev pub decreases-sets::set_thing : goal.decreases-sets::set_thing
decreases-sets::set_thing g l = weigh (depth_of (written_args l.args)) (budget l.walker.now) 13

abbrev pub decreases-sets::set_one : goal.decreases-sets::set_one
decreases-sets::set_one g l = weigh (depth_of (written_args l.args)) (budget l.walker.now) 12

abbrev pub decreases-sets::set_all : goal.decreases-sets::set_all
decreases-sets::set_all g l = weigh (depth_of (written_args l.args)) (budget l.walker.now) 12

abbrev pub decreases-sources::source_call : goal.decreases-sources::source_call
decreases-sources::source_call g l = weigh (depth_of (written_args l.args)) (budget l.walker.now) 13

abbrev pub decreases-sources::source_items : goal.decreases-sources::source_items
decreases-sources::source_items g l = weigh (depth_of (written_args l.args)) (budget l.walker.now) 12

abbrev pub decreases-sources::item_args : goal.decreases-sources::item_args
decreases-sources::item_args g l = weigh (depth_of (written_args l.args)) (budget l.walker.now) 11

abbrev pub decreases-sources::item_arg : goal.decreases-sources::item_arg
decreases-sources::item_arg g l = weigh (depth_of (written_in l.arg)) (budget l.walker.now) 10

abbrev pub decreases-sources::written_item : goal.decreases-sources::written_item
decreases-sources::written_item g l = weigh (depth (written_arg l.arg).tree) (budget l.walker.now) 9

abbrev pub decreases-sources::unnamed_item : goal.decreases-sources::unnamed_item
decreases-sources::unnamed_item g l = weigh (depth (written_arg l.arg).tree) (budget l.walker.now) 8

abbrev pub decreases-sources::value_item : goal.decreases-sources::value_item
decreases-sources::value_item g l = weigh (depth (written_arg l.arg).tree) (budget l.walker.now) 7

abbrev pub decreases-sources::only_values : goal.decreases-sources::only_values
decreases-sources::only_values g l = weigh (depth_of (written_args l.args)) (budget l.walker.now) 9

abbrev pub decreases-sources::only_value : goal.decreases-sources::only_value
decreases-sources::only_value g l = weigh (depth_of (written_in l.arg)) (budget l.walker.now) 8

abbrev pub decreases-sources::placed_value : goal.decreases-sources::placed_value
decreases-sources::placed_value g l = weigh (depth_of (written_in l.arg)) (budget l.walker.now) 7

abbrev pub decreases-sources::list_items : goal.decreases-sources::list_items
decreases-sources::list_items g l = weigh (depth_of (written_args l.args)) (budget l.walker.now) 10

abbrev pub decreases-sources::alone_items : goal.decreases-sources::alone_items
decreases-sources::alone_items g l = weigh (depth_of (written_args l.args)) (budget l.walker.now) 10

abbrev pub decreases-sources::no_items : goal.decreases-sources::no_items
decreases-sources::no_items g l = weigh (depth_of (written_args l.args)) (budget l.walker.now) 10

abbrev pub decreases-sources::from_path : goal.decreases-sources::from_path
decreases-sources::from_path g l = weigh (depth_of (written_args l.args)) (budget l.walker.now) 10

abbrev pub decreases-sources::from_pairs : goal.decreases-sources::from_pairs
decreases-sources::from_pairs g l = weigh (depth_of (written_args l.args)) (budget l.walker.now) 10

abbrev pub decreases-sources::file_call : goal.decreases-sources::file_call
decreases-sources::file_call g l = weigh (depth_of (written_args l.args)) (budget l.walker.now) 10

abbrev pub decreases-sources::path_args : goal.decreases-sources::path_args
decreases-sources::path_args g l = weigh (depth_of (written_args l.args)) (budget l.walker.now) 9

abbrev pub decreases-sources::path_arg : goal.decreases-sources::path_arg
decreases-sources::path_arg g l = weigh (depth_of (written_in l.arg)) (budget l.walker.now) 8

abbrev pub decreases-sources::plain_path : goal.decreases-sources::plain_path
decreases-sources::plain_path g l = weigh (depth_of (written_in l.arg)) (budget l.walker.now) 7

abbrev pub decreases-taking::take_args : goal.decreases-taking::take_args
decreases-taking::take_args g l = weigh (depth_of (written_args l.args)) (budget l.walker.now) 11

abbrev pub decreases-taking::take_arg : goal.decreases-taking::take_arg
decreases-taking::take_arg g l = weigh (depth_of (written_in l.arg)) (budget l.walker.now) 10

abbrev pub decreases-taking::take_written : goal.decreases-taking::take_written
decreases-taking::take_written g l = weigh (depth (written_arg l.arg).tree) (budget l.walker.now) 9

abbrev pub decreases-taking::take_unnamed : goal.decreases-taking::take_unnamed
decreases-taking::take_unnamed g l = weigh (depth (written_arg l.arg).tree) (budget l.walker.now) 8

abbrev pub decreases-taking::take_channel : goal.decreases-taking::take_channel
decreases-taking::take_channel g l = weigh (depth (written_arg l.arg).tree) (budget l.walker.now) 7

abbrev pub decreases-things::thing : goal.decreases-things::thing
decreases-things::thing g l = weigh (depth (tree_of l.front)) (budget l.walker.now) 2

abbrev pub decreases-things::leading_thing : goal.decreases-things::leading_thing
decreases-things::leading_thing g l = weigh (depth (tree_of l.front)) (budget l.walker.now) 1

abbrev pub decreases-things::list_thing : goal.decreases-things::list_thing
decreases-things::list_thing g l = weigh (depth (views l.exprs.now)) (budget l.walker.now) 5

abbrev pub decreases-things::items : goal.decreases-things::items
decreases-things::items g l = weigh (depth (views l.exprs.now)) (budget l.walker.now) 4

abbrev pub decreases-things::value_thing : goal.decreases-things::value_thing
decreases-things::value_thing g l = weigh (depth (view l.expr.now)) (budget l.walker.now) 3

abbrev pub decreases-things::turn : goal.decreases-things::turn
decreases-things::turn g l = weigh (max (depth (tree_of l.yes)) (depth (maybe_tree l.no))) (budget l.walker.now) 3

abbrev pub decreases-workflows::workflow : goal.decreases-workflows::workflow
decreases-workflows::workflow g l = weigh (depth (view_workflow_body l.body.now)) (budget l.walker.now) 7

abbrev pub decreases-workflows::all_emitted : goal.decreases-workflows::all_emitted
decreases-workflows::all_emitted g l = weigh (depth (maybe view_emits l.emits.now)) (budget l.walker.now) 5

abbrev pub decreases-workflows::one_emitted : goal.decreases-workflows::one_emitted
decreases-workflows::one_emitted g l = weigh (depth (view_emit l.emit.now)) (budget l.walker.now) 4

abbrev pub decreases-workflows::emitted_channel : goal.decreases-workflows::emitted_channel
decreases-workflows::emitted_channel g l = weigh (depth (view l.expr.now)) (budget l.walker.now) 3

abbrev pub invariant-args::channel_args-loop-arg : goal.invariant-args::channel_args-loop-arg
invariant-args::channel_args-loop-arg g l = record {
  reads : BeforeReads l.state.plan l.args.before;
  ports : ReadPlan l.state.plan l.ports.items;
  deep : depth_of (written_args l.args) ≤ depth_of (written_args l.fn.args);
  count : length l.ports.items + count_in l.args ≡ count_in l.fn.args;
  leads : ChannelsLead (Knows g.N.Natives.titles g.N.Natives.answer l.walker) l.fn.args l.ports l.args l.initial.state l.state;
}

abbrev pub decreases-args::channel_args-loop-arg : goal.decreases-args::channel_args-loop-arg
decreases-args::channel_args-loop-arg g l = count_in l.args

abbrev pub invariant-body::choice-loop-arm : goal.invariant-body::choice-loop-arm
invariant-body::choice-loop-arm g l = ChoiceLeads (Knows g.N.Natives.titles g.N.Natives.answer l.walker) l.arms l.last l.arm-index l.initial.state l.state

abbrev pub invariant-body::statements-loop-stmt : goal.invariant-body::statements-loop-stmt
invariant-body::statements-loop-stmt g l = BodyLeads (Knows g.N.Natives.titles g.N.Natives.answer l.walker) l.stmts l.stmt-index l.initial.state l.state

abbrev pub invariant-sources::item_args-loop-arg : goal.invariant-sources::item_args-loop-arg
invariant-sources::item_args-loop-arg g l = record {
  deep : depth_of (written_args l.args) ≤ depth_of (written_args l.fn.args);
  alone : l.args.before ≡ None;
  leads : RowLeads (Knows g.N.Natives.titles g.N.Natives.answer l.walker) values item_args (λ x. item_arg x.label x) (λ y ys a s. refl) (λ a s. refl) l.fn.args l.items l.args l.fn.state l.state;
}

abbrev pub decreases-sources::item_args-loop-arg : goal.decreases-sources::item_args-loop-arg
decreases-sources::item_args-loop-arg g l = count_in l.args

abbrev pub invariant-sources::only_values-loop-arg : goal.invariant-sources::only_values-loop-arg
invariant-sources::only_values-loop-arg g l = record {
  deep : depth_of (written_args l.args) ≤ depth_of (written_args l.fn.args);
  alone : l.args.before ≡ None;
  count : length l.given.items + unnamed (written_args l.args) ≡ unnamed (written_args l.fn.args);
  leads : RowLeads (Knows g.N.Natives.titles g.N.Natives.answer l.walker) placed only_values (λ x. only_value x.label x) (λ y ys a s. refl) (λ a s. refl) l.fn.args l.given l.args l.fn.state l.state;
}

abbrev pub decreases-sources::only_values-loop-arg : goal.decreases-sources::only_values-loop-arg
decreases-sources::only_values-loop-arg g l = count_in l.args

abbrev pub invariant-sources::path_args-loop-arg : goal.invariant-sources::path_args-loop-arg
invariant-sources::path_args-loop-arg g l = record {
  deep : depth_of (written_args l.args) ≤ depth_of (written_args l.fn.args);
  reads : BeforeReads l.state.plan l.args.before;
  leads : PathLeads (Knows g.N.Natives.titles g.N.Natives.answer l.walker) l.kind l.fn.args l.given l.args l.fn.state l.state;
}

abbrev pub decreases-sources::path_args-loop-arg : goal.decreases-sources::path_args-loop-arg
decreases-sources::path_args-loop-arg g l = count_in l.args

abbrev pub invariant-taking::take_args-loop-arg : goal.invariant-taking::take_args-loop-arg
invariant-taking::take_args-loop-arg g l = record {
  deep : depth_of (written_args l.args) ≤ depth_of (written_args l.fn.args);
  alone : l.args.before ≡ None;
  fits : TakenFits l.operator l.state.plan l.taken;
  ports : length l.taken.ports.items + args_ports l.row.args (unnamed (written_args l.args)) ≡ args_ports l.row.args (unnamed (written_args l.fn.args));
  leads : TakesLead (Knows g.N.Natives.titles g.N.Natives.answer l.walker) l.row l.operator l.fn.args l.taken l.args l.fn.state l.state;
}

abbrev pub decreases-taking::take_args-loop-arg : goal.decreases-taking::take_args-loop-arg
decreases-taking::take_args-loop-arg g l = count_in l.args

abbrev pub invariant-things::items-loop-expr : goal.invariant-things::items-loop-expr
invariant-things::items-loop-expr g l = ItemLeads (Knows g.N.Natives.titles g.N.Natives.answer l.walker) l.exprs l.expr-index l.items l.initial.state l.state

abbrev pub invariant-workflows::all_emitted-loop-emit : goal.invariant-workflows::all_emitted-loop-emit
invariant-workflows::all_emitted-loop-emit g l = record {
  leads : EmitLeads (Knows g.N.Natives.titles g.N.Natives.answer l.walker) l.emit-items l.emit-index l.outputs l.initial.state l.state;
  fits : OutputsFit l.state l.outputs;
}
