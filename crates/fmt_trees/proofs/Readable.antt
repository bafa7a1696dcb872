-- Every tree of every shape is read from its tokens.
use Rattle.nf_ast.specs.Tree.{Tree}
use Rattle.fmt_trees.specs.Shape as sort
use Rattle.fmt_trees.specs.Shape.{Sort, Shaped}
use Rattle.fmt_trees.proofs.Rows.{none, some}
use Rattle.fmt_trees.proofs.Holds.{Holds, nothing, just, in_section}
use Rattle.fmt_trees.proofs.Prims.{name_read, number_read, text_read, pattern_read, truth_read, null_read, prefix_read, binary_read, conditional_read, elvis_read}
use Rattle.fmt_trees.proofs.Posts.{property_read, safe_property_read, index_read, call_read, call_with_read}
use Rattle.fmt_trees.proofs.Literals.{list_read, map_read, pair_read, name_key, text_key, bare_key, piece_key, no_pieces, text_piece, hole_piece, template_read}
use Rattle.fmt_trees.proofs.Bodies.{unnamed_read, named_read, name_names, label_read, statements_inside, labels_inside, no_params_read, params_read, closure_read, closure_expr_read, alone_read, define_read, define_all_read, assign_read, return_read, println_read, log_read, block_read, no_last_read, last_block_read, last_choice_read, choice_read, choose_read}
use Rattle.fmt_trees.proofs.Sections.{directive_read, val_input_read, path_input_read, stdin_read, one_input_read, tuple_input_read, val_output_read, path_output_read, stdout_read, one_output_read, tuple_output_read, output_read, text_task, template_task, section_task, assign_emit, alone_emit}
use Rattle.fmt_trees.proofs.Tops.{process_read, parts_read, only_read, workflow_read, function_read, parameter_read, println_top, log_top, dsl_top}

pub holds : {s : Sort} {x : Tree} → Shaped s x → Holds s x
holds sort.no_more = none
holds (sort.one_more h i) = some (holds h) (holds i)
holds (sort.named {p = p} {s = s}) = name_names p s
holds (sort.variable {p = p} {s = s}) = name_read p s
holds (sort.number {p = p} {n = n}) = number_read p n
holds (sort.text {p = p} {q = q} {s = s}) = text_read p q s
holds (sort.pattern_text {p = p} {s = s}) = pattern_read p s
holds (sort.truth {p = p} {b = b}) = truth_read p b
holds (sort.null {p = p}) = null_read p
holds (sort.template {p = p} {q = q} {xs = xs} h) = template_read p q xs (holds h)
holds (sort.list {p = p} {xs = xs} h) = list_read p xs (holds h)
holds (sort.map {p = p} {xs = xs} h) = map_read p xs (holds h)
holds (sort.function h) = closure_expr_read h (holds h)
holds (sort.prefixed {p = p} {x = x} {e = e} h) = prefix_read p x e (holds h)
holds (sort.binary {p = p} {x = x} {a = a} {b = b} h i) = binary_read p x a b (holds h) (holds i)
holds (sort.conditional {p = p} {c = c} {a = a} {b = b} h i j) = conditional_read p c a b (holds h) (holds i) (holds j)
holds (sort.elvis {p = p} {a = a} {b = b} h i) = elvis_read p a b (holds h) (holds i)
holds (sort.property {e = e} {n = n} h i) = property_read e n (holds h) (holds i)
holds (sort.safe_property {e = e} {n = n} h i) = safe_property_read e n (holds h) (holds i)
holds (sort.index {p = p} {e = e} {x = x} h i) = index_read p e x (holds h) (holds i)
holds (sort.call {p = p} {e = e} {xs = xs} h i) = call_read p e xs (holds h) (holds i)
holds (sort.call_with {e = e} {c = c} h i) = call_with_read e c (holds h) (holds i)
holds (sort.unnamed {e = e} h) = unnamed_read e h (holds h)
holds (sort.with_name {e = e} (sort.named {p = p} {s = s}) i) = named_read p s e (holds i)
holds (sort.by_name {p = p} {s = s}) = name_key p s
holds (sort.by_text {p = p} {q = q} {s = s}) = text_key p q s
holds (sort.by_nothing {p = p} {q = q}) = bare_key p q
holds (sort.by_piece {p = p} {r = r} {q = q} {b = b} {s = s}) = piece_key p r q b s
holds (sort.pair_of {k = k} {e = e} h i) = pair_read k e (holds h) (holds i)
holds (sort.no_text h) = holds h
holds (sort.a_text {r = r} {b = b} {s = s} {xs = xs} h) = text_piece r b s xs (holds h)
holds sort.no_hole = no_pieces
holds (sort.a_hole {r = r} {e = e} {xs = xs} h i) = hole_piece r e xs (holds h) (holds i)
holds (sort.closure_of {p = p} {ps = ps} {xs = xs} h i) = closure_read p ps xs (holds h) (holds i)
holds sort.no_params = no_params_read
holds (sort.some_params h) = params_read (holds h)
holds (sort.of_statements h) = statements_inside h (holds h)
holds (sort.of_labels h i) = labels_inside h (holds h) (holds i)
holds (sort.label_of {e = e} (sort.named {p = p} {s = s}) i) = label_read p s e (holds i)
holds (sort.alone {e = e} h) = alone_read e h (holds h)
holds (sort.define {p = p} {n = n} {e = e} h i) = define_read p n e (holds h) (holds i)
holds (sort.define_all {p = p} {n = n} {ns = ns} {e = e} h i j) = define_all_read p n ns e (holds h) (holds i) (holds j)
holds (sort.assign {n = n} {e = e} h i) = assign_read n e (holds h) (holds i)
holds (sort.return_ {p = p} {e = e} h) = return_read p e (holds h)
holds (sort.println {p = p} {e = e} h) = println_read p e h (holds h)
holds (sort.log {p = p} {e = e} (sort.named {p = q} {s = s}) i) = log_read p q s e i (holds i)
holds (sort.choose {x = x} h) = choose_read x (holds h)
holds (sort.choice_of {p = p} {c = c} {b = b} {e = e} h i j) = choice_read p c b e (holds h) (holds i) (holds j)
holds (sort.block_of {xs = xs} h) = block_read xs (holds h)
holds sort.no_last = no_last_read
holds (sort.last_block h) = last_block_read h (holds h)
holds (sort.last_choice h) = last_choice_read h (holds h)
holds sort.absent = nothing
holds (sort.present h) = just (holds h)
holds (sort.section_of h) = in_section (holds h)
holds (sort.directive_of {n = n} {xs = xs} h i) = directive_read n xs (holds h) i (holds i)
holds (sort.val_input {p = p} {n = n} h) = val_input_read p n (holds h)
holds (sort.path_input {p = p} {n = n} h) = path_input_read p n (holds h)
holds (sort.stdin_input {p = p}) = stdin_read p
holds (sort.one_input h) = one_input_read h (holds h)
holds (sort.tuple_input {p = p} {x = x} {xs = xs} h i) = tuple_input_read p x xs (holds h) (holds i)
holds (sort.val_output {p = p} {e = e} h) = val_output_read p e (holds h)
holds (sort.path_output {p = p} {e = e} h) = path_output_read p e (holds h)
holds (sort.stdout_output {p = p}) = stdout_read p
holds (sort.one_output h) = one_output_read h (holds h)
holds (sort.tuple_output {p = p} {x = x} {xs = xs} h i) = tuple_output_read p x xs (holds h) (holds i)
holds (sort.output_of {x = x} {os = os} h i) = output_read x os (holds h) i (holds i)
holds (sort.script_section h) = section_task (holds h)
holds (sort.script_text {p = p} {q = q} {s = s}) = λ tl e. text_task p q s tl
holds (sort.script_template {p = p} {q = q} {xs = xs} h) = λ tl e. template_task p q xs (holds h) tl
holds (sort.emit_assign {n = n} {e = e} h i) = assign_emit n e (holds h) (holds i)
holds (sort.emit_alone {e = e} h) = alone_emit e (holds h)
holds (sort.only_statements h) = only_read (holds h)
holds (sort.some_parts h i j) = parts_read (holds h) (holds i) (holds j)
holds (sort.a_process {p = p} {n = n} {ds = ds} {xs = xs} {ys = ys} {t = t} {s = s} h i j k l m) = process_read n ds xs ys t s (holds i) (holds j) (holds k) (holds l) (holds m) j k l m p (holds h)
holds (sort.a_workflow {p = p} {n = n} {b = b} h i) = workflow_read p n b (holds h) h (holds i)
holds (sort.a_function {p = p} {n = n} {ps = ps} {b = b} h i j) = function_read p n ps b (holds h) (holds i) (holds j)
holds (sort.a_parameter {p = p} {e = e} (sort.named {p = q} {s = s}) i) = parameter_read p q s e (holds i)
holds (sort.a_println {p = p} {e = e} h) = println_top p e (holds h)
holds (sort.a_log {p = p} {e = e} (sort.named {p = q} {s = s}) i) = log_top p q s e (holds i)
holds (sort.a_dsl {p = p}) = dsl_top p
