-- The tokens of the inks of every tree are those that TreeTokens and TopTokens give.
use Rattle.std.proofs.Common.{◌∷◌, refl}
use Rattle.std.specs.Prelude.{codes}
use Rattle.nf_token.specs.declared.token.Keyword.TheVariants as k
use Rattle.nf_token.specs.declared.token.Token.TheVariants as t
use Rattle.nf_ast.specs.Tree as tree
use Rattle.nf_ast.specs.Tree.{Tree, empty, cons}
use Rattle.nf_printer.specs.Tops as tops
use Rattle.fmt_trees.specs.Shape as sort
use Rattle.fmt_trees.specs.Shape.{Sort, Shaped}
use Rattle.fmt_trees.proofs.TopTokens.{directive_of, output_of}
use Rattle.fmt_trees.proofs.Rows.{Each, none, some}
use Rattle.fmt_trees.proofs.Holds.{Perhaps, nothing, just, Section, in_section}
use Rattle.fmt_trees.proofs.SettledExprs.{Says, ParamsSay, LastSays, PiecesSay, PartSays, name_says, truth_says, prefix_says, binary_says, conditional_says, elvis_says, property_says, safe_property_says, index_says, list_says, map_says, call_says, pair_says, label_says, named_says, assign_says, text_says, hole_says, template_says}
use Rattle.fmt_trees.proofs.SettledBodies.{number_says, plain_says, pattern_says, null_says, no_pieces_say, call_with_says, BodySays, body_says, block_says, no_params_say, params_say, closure_says, alone_says, define_says, define_all_says, return_says, println_says, log_says, choice_says, no_last_says, last_block_says, last_choice_says, part_says, choose_says}
use Rattle.fmt_trees.proofs.SettledTops.{LineSays, ValueSays, SomeSays, TaskSays, PartLine, InsideSays, TopSays, directive_says, val_says, path_says, stdin_says, stdout_says, tuple_says, one_input_says, one_output_says, output_says, text_task_says, template_task_says, section_task_says, alone_line, assign_line, take_lines, parts_say, only_say, process_says, workflow_says, function_says, parameter_says, println_top_says, log_top_says, dsl_says}

abbrev pub Settles : Sort → Tree → Type 0
Settles sort.pieces x = PiecesSay x
Settles sort.holes x = PiecesSay x
Settles sort.params x = ParamsSay x
Settles sort.body x = BodySays x
Settles sort.statement x = PartSays x
Settles sort.label x = PartSays x
Settles sort.last x = LastSays x
Settles sort.directive x = LineSays tops.directive directive_of x
Settles sort.input x = ValueSays x
Settles sort.inputs x = SomeSays x
Settles sort.output_value x = ValueSays x
Settles sort.outputs x = SomeSays x
Settles sort.output x = LineSays tops.output output_of x
Settles sort.task x = TaskSays x
Settles sort.emit x = PartLine x
Settles sort.inside x = InsideSays x
Settles sort.top x = TopSays x
Settles (sort.row s) x = Each (Settles s) x
Settles (sort.maybe s) x = Perhaps (Settles s) x
Settles (sort.section s) x = Section (Settles s) x
Settles _ x = Says x

pub settles : {s : Sort} {x : Tree} → Shaped s x → Settles s x
settles sort.no_more = none
settles (sort.one_more h i) = some (settles h) (settles i)
settles (sort.named {p = p} {s = s}) = name_says p s
settles (sort.variable {p = p} {s = s}) = name_says p s
settles (sort.number {p = p} {n = n}) = number_says p n
settles (sort.text {p = p} {q = q} {s = s}) = plain_says p q s
settles (sort.pattern_text {p = p} {s = s}) = pattern_says p s
settles (sort.truth {p = p} {b = b}) = truth_says p b
settles (sort.null {p = p}) = null_says p
settles (sort.template {p = p} {q = q} {xs = xs} h) = template_says p q xs (settles h)
settles (sort.list {p = p} {xs = xs} h) = list_says p xs (settles h)
settles (sort.map {p = p} {xs = xs} h) = map_says p (settles h)
settles (sort.function h) = settles h
settles (sort.prefixed {p = p} {x = x} {e = e} h) = prefix_says p x e (settles h)
settles (sort.binary {p = p} {x = x} {a = a} {b = b} h i) = binary_says p x a b (settles h) (settles i)
settles (sort.conditional {p = p} {c = c} {a = a} {b = b} h i j) = conditional_says p c a b (settles h) (settles i) (settles j)
settles (sort.elvis {p = p} {a = a} {b = b} h i) = elvis_says p a b (settles h) (settles i)
settles (sort.property {e = e} {n = n} h i) = property_says e n (settles h) (settles i)
settles (sort.safe_property {e = e} {n = n} h i) = safe_property_says e n (settles h) (settles i)
settles (sort.index {p = p} {e = e} {x = x} h i) = index_says p e x (settles h) (settles i)
settles (sort.call {p = p} {e = e} {xs = xs} h i) = call_says p e xs (settles h) (settles i)
settles (sort.call_with {e = e} {c = c} h i) = call_with_says e c (settles h) (settles i)
settles (sort.unnamed h) = settles h
settles (sort.with_name {n = n} {e = e} h i) = named_says n e (settles h) (settles i)
settles (sort.by_name {p = p} {s = s}) = name_says p s
settles (sort.by_text {p = p} {q = q} {s = s}) = plain_says p q s
settles (sort.by_nothing {p = p} {q = q}) = template_says p q empty no_pieces_say
settles (sort.by_piece {p = p} {r = r} {q = q} {b = b} {s = s}) = template_says p q (cons (tree.piece r (b ∷ s)) empty) (text_says r b s empty no_pieces_say)
settles (sort.pair_of {k = k} {e = e} h i) = pair_says k e (settles h) (settles i)
settles (sort.no_text h) = settles h
settles (sort.a_text {r = r} {b = b} {s = s} {xs = xs} h) = text_says r b s xs (settles h)
settles sort.no_hole = no_pieces_say
settles (sort.a_hole {r = r} {e = e} {xs = xs} h i) = hole_says r e xs (settles h) (settles i)
settles (sort.closure_of {p = p} {ps = ps} {xs = xs} h i) = closure_says p ps xs (settles h) (settles i)
settles sort.no_params = no_params_say
settles (sort.some_params h) = params_say (settles h)
settles (sort.of_statements h) = body_says (settles h)
settles (sort.of_labels h i) = body_says (some (settles h) (settles i))
settles (sort.label_of {n = n} {e = e} (sort.named {p = p} {s = s}) i) = part_says (tree.label (tree.name p s) e) (t.Name s) refl (label_says (tree.name p s) e (name_says p s) (settles i)) (λ l g w. (_, refl))
settles (sort.alone {e = e} h) = alone_says e h (settles h)
settles (sort.define {p = p} {n = n} {e = e} h i) = part_says (tree.define p n e) (t.Keyword k.Def) refl (define_says p n e (settles h) (settles i)) (λ l g w. (_, refl))
settles (sort.define_all {p = p} {n = n} {ns = ns} {e = e} h i j) = part_says (tree.define_all p (cons n ns) e) (t.Keyword k.Def) refl (define_all_says p (cons n ns) e (some (settles h) (settles i)) (settles j)) (λ l g w. (_, refl))
settles (sort.assign {e = e} (sort.named {p = p} {s = s}) i) = part_says (tree.assign (tree.name p s) e) (t.Name s) refl (assign_says (tree.name p s) e (name_says p s) (settles i)) (λ l g w. (_, refl))
settles (sort.return_ {p = p} {e = e} h) = part_says (tree.return_ p e) (t.Keyword k.Return) refl (return_says p e (settles h)) (λ l g w. (_, refl))
settles (sort.println {p = p} {e = e} h) = part_says (tree.println p e) (t.Name (codes "println")) refl (println_says p e (settles h)) (λ l g w. (_, refl))
settles (sort.log {p = p} {n = n} {e = e} h i) = part_says (tree.log p n e) (t.Name (codes "log")) refl (log_says p n e (settles h) (settles i)) (λ l g w. (_, refl))
settles (sort.choose h) = choose_says h (settles h)
settles (sort.choice_of {p = p} {c = c} {b = b} {e = e} h i j) = choice_says p c b e (settles h) (settles i) (settles j)
settles (sort.block_of {xs = xs} h) = block_says xs (body_says (settles h))
settles sort.no_last = no_last_says
settles (sort.last_block h) = last_block_says h (settles h)
settles (sort.last_choice h) = last_choice_says h (settles h)
settles sort.absent = nothing
settles (sort.present h) = just (settles h)
settles (sort.section_of h) = in_section (settles h)
settles (sort.directive_of {xs = xs} h i) = directive_says xs h (settles h) (settles i)
settles (sort.val_input {p = p} {n = n} h) = val_says p n (settles h)
settles (sort.path_input {p = p} {n = n} h) = path_says p n (settles h)
settles (sort.stdin_input {p = p}) = stdin_says p
settles (sort.one_input h) = one_input_says h (settles h)
settles (sort.tuple_input {p = p} {x = x} {xs = xs} h i) = tuple_says p x xs (settles h) (settles i)
settles (sort.val_output {p = p} {e = e} h) = val_says p e (settles h)
settles (sort.path_output {p = p} {e = e} h) = path_says p e (settles h)
settles (sort.stdout_output {p = p}) = stdout_says p
settles (sort.one_output h) = one_output_says h (settles h)
settles (sort.tuple_output {p = p} {x = x} {xs = xs} h i) = tuple_says p x xs (settles h) (settles i)
settles (sort.output_of {x = x} {os = os} h i) = output_says x os (settles h) (settles i)
settles (sort.script_section h) = section_task_says (settles h)
settles (sort.script_text {p = p} {q = q} {s = s}) = text_task_says p q s
settles (sort.script_template {p = p} {q = q} {xs = xs} h) = template_task_says p q xs (settles h)
settles (sort.emit_assign {e = e} h i) = assign_line e h (settles i)
settles (sort.emit_alone {e = e} h) = alone_line e h (settles h)
settles (sort.only_statements h) = only_say (settles h)
settles (sort.some_parts {t = t} {b = b} {e = e} h i j) = parts_say t b e (take_lines h) (settles i) (settles j)
settles (sort.a_process {p = p} {n = n} {ds = ds} {xs = xs} {ys = ys} {t = x} {s = s} h i j k l m) = process_says n ds xs ys x s (settles i) (settles j) (settles k) (settles l) (settles m) p (settles h)
settles (sort.a_workflow {p = p} {n = n} {b = b} h i) = workflow_says p n b h (settles i)
settles (sort.a_function {p = p} {n = n} {ps = ps} {b = b} h i j) = function_says p n ps b (settles h) (settles i) (settles j)
settles (sort.a_parameter {p = p} {n = n} {e = e} h i) = parameter_says p n e (settles h) (settles i)
settles (sort.a_println {p = p} {e = e} h) = println_top_says p e (settles h)
settles (sort.a_log {p = p} {n = n} {e = e} h i) = log_top_says p n e (settles h) (settles i)
settles (sort.a_dsl {p = p}) = dsl_says p
