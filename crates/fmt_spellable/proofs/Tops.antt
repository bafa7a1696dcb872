-- What the rules of processes, workflows and the other tops make.
use Rattle.std.proofs.Common.{◌≡◌, ℕ, List}
use Rattle.nf_value.specs.declared.place.Place.{Place}
use Rattle.nf_grammar.specs.Gram.{gives, rule, ◌>>=◌}
use Rattle.nf_ast.specs.Tree as tree
use Rattle.nf_ast.specs.Tree.{Tree, empty}
use Rattle.nf_exprs.specs.Level.{Level, Expr, Args, Body, Script, Top, Process, Directive, Input, Inputs, Output, Outputs, Task, Workflow, Parts, Function, Gram}
use Rattle.nf_exprs.specs.Rules.{rules, one_name, output_value, one_output, options, body_section, second_inputs, stub_end, emit, parameter, tops, maybe_section, headed}
use Rattle.fmt_tokens.specs.Fits.{Fits}
use Rattle.fmt_trees.specs.Shape as shape
use Rattle.fmt_trees.specs.Shape.{Sort, Shaped, row, maybe, section, expr, a_name, arg, statement as a_statement, label as a_label, directive as a_directive, input as an_input, inputs as some_inputs, output_value as a_value, outputs as some_outputs, output as an_output, task as a_task, emit as an_emit, inside, top}
use Rattle.fmt_spellable.specs.Made.{Made, sort_of}
use Rattle.fmt_spellable.proofs.Steps.{Good, Any, seq, skip, ret, arms, tested, turns, weaker, either_of, skipped, closing, enclosed, ended, some_listed, all_listed, in_series, AtLeastOne, these, none_made, snoc_made}
use Rattle.fmt_spellable.proofs.Tokens.{a_name_good, string_good, name_tree}
use Rattle.fmt_spellable.proofs.Pieces.{template_task_good}
use Rattle.fmt_spellable.proofs.Exprs.{label_good}

-- ---- what is made of parts

absent_made : {s : Sort} → Made (maybe s) empty
absent_made = record { shaped = shape.absent; fits = tt }

present_made : {s : Sort} {x : Tree} → Made s x → Made (maybe s) x
present_made x = record { shaped = shape.present x.shaped; fits = x.fits }

section_made : {s : Sort} {p : Place} {xs : Tree} → Made s xs → Made (section s) (tree.section p xs)
section_made xs = record { shaped = shape.section_of xs.shaped; fits = xs.fits }

tuple_input_made : {p : Place} {xs : Tree} → AtLeastOne an_input xs → Made some_inputs (tree.tuple p xs)
tuple_input_made (these x xs) = record { shaped = shape.tuple_input x.shaped xs.shaped; fits = (x.fits, xs.fits) }

tuple_output_made : {p : Place} {xs : Tree} → AtLeastOne a_value xs → Made some_outputs (tree.tuple p xs)
tuple_output_made (these x xs) = record { shaped = shape.tuple_output x.shaped xs.shaped; fits = (x.fits, xs.fits) }

module _ {n : ℕ} (ih : (l : Level) → Good n (rule l) (Made (sort_of l))) where
  expr_good : (d k : ℕ) → Good n (rule (Expr d k)) (Made expr)
  expr_good d k = ih (Expr d k)

  args_good : (d : ℕ) → Good n (rule (Args d)) (Made (row arg))
  args_good d = ih (Args d)

  -- a section, where it may be missing
  maybe_good : {x : List ℕ} {g : Gram} {s : Sort} → Good n g (Made s) → Good n (maybe_section x g) (Made (maybe s))
  maybe_good h = either_of (weaker (λ v q. present_made q) h) absent_made

  headed_good : {x : List ℕ} {g : Place → Gram} {P : Tree → Type 0} → ((p : Place) → Good n (g p) P) → Good n (headed x g) P
  headed_good h = seq {P = Any} (skip (λ w. skip (λ c. ret tt))) (λ w u. h _)

  -- parts that become a section
  sectioned : {g : Gram} {s : Sort} → Good n g (Made s) → (p : Place) → Good n (g >>= λ xs. gives (tree.section p xs)) (Made (section s))
  sectioned h p = seq h (λ xs q. ret (section_made q))

  body_section_good : (x : List ℕ) → Good n (body_section x) (Made (section (row a_statement)))
  body_section_good x = headed_good (sectioned (ih (Body 1)))

  -- ---- processes
  pub directive_row : Good n (rules Directive) (Made a_directive)
  unfolding rules
  directive_row = seq a_name_good (λ x f. seq (arms (skip (λ o. seq (either_of (args_good 2) none_made) (λ xs h. skip (λ c. ret h)))) (either_of (tested (args_good 1)) none_made)) (λ xs h. ret (record { shaped = shape.directive_of f.shaped h.shaped; fits = (f.fits, h.fits) })))

  one_name_good : Good n one_name (Made a_name)
  one_name_good = arms a_name_good (skip (λ o. seq a_name_good (λ x h. skip (λ c. ret h))))

  pub input_row : Good n (rules Input) (Made an_input)
  unfolding rules
  input_row = arms
      (skip (λ w. seq one_name_good (λ x h. ret (record { shaped = shape.val_input h.shaped; fits = h.fits }))))
      (arms (skip (λ w. seq one_name_good (λ x h. ret (record { shaped = shape.path_input h.shaped; fits = h.fits }))))
      (skip (λ w. ret (record { shaped = shape.stdin_input; fits = tt }))))

  pub inputs_row : Good n (rules Inputs) (Made (section (row some_inputs)))
  unfolding rules
  inputs_row = headed_good (sectioned (in_series (arms (weaker (λ v h. record { shaped = shape.one_input h.shaped; fits = h.fits }) (ih Input)) (skip (λ w. seq (some_listed (ih Input)) (λ xs h. ret (tuple_input_made h)))))))

  value_good : Good n output_value (Made a_value)
  value_good = arms
      (skip (λ w. seq (expr_good 1 0) (λ x h. ret (record { shaped = shape.val_output h.shaped; fits = h.fits }))))
      (arms (skip (λ w. seq (expr_good 1 0) (λ x h. ret (record { shaped = shape.path_output h.shaped; fits = h.fits }))))
      (skip (λ w. ret (record { shaped = shape.stdout_output; fits = tt }))))

  options_good : Good n options (Made (row a_label))
  options_good = turns (λ i b q. seq skipped (λ c u. seq (label_good ih 1) (λ o h. ret (snoc_made q h)))) none_made

  pub output_row : Good n (rules Output) (Made an_output)
  unfolding rules
  output_row = seq {P = Made some_outputs} (arms (weaker (λ v h. record { shaped = shape.one_output h.shaped; fits = h.fits }) value_good) (skip (λ w. seq (some_listed value_good) (λ xs h. ret (tuple_output_made h))))) (λ v f. seq options_good (λ os h. ret (record { shaped = shape.output_of f.shaped h.shaped; fits = (f.fits, h.fits) })))

  pub outputs_row : Good n (rules Outputs) (Made (section (row an_output)))
  unfolding rules
  outputs_row = headed_good (sectioned (in_series (ih Output)))

  pub task_row : Good n (rules Task) (Made a_task)
  unfolding rules
  task_row = arms (weaker (λ v h. record { shaped = shape.script_section h.shaped; fits = h.fits }) (body_section_good _)) (ended (arms string_good (template_task_good (λ e. expr_good e 0) 1)))

  second_good : {xs : Tree} → Shaped (maybe (section (row some_inputs))) xs → Fits xs → Good n (second_inputs xs) (Made (maybe (section (row some_inputs))))
  second_good shape.absent f = maybe_good (ih Inputs)
  second_good (shape.present (shape.section_of h)) f = ret (record { shaped = shape.present (shape.section_of h); fits = f })

  stub_good : Good n stub_end (Made (maybe (section (row a_statement))))
  stub_good = seq (maybe_good (body_section_good _)) (λ s h. seq closing (λ c u. ret h))

  pub process_row : Good n (rules Process) (Made top)
  unfolding rules
  process_row = skip (λ w. seq a_name_good (λ x f. skip (λ o. seq (in_series (ih Directive)) (λ ds g. seq (maybe_good (ih Inputs)) (λ xs h. seq (maybe_good (ih Outputs)) (λ ys i. seq (second_good h.shaped h.fits) (λ zs j. seq (ih Task) (λ t k. seq stub_good (λ s l. ret (record { shaped = shape.a_process f.shaped g.shaped j.shaped i.shaped k.shaped l.shaped; fits = (f.fits, g.fits, j.fits, i.fits, k.fits, l.fits) }))))))))))

  -- ---- workflows
  emit_good : Good n emit (Made an_emit)
  emit_good = arms
      (seq a_name_good (λ x f. skip (λ e. seq (expr_good 1 0) (λ v h. ret (record { shaped = shape.emit_assign f.shaped h.shaped; fits = (f.fits, h.fits) })))))
      (weaker (λ v h. record { shaped = shape.emit_alone h.shaped; fits = h.fits }) (expr_good 1 0))

  pub parts_row : Good n (rules Parts) (Made inside)
  unfolding rules
  parts_row = seq (maybe_good (headed_good (sectioned (in_series a_name_good)))) (λ t f. seq (body_section_good _) (λ b g. seq (maybe_good (headed_good (sectioned (in_series emit_good)))) (λ e h. ret (record { shaped = shape.some_parts f.shaped g.shaped h.shaped; fits = (f.fits, g.fits, h.fits) }))))

  pub workflow_row : Good n (rules Workflow) (Made top)
  unfolding rules
  workflow_row = skip (λ w. seq (either_of (weaker (λ v h. present_made h) a_name_good) absent_made) (λ x f. seq (skip (λ o. enclosed (arms (weaker (λ v h. record { shaped = shape.only_statements h.shaped; fits = h.fits }) (ih (Body 1))) (ih Parts)))) (λ b g. ret (record { shaped = shape.a_workflow f.shaped g.shaped; fits = (f.fits, g.fits) }))))

  -- ---- other tops
  pub function_row : Good n (rules Function) (Made top)
  unfolding rules
  function_row = skip (λ w. seq a_name_good (λ x f. skip (λ o. seq (either_of (all_listed a_name_good) none_made) (λ ps g. skip (λ c. seq (skip (λ o. enclosed (ih (Body 1)))) (λ b h. ret (record { shaped = shape.a_function f.shaped g.shaped h.shaped; fits = (f.fits, g.fits, h.fits) })))))))

  parameter_good : Good n parameter (Made top)
  parameter_good = skip (λ w. skip (λ o. seq a_name_good (λ x f. skip (λ e. seq (expr_good 0 0) (λ v h. ret (record { shaped = shape.a_parameter f.shaped h.shaped; fits = (name_tree f, h.fits) }))))))

  pub top_row : Good n (rules Top) (Made top)
  unfolding rules
  top_row = arms (ih Process) (arms (ih Workflow) (arms (ih Function) (arms parameter_good (arms
      (skip (λ w. seq (expr_good 0 0) (λ v h. ret (record { shaped = shape.a_println h.shaped; fits = h.fits }))))
      (arms
      (skip (λ w. skip (λ o. seq a_name_good (λ x f. seq (expr_good 0 0) (λ v h. ret (record { shaped = shape.a_log f.shaped h.shaped; fits = (name_tree f, h.fits) }))))))
      (skip (λ w. skip (λ a. skip (λ x. skip (λ b. skip (λ y. skip (λ e. skip (λ k. ret (record { shaped = shape.a_dsl; fits = tt }))))))))))))))

  pub script_row : Good n (rules Script) (Made (row top))
  unfolding rules
  script_row = seq skipped (λ s u. in_series (ih Top))
