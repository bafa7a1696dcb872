-- The rules of what stands at the top of a script begin with rules of lower rank.
use Rattle.std.proofs.Common.{ℕ, Bool, false, List, arith, refl}
use Rattle.nf_value.specs.declared.place.Place.{Place}
use Rattle.nf_token.specs.declared.token.Lexeme.{Lexeme}
use Rattle.nf_grammar.specs.Gram.{either, rule, ◌>>=◌}
use Rattle.nf_ast.specs.Tree.{Tree, empty}
use Rattle.nf_exprs.specs.Level.{Process, Workflow, Function, Gram}
use Rattle.nf_exprs.specs.Rules.{past_separator, tops, parameter, dsl, small_top, process, sections, second_inputs, stub_end, directive, one_name, input, tuple_of, input_section, output_value, one_output, output_section, task, workflow, take_section, emit_section, workflow_parts, function}
use Rattle.nf_outcomes.proofs.Descends.{top, Descends, down_token, down_gives, down_after, down_first, down_second, down_either, down_where, down_many, down_taking, down_tokens, down_maybe, down_skips, down_sep, down_series, down_listed, down_closes, down_braced, down_round, down_body_section, down_body, down_token_expr}
use Rattle.nf_outcomes.proofs.Exprs.{down_args, down_template, down_names, down_label, down_assigned, down_print, down_log}

-- ---- scripts

pub down_script : Descends false 2 (past_separator >>= λ s. tops)
down_script = down_first down_skips (λ s. down_series (down_taking refl (omega arith)))

down_small_top : {b : Bool} {n : ℕ} → Descends b n small_top
down_small_top = down_either down_parameter (down_either (down_print 0) (down_either (down_log 0) down_dsl))
  where
    down_parameter : {b : Bool} {n : ℕ} → Descends b n parameter
    down_parameter = down_after (λ w. down_after (λ o. down_after (λ n. down_token_expr)))

    down_dsl : {b : Bool} {n : ℕ} → Descends b n dsl
    down_dsl = down_after (λ w. down_after (λ a. down_after (λ x. down_after (λ c. down_after (λ y. down_after (λ e. down_after (λ n. down_gives)))))))

pub down_top : {b : Bool} → Descends b 1 (either (rule Process) (either (rule Workflow) (either (rule Function) small_top)))
down_top = down_either (down_taking refl (omega arith)) (down_either (down_taking refl (omega arith)) (down_either (down_taking refl (omega arith)) down_small_top))

-- ---- processes

pub down_directive : {b : Bool} {n : ℕ} → Descends b n directive
down_directive = down_after (λ n. down_first (down_either (down_round (down_args (omega arith))) (down_maybe (down_where (down_taking refl (omega arith))))) (λ xs. down_gives))

pub down_input : {b : Bool} {n : ℕ} → Descends b n input
down_input = down_either (down_after (λ w. down_first down_name (λ n. down_gives))) (down_either (down_after (λ w. down_first down_name (λ n. down_gives))) (down_after (λ w. down_gives)))
  where
    down_name : Descends false top one_name
    down_name = down_either down_token (down_round down_token)

down_tuple : {b : Bool} {n : ℕ} {g : Gram} {c : List Lexeme → Bool} → Descends false top g → Descends b n (tuple_of g c)
down_tuple d = down_after (λ w. down_first (down_listed d d) (λ xs. down_gives))

pub down_inputs : {b : Bool} → Descends b 1 input_section
down_inputs = down_first down_tokens (λ w. down_first (down_series (down_either (down_taking refl (omega arith)) (down_tuple (down_taking refl (omega arith))))) (λ xs. down_gives))

down_output_value : {b : Bool} {n : ℕ} → Descends b n output_value
down_output_value = down_either down_token_expr (down_either down_token_expr (down_after (λ w. down_gives)))

pub down_output : {b : Bool} {n : ℕ} → Descends b n one_output
down_output = down_first (down_either down_output_value (down_tuple down_output_value)) (λ v. down_first (down_many (λ i x. down_second down_skips (λ c. down_first (down_label 1) (λ o. down_gives)))) (λ os. down_gives))

pub down_outputs : {b : Bool} → Descends b 1 output_section
down_outputs = down_first down_tokens (λ w. down_first (down_series (down_taking refl (omega arith))) (λ xs. down_gives))

pub down_task : {b : Bool} → Descends b 14 task
down_task = down_either (down_body_section _ (omega arith)) (down_sep (down_either down_token (down_template 1)))

down_stub_end : Descends false top stub_end
down_stub_end = down_first (down_maybe (down_body_section _ (omega arith))) (λ s. down_first down_closes (λ c. down_gives))

down_second_inputs : (xs : Tree) → Descends false top (second_inputs xs)
down_second_inputs empty = down_maybe (down_taking refl (omega arith))
down_second_inputs _ = down_gives

-- what stands in a process after its directives
down_sections : (p : Place) (n ds : Tree) → Descends false top (sections p n ds)
down_sections p n ds = down_first (down_maybe (down_taking refl (omega arith))) (λ xs. down_first (down_maybe (down_taking refl (omega arith))) (λ ys. down_first (down_second_inputs xs) (λ zs. down_first (down_taking refl (omega arith)) (λ t. down_first down_stub_end (λ s. down_gives)))))

pub down_process : {b : Bool} {n : ℕ} → Descends b n process
down_process = down_after (λ w. down_after (λ n. down_after (λ o. down_first (down_series (down_taking refl (omega arith))) (λ ds. down_sections _ n ds))))

-- ---- workflows and functions

pub down_workflow : {b : Bool} {n : ℕ} → Descends b n workflow
down_workflow = down_after (λ w. down_first (down_maybe down_token) (λ n. down_first (down_braced (down_either down_body (down_taking refl (omega arith)))) (λ x. down_gives)))

pub down_parts : {b : Bool} → Descends b 14 workflow_parts
down_parts = down_second (down_maybe down_take) (λ t. down_first (down_body_section _ (omega arith)) (λ x. down_first (down_maybe down_emit) (λ e. down_gives)))
  where
    down_take : Descends false 14 take_section
    down_take = down_first down_tokens (λ w. down_first (down_series down_token) (λ xs. down_gives))

    down_emit : Descends false 14 emit_section
    down_emit = down_first down_tokens (λ w. down_first (down_series (down_either (down_assigned 1) (down_taking refl (omega arith)))) (λ xs. down_gives))

pub down_function : {b : Bool} {n : ℕ} → Descends b n function
down_function = down_after (λ w. down_after (λ n. down_after (λ o. down_first (down_maybe down_names) (λ ps. down_after (λ c. down_first (down_braced down_body) (λ x. down_gives))))))
