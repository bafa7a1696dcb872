use Rattle.std.proofs.Common.{◌≡◌, ◌∙◌, ℕ, List, [], map, ap}
use Rattle.std.specs.Prelude.{Option, None}
use Rattle.nf_value.specs.Plain.{Plain}
use Rattle.nf_ast.specs.declared.tops.Function.{Function as Code}
use Rattle.nf_builtins.specs.Natives.{is_among}
use Rattle.nf_eval.specs.Evaluation.{functions_of}
use Rattle.nf_eval.specs.Functions.{definition_of, definitions_in, function_of}
use Rattle.nf_eval.specs.Memory.{definition_names}
use Rattle.nf_eval.proofs.Known.{told, no_function_among, function_among, names-functions_of}
use Rattle.nf_eval.proofs.library.Library.has_function.Goals as goal

pub returns : goal.returns
returns c =
    let n = c.args.name.now in
    let answer : ℕ → List Plain → Option Plain = λ i vs. None in
    let ds = definitions_in c.deref.result.now in
    let fs = functions_of ds [] [] answer in
    let asked : c.is_some.result ≡ is_among n (map (λ f. f.name) fs) = told c.function_named.result _ _ c.is_some.result (is_among n (map (λ f. f.name) fs)) (c.function_named.ensures.found [] [] answer) c.is_some.ensures (no_function_among n fs) (λ f. function_among n fs (function_of (definition_of f.0.now) (definitions_in f.1.now) [] [] answer)) in
    asked ∙ ap (is_among n) (names-functions_of ds [] [] answer) ∙ ap (λ (code : List Code). is_among n (definition_names (definitions_in code))) c.deref.ensures.value
