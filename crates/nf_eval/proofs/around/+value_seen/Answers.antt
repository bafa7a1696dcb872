use Rattle.std.proofs.Common.{◌≡◌, ◌∙◌, ℕ, List, [], ◌++◌, Option, ap, sym, rules}
use Rattle.std.specs.Result.{IfOk}
use Rattle.std.proofs.lemmas.Result.{IfOk-weaker}
use Rattle.std.proofs.lemmas.List.{append-nil}
use Rattle.nf_value.specs.Plain.{Plain}
use Rattle.nf_value.specs.View.{plain_of}
use Rattle.nf_placed.specs.Scope.{value_in, value_of, with_names, inside}
use Rattle.nf_eval.specs.declared.around.Around.{the_lemmas}
use Rattle.nf_eval.specs.Latest.{names_of}
use Rattle.nf_eval.specs.Functions.{definitions_in, called_env}
use Rattle.nf_eval.specs.Memory.{env_of, seen}
use Rattle.nf_eval.proofs.around.+value_seen.Goals as goal

pub returns-in-Some : goal.returns-in-Some
returns-in-Some t c =
    let n = c.args.name.now in
    let ns = names_of c.in-Whole.env.now.names in
    let v = c.in-Some.value.now in
    let is : (titles : List (List ℕ)) (answer : ℕ → List Plain → Option Plain) → seen c.args.around.now titles answer ≡ env_of c.in-Whole.env.now titles answer = λ titles answer. search (rules, the_lemmas) in
    let found : value_in n (ns ++ []) ≡ plain_of v = c.in-Some.ensures [] in
    let here : (titles : List (List ℕ)) (answer : ℕ → List Plain → Option Plain) → value_of n (seen c.args.around.now titles answer) ≡ plain_of v = λ titles answer. ap (value_of n) (is titles answer) ∙ ap (value_in n) (sym (append-nil ns)) ∙ found in
    IfOk-weaker c.copy.result (λ w. w ≡ v) _ (λ w e titles answer. here titles answer ∙ ap plain_of (sym e)) c.copy.ensures

pub returns-in-None : goal.returns-in-None
returns-in-None t c titles answer =
    let n = c.args.name.now in
    let ns = names_of c.in-Whole.env.now.names in
    let is : seen c.args.around.now titles answer ≡ env_of c.in-Whole.env.now titles answer = search (rules, the_lemmas) in
    ap (value_of n) is ∙ ap (value_in n) (sym (append-nil ns)) ∙ c.in-None.ensures []

pub returns-in-None-value : goal.returns-in-None-value
returns-in-None-value t c =
    let n = c.args.name.now in
    let is : (titles : List (List ℕ)) (answer : ℕ → List Plain → Option Plain) → seen c.args.around.now titles answer ≡ with_names (names_of c.in-Body.names.now) (inside (seen c.in-Body.outer.now titles answer)) = λ titles answer. search (rules, the_lemmas) in
    let outer = λ (titles : List (List ℕ)) (answer : ℕ → List Plain → Option Plain). seen c.in-Body.outer.now titles answer in
    let same : (titles : List (List ℕ)) (answer : ℕ → List Plain → Option Plain) → value_of n (seen c.args.around.now titles answer) ≡ value_of n (outer titles answer) = λ titles answer. ap (value_of n) (is titles answer) ∙ c.in-None-value.ensures ((outer titles answer).names ++ (outer titles answer).captured) in
    let found : IfOk c.value_seen.result (λ w. (titles : List (List ℕ)) (answer : ℕ → List Plain → Option Plain) → value_of n (outer titles answer) ≡ plain_of w) = c.value_seen.ensures in
    IfOk-weaker c.value_seen.result (λ w. (titles : List (List ℕ)) (answer : ℕ → List Plain → Option Plain) → value_of n (outer titles answer) ≡ plain_of w) _ (λ w h titles answer. same titles answer ∙ h titles answer) found

pub returns-in-Called : goal.returns-in-Called
returns-in-Called t c titles answer =
    let is : seen c.args.around.now titles answer ≡ called_env (definitions_in c.in-Called.field-0.now) (seen c.in-Called.field-1.now titles answer).patterns titles answer = search (rules, the_lemmas) in
    ap (value_of c.args.name.now) is
