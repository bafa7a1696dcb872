use Rattle.std.proofs.Common.{◌≡◌, ◌∙◌, ap, rules}
use Rattle.nf_placed.specs.Scope.{Env, with_names, inside}
use Rattle.nf_eval.specs.declared.around.Around.{the_lemmas}
use Rattle.nf_eval.specs.Latest.{names_of}
use Rattle.nf_eval.specs.Functions.{definitions_in, called_env}
use Rattle.nf_eval.specs.Memory.{seen}
use Rattle.nf_eval.proofs.around.+handed_in.Goals as goal

pub returns-in-Body : goal.returns-in-Body
returns-in-Body t c titles answer =
    let is : seen c.args.around.now titles answer ≡ with_names (names_of c.in-Body.field-0.now) (inside (seen c.in-Body.outer.now titles answer)) = search (rules, the_lemmas) in
    let outer = c.handed_in.ensures titles answer in
    record {
      has_titles = ap (λ (e : Env). e.titles) is ∙ outer.has_titles;
      has_answer = ap (λ (e : Env). e.answer) is ∙ outer.has_answer;
    }

pub returns-in-Called : goal.returns-in-Called
returns-in-Called t c titles answer =
    let is : seen c.args.around.now titles answer ≡ called_env (definitions_in c.in-Called.field-0.now) (seen c.in-Called.field-1.now titles answer).patterns titles answer = search (rules, the_lemmas) in
    record { has_titles = ap (λ (e : Env). e.titles) is; has_answer = ap (λ (e : Env). e.answer) is }
