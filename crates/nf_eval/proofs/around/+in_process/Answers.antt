use Rattle.std.proofs.Common.{◌≡◌, ◌∙◌, ap, sym, rules}
use Rattle.nf_placed.specs.Scope.{with_names, inside}
use Rattle.nf_eval.specs.declared.around.Around.{the_lemmas}
use Rattle.nf_eval.specs.Latest.{names_of}
use Rattle.nf_eval.specs.Functions.{definitions_in, called_env}
use Rattle.nf_eval.specs.Memory.{seen}
use Rattle.nf_eval.proofs.around.+in_process.Goals as goal

pub returns-in-Body : goal.returns-in-Body
returns-in-Body t c titles answer =
    let is : seen c.args.around.now titles answer ≡ with_names (names_of c.in-Body.field-0.now) (inside (seen c.in-Body.outer.now titles answer)) = search (rules, the_lemmas) in
    let outer : c.in_process.result ≡ (seen c.in-Body.outer.now titles answer).in_process = c.in_process.ensures titles answer in
    outer ∙ ap (λ e. e.in_process) (sym is)

pub returns-in-Called : goal.returns-in-Called
returns-in-Called t c titles answer =
    let is : seen c.args.around.now titles answer ≡ called_env (definitions_in c.in-Called.field-0.now) (seen c.in-Called.field-1.now titles answer).patterns titles answer = search (rules, the_lemmas) in
    ap (λ e. e.in_process) (sym is)
