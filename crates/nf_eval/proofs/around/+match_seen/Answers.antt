use Rattle.std.proofs.Common.{◌≡◌, ap, sym, subst, rules, ℕ, List}
use Rattle.std.specs.Prelude.{if◌then◌else◌}
use Rattle.nf_value.specs.Plain.{Plain}
use Rattle.nf_value.specs.View.{plain_of}
use Rattle.nf_value.specs.declared.fault.EvalKind.TheVariants.{WrongKind}
use Rattle.nf_builtins.specs.Natives.{is_among}
use Rattle.nf_infix.specs.Compare.{matches}
use Rattle.nf_placed.specs.Placed.{Evaluates, made, fault}
use Rattle.nf_placed.specs.Scope.{Env, with_names, inside}
use Rattle.nf_eval.specs.declared.around.Around.{the_lemmas}
use Rattle.nf_eval.specs.Latest.{names_of}
use Rattle.nf_eval.specs.Functions.{definitions_in, called_env}
use Rattle.nf_eval.specs.Memory.{seen}
use Rattle.nf_eval.proofs.around.+match_seen.Goals as goal

pub returns-in-Body : goal.returns-in-Body
returns-in-Body t c titles answer =
    let is : seen c.args.around.now titles answer ≡ with_names (names_of c.in-Body.field-0.now) (inside (seen c.in-Body.outer.now titles answer)) = search (rules, the_lemmas) in
    let same : (seen c.in-Body.outer.now titles answer).patterns ≡ (seen c.args.around.now titles answer).patterns = ap (λ (e : Env). e.patterns) (sym is) in
    subst (λ (ps : List (List ℕ)). Evaluates (if is_among c.args.text.now ps then made c.args.place (matches (plain_of c.args.value.now) c.args.text.now) else fault {A = Plain} WrongKind c.args.place) c.match_seen.result) same (c.match_seen.ensures titles answer)

pub returns-in-Called : goal.returns-in-Called
returns-in-Called t c titles answer =
    let is : seen c.args.around.now titles answer ≡ called_env (definitions_in c.in-Called.field-0.now) (seen c.in-Called.outer.now titles answer).patterns titles answer = search (rules, the_lemmas) in
    let same : (seen c.in-Called.outer.now titles answer).patterns ≡ (seen c.args.around.now titles answer).patterns = ap (λ (e : Env). e.patterns) (sym is) in
    subst (λ (ps : List (List ℕ)). Evaluates (if is_among c.args.text.now ps then made c.args.place (matches (plain_of c.args.value.now) c.args.text.now) else fault {A = Plain} WrongKind c.args.place) c.match_seen-in-Called.result) same (c.match_seen-in-Called.ensures titles answer)
