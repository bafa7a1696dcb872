use Rattle.std.proofs.Common.{◌∙◌, List, sym, ap}
use Rattle.std.specs.Prelude.{ℕ}
use Rattle.nf_builtins.specs.Natives.{is_among}
use Rattle.nf_placed.specs.Scope.{Env, names_in_scope}
use Rattle.nf_eval.specs.Memory.{env_of}
use Rattle.nf_names_used.specs.declared.uses.UseKind.{UseKind}
use Rattle.nf_names_bound.specs.Bound.{is_known}
use Rattle.nf_names_bound.proofs.bound.is_bound.Goals as goal

pub returns-in-Name : goal.returns-in-Name
returns-in-Name g c =
    let titles = g.N.Natives.titles c.args.natives.now in
    let answer = g.N.Natives.answer c.args.natives.now in
    let env : Env = env_of c.args.env.now titles answer in
    c.has_name.ensures titles answer ∙ ap (λ (n : List ℕ). is_among n (names_in_scope env)) c.as_str-text.ensures ∙ ap (λ (k : UseKind). is_known env k c.args.one.now.text) (sym c.in-Name.is)

pub returns-in-Pattern : goal.returns-in-Pattern
returns-in-Pattern g c =
    let titles = g.N.Natives.titles c.args.natives.now in
    let answer = g.N.Natives.answer c.args.natives.now in
    let env : Env = env_of c.args.env.now titles answer in
    c.has_pattern.ensures titles answer ∙ ap (λ (n : List ℕ). is_among n env.patterns) c.as_str-text.ensures ∙ ap (λ (k : UseKind). is_known env k c.args.one.now.text) (sym c.in-Pattern.is)
