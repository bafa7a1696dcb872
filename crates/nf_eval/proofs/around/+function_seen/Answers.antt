use Rattle.std.proofs.Common.{◌≡◌, sym, subst, rules}
use Rattle.std.specs.Prelude.{None, Some, MatchOption}
use Rattle.nf_placed.specs.Scope.{Env, function_in, with_names, inside}
use Rattle.nf_eval.specs.declared.around.Around.{the_lemmas}
use Rattle.nf_eval.specs.Latest.{names_of}
use Rattle.nf_eval.specs.Functions.{definition_of, definitions_in, function_of}
use Rattle.nf_eval.specs.Memory.{seen}
use Rattle.nf_eval.proofs.around.+function_seen.Goals as goal

pub returns-in-Body-clause-found : goal.returns-in-Body-clause-found
returns-in-Body-clause-found t c titles answer =
    let n = c.args.name.now in
    let is : seen c.args.around.now titles answer ≡ with_names (names_of c.in-Body.field-0.now) (inside (seen c.in-Body.outer.now titles answer)) = search (rules, the_lemmas) in
    subst (λ (e : Env). MatchOption c.function_seen.result (function_in n e.functions ≡ None) (λ f. function_in n e.functions ≡ Some (function_of (definition_of f.0.now) (definitions_in f.1.now) e.patterns titles answer))) (sym is) (c.function_seen.ensures.found titles answer)
