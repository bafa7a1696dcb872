-- What statements and bodies do.
use Rattle.std.proofs.Common.{◌≡◌, ◌∙◌, ℕ, List, [], ◌∷◌, ◌++◌, ◌-◌, length, drop, Ok, Err, refl, sym, ap, subst, append_assoc}
use Rattle.std.specs.Prelude.{Result}
use mathlib.Core.List.{reverse}
use Rattle.std.proofs.lemmas.List.{append-nil, reverse-append}
use Rattle.nf_value.specs.Plain.{Plain, null}
use Rattle.nf_value.specs.View.{plain_of}
use Rattle.nf_value.specs.declared.place.Place.{Place}
use Rattle.nf_ast.specs.Tree as tree
use Rattle.nf_ast.specs.Tree.{Tree}
use Rattle.nf_placed.specs.Placed.{Placed, ◌>>=◌}
use Rattle.nf_placed.specs.Scope.{Env, with_names, inside, defined}
use Rattle.nf_placed.specs.Body.{Flow, going, returned, value_of_body, bound, with_all}
use Rattle.nf_eval.specs.declared.flow.Step.{Step}
use Rattle.nf_eval.specs.declared.flow.Step.TheVariants as step
use Rattle.nf_value.specs.declared.fault.EvalRefusal.{EvalRefusal}
use Rattle.nf_value.specs.declared.fault.EvalRefusal.TheVariants as refusal
use Rattle.nf_ast.specs.View.{trees}
use Rattle.nf_eval.specs.Evaluation.{meaning_of, body_of, left, next}
use Rattle.nf_eval.specs.Shapes.{block_of}
use Rattle.nf_eval.specs.Gives.{IsRefused, Flows, value_of_step}

pub all_named : (bs : List (List ℕ × Plain)) (env : Env) → with_all bs env ≡ with_names (reverse bs ++ env.names) env
all_named [] env = refl
all_named (b ∷ bs) env = all_named bs (defined b.0 b.1 env) ∙ ap (λ ns. with_names ns env) (sym (ap (λ l. l ++ env.names) (reverse-append (b ∷ []) bs) ∙ append_assoc (reverse bs) (b ∷ []) env.names))

-- a closure is its body in the names that it gets
pub applied_is : (p : Place) (ps b : Tree) (env : Env) (vs : List Plain) (bs ns : List (List ℕ × Plain)) → bound p ps vs ≡ Ok bs → ns ≡ reverse bs → block_of (tree.closure p ps b) env vs ≡ body_of b (with_names ns (inside env))
applied_is p ps b env vs bs ns h is = ap (λ (r : Placed (List (List ℕ × Plain))). r >>= λ ms. body_of b (with_all ms (inside env))) h ∙ ap (body_of b) (all_named bs (inside env) ∙ ap (λ ms. with_names ms (inside env)) (append-nil (reverse bs) ∙ sym is))

-- a block's own names end with it
pub block_flows : (b : Tree) (env : Env) (before inner after : List (List ℕ × Plain)) (s : Step) → Flows ((meaning_of b).body (with_names before env) null) (with_names inner env) (Ok s) → after ≡ drop (length inner - length before) inner → Flows ((meaning_of (tree.statements b)).done (with_names before env)) (with_names after env) (Ok s)
block_flows b env before inner after (step.Going v) h is = ap (λ (r : Placed Flow). r >>= λ f. Ok (left (with_names before env) f)) h ∙ ap (λ ns. Ok (going (with_names ns env) (plain_of v))) (sym is)
block_flows b env before inner after (step.Returned v) h is = ap (λ (r : Placed Flow). r >>= λ f. Ok (left (with_names before env) f)) h

-- the value of statements
pub body_value : (b : Tree) (before after : Env) (s : Step) → Flows ((meaning_of b).body before null) after (Ok s) → body_of b before ≡ Ok (plain_of (value_of_step s))
body_value b before after (step.Going v) h = ap (λ (r : Placed Flow). r >>= λ f. Ok (value_of_body f)) h
body_value b before after (step.Returned v) h = ap (λ (r : Placed Flow). r >>= λ f. Ok (value_of_body f)) h

pub flows_refused : (o p : Placed Flow) (env : Env) (r : EvalRefusal) (x : Result Step EvalRefusal) → x ≡ Err r → o ≡ p → IsRefused p r → Flows o env x
flows_refused o p env (refusal.Fault e) x is same h = subst (Flows o env) (sym is) (same ∙ h)
flows_refused o p env refusal.Mem x is same h = subst (Flows o env) (sym is) tt

pub block_refused : (b : Tree) (env : Env) (before after : List (List ℕ × Plain)) (r : EvalRefusal) (x : Result Step EvalRefusal) → x ≡ Err r → IsRefused ((meaning_of b).body (with_names before env) null) r → Flows ((meaning_of (tree.statements b)).done (with_names before env)) (with_names after env) x
block_refused b env before after (refusal.Fault e) x is h = subst (Flows ((meaning_of (tree.statements b)).done (with_names before env)) (with_names after env)) (sym is) (ap (λ (q : Placed Flow). q >>= λ f. Ok (left (with_names before env) f)) h)
block_refused b env before after refusal.Mem x is h = subst (Flows ((meaning_of (tree.statements b)).done (with_names before env)) (with_names after env)) (sym is) tt

-- ---- statements after one another

pub goes_on : (t : Tree) (ts : List Tree) (env after : Env) (last v : Plain) → (meaning_of t).done env ≡ Ok (going after v) → (meaning_of (trees (t ∷ ts))).body env last ≡ (meaning_of (trees ts)).body after v
goes_on t ts env after last v h = ap (λ (q : Placed Flow). q >>= next (meaning_of (trees ts)).body) h

pub returns_from : (t : Tree) (ts : List Tree) (env : Env) (last v : Plain) → (meaning_of t).done env ≡ Ok (returned v) → (meaning_of (trees (t ∷ ts))).body env last ≡ Ok (returned v)
returns_from t ts env last v h = ap (λ (q : Placed Flow). q >>= next (meaning_of (trees ts)).body) h

pub stops_at : (t : Tree) (ts : List Tree) (env : Env) (last : Plain) (r : EvalRefusal) → IsRefused ((meaning_of t).done env) r → IsRefused ((meaning_of (trees (t ∷ ts))).body env last) r
stops_at t ts env last (refusal.Fault e) h = ap (λ (q : Placed Flow). q >>= next (meaning_of (trees ts)).body) h
stops_at t ts env last refusal.Mem h = tt
