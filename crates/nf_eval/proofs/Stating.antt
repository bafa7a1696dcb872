-- What each kind of statement does.
use Rattle.std.proofs.Common.{◌≡◌, ◌∙◌, ℕ, List, ◌++◌, Ok, Err, refl, sym, ap, subst}
use Rattle.std.specs.Prelude.{Some, Result}
use mathlib.Core.List.{reverse}
use Rattle.nf_value.specs.Plain.{Plain, null}
use Rattle.nf_value.specs.declared.place.Place.{Place}
use Rattle.nf_value.specs.declared.fault.EvalRefusal.{EvalRefusal}
use Rattle.nf_ast.specs.Tree as tree
use Rattle.nf_ast.specs.Tree.{Tree}
use Rattle.nf_placed.specs.Placed.{Placed, ◌>>=◌}
use Rattle.nf_placed.specs.Scope.{Env, with_names}
use Rattle.nf_placed.specs.Body.{Flow, going, names_in, split, with_all}
use Rattle.nf_eval.specs.declared.flow.Step.{Step}
use Rattle.nf_eval.specs.declared.flow.Step.TheVariants as step
use Rattle.nf_eval.specs.Evaluation.{meaning_of}
use Rattle.nf_eval.specs.Gives.{Flows, Takes}
use Rattle.nf_eval.proofs.Running.{all_named, flows_refused}

module _ (t e : Tree) (env : Env) (ns : List (List ℕ × Plain)) (v : Plain) where
  abbrev before : Env
  before = with_names ns env

  splits : (p : Place) (xs : Tree) → t ≡ tree.define_all p xs e → (meaning_of e).value before ≡ Ok v → (meaning_of t).done before ≡ (split p (names_in xs) v >>= λ bs. Ok (going (with_all bs before) null))
  splits p xs is h = ap (λ (s : Tree). (meaning_of s).done before) is ∙ ap (λ (r : Placed Plain). r >>= λ w. split p (names_in xs) w >>= λ bs. Ok (going (with_all bs before) null)) h

  pub splits_all : (p : Place) (xs : Tree) (bs new : List (List ℕ × Plain)) → t ≡ tree.define_all p xs e → (meaning_of e).value before ≡ Ok v → split p (names_in xs) v ≡ Ok bs → new ≡ reverse bs ++ ns → (meaning_of t).done before ≡ Ok (going (with_names new env) null)
  splits_all p xs bs new is h parts changed = splits p xs is h ∙ ap (λ (r : Placed (List (List ℕ × Plain))). r >>= λ cs. Ok (going (with_all cs before) null)) parts ∙ ap (λ (a : Env). Ok (going a null)) (all_named bs before ∙ ap (λ ms. with_names ms env) (sym changed))

-- an arm is taken
pub arm_flows : (all last : Placed Flow) (after : Env) (s : Step) → Takes all last after (Ok (Some s)) → Flows all after (Ok s)
arm_flows all last after (step.Going v) h = h
arm_flows all last after (step.Returned v) h = h

pub arms_refused : (all last : Placed Flow) (after : Env) (r : EvalRefusal) (x : Result Step EvalRefusal) → x ≡ Err r → Takes all last after (Err r) → Flows all after x
arms_refused all last after r x is h = flows_refused all all after r x is refl h

pub flows_on : (all last : Placed Flow) (after : Env) (x : Result Step EvalRefusal) → all ≡ last → Flows last after x → Flows all after x
flows_on all last after x is h = subst (λ (o : Placed Flow). Flows o after x) (sym is) h
