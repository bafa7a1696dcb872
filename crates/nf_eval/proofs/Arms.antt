-- The arms of a choice.
use Rattle.std.proofs.Common.{◌≡◌, ◌∙◌, true, false, List, ◌∷◌, Ok, Err, sym, ap, subst}
use Rattle.std.specs.Prelude.{Option, Some, Result}
use Rattle.nf_value.specs.Plain.{Plain}
use Rattle.nf_value.specs.Truth.{truth_of}
use Rattle.nf_value.specs.declared.fault.EvalRefusal.{EvalRefusal}
use Rattle.nf_value.specs.declared.fault.EvalRefusal.TheVariants as refusal
use Rattle.nf_ast.specs.Tree as tree
use Rattle.nf_ast.specs.Tree.{Tree}
use Rattle.nf_ast.specs.View.{ArmTree, choice}
use Rattle.nf_placed.specs.Placed.{Placed, ◌>>=◌}
use Rattle.nf_placed.specs.Scope.{Env}
use Rattle.nf_placed.specs.Body.{Flow}
use Rattle.nf_eval.specs.declared.flow.Step.{Step}
use Rattle.nf_eval.specs.declared.flow.Step.TheVariants as step
use Rattle.nf_eval.specs.Evaluation.{meaning_of, chosen}
use Rattle.nf_eval.specs.Gives.{IsRefused, Flows, Takes}

-- a condition that is false, true, or has no value
pub passed_by : (x : ArmTree) (xs : List ArmTree) (last : Tree) (env : Env) (v : Plain) → (meaning_of x.condition).value env ≡ Ok v → truth_of v ≡ false → (meaning_of (choice (x ∷ xs) last)).done env ≡ (meaning_of (choice xs last)).done env
passed_by x xs last env v h is = ap (λ (r : Placed Plain). r >>= λ w. chosen (meaning_of (tree.statements x.body)).done (meaning_of (choice xs last)).done env (truth_of w)) h ∙ ap (chosen (meaning_of (tree.statements x.body)).done (meaning_of (choice xs last)).done env) is

pub gone_into : (x : ArmTree) (xs : List ArmTree) (last : Tree) (env : Env) (v : Plain) → (meaning_of x.condition).value env ≡ Ok v → truth_of v ≡ true → (meaning_of (choice (x ∷ xs) last)).done env ≡ (meaning_of (tree.statements x.body)).done env
gone_into x xs last env v h is = ap (λ (r : Placed Plain). r >>= λ w. chosen (meaning_of (tree.statements x.body)).done (meaning_of (choice xs last)).done env (truth_of w)) h ∙ ap (chosen (meaning_of (tree.statements x.body)).done (meaning_of (choice xs last)).done env) is

pub condition_refused : (x : ArmTree) (xs : List ArmTree) (last : Tree) (env : Env) (r : EvalRefusal) → IsRefused ((meaning_of x.condition).value env) r → IsRefused ((meaning_of (choice (x ∷ xs) last)).done env) r
condition_refused x xs last env (refusal.Fault e) h = ap (λ (q : Placed Plain). q >>= λ w. chosen (meaning_of (tree.statements x.body)).done (meaning_of (choice xs last)).done env (truth_of w)) h
condition_refused x xs last env refusal.Mem h = tt

-- what an arm that is taken comes to
pub takes_step : (all last o : Placed Flow) (env : Env) (s : Step) → all ≡ o → Flows o env (Ok s) → Takes all last env (Ok (Some s))
takes_step all last o env (step.Going v) is h = is ∙ h
takes_step all last o env (step.Returned v) is h = is ∙ h

pub takes_refused : (all last o : Placed Flow) (env : Env) (r : EvalRefusal) (x : Result (Option Step) EvalRefusal) → x ≡ Err r → all ≡ o → IsRefused o r → Takes all last env x
takes_refused all last o env (refusal.Fault e) x is same h = subst (Takes all last env) (sym is) (same ∙ h)
takes_refused all last o env refusal.Mem x is same h = subst (Takes all last env) (sym is) tt
