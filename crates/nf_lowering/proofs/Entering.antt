-- Into the body of a workflow.
use Rattle.std.specs.Prelude.{String, codes, string_bytes}
use Rattle.std.proofs.Common.{◌≡◌, ◌∙◌, ℕ, List, [], ◌∷◌, ◌++◌, Some, map, refl, sym, ap, subst}
use Rattle.std.specs.Global.{Global}
use Rattle.std.specs.HashSet.{HashSet, IsEmpty}
use Rattle.nf_meaning.specs.CallPaths.{BodyCalls, HasNoPath, PathsAreCalled, inside}
use Rattle.nf_meaning.specs.Script.{bound, inner_scope, take_in}
use Rattle.nf_meaning.specs.Walk.{State}
use Rattle.nf_scopes.specs.declared.things.Thing.{Thing}
use Rattle.nf_scopes.specs.Held.{Holds}
use Rattle.nf_scopes.specs.Standing.{BeginsWith}
use Rattle.nf_scopes.specs.Tables.{Table, TableStands, held}
use Rattle.nf_plan.specs.declared.builder.PlanBuilder.{PlanBuilder}
use Rattle.nf_plan.specs.Plans.{IsPlan}
use Rattle.nf_plan.specs.Runs.{PlanStands, bags_of}
use Rattle.nf_lowering.specs.declared.state.Lowering.{Lowering}
use Rattle.nf_lowering.specs.State.{IsLowering, calls_in, process_paths}
use Rattle.nf_lowering.specs.Workflows.{EntersBody, TableReads}
use Rattle.nf_lowering.proofs.Opening.{empty_stands, none_called, nothing_held}
use Rattle.nf_lowering.proofs.Planned.{plan_scope}

-- what was laid aside, and what is there in its place
pub record Begun (n : List ℕ) (es : Table) (old new : Lowering) : Type 0 where
  pub plan : new.plan ≡ old.plan
  pub names : BeginsWith es new.names
  pub holds : (m : List ℕ) (t : Thing) → Holds new.names m t → held m es ≡ Some t
  pub called : IsEmpty new.called
  pub calls : new.calls.entries ≡ []
  pub path : new.path ≡ old.path ++ n ++ codes ":"
  pub within : new.within.items ≡ n ∷ old.within.items

abbrev pub keys_of : {S : Type 0} → HashSet (String Global) S → List (String Global)
keys_of s = s.keys

abbrev calls_with : List ℕ → List (String Global) → PlanBuilder → BodyCalls
calls_with p ks b = record { path = p; called = map string_bytes ks; paths = process_paths b.infos.items }

pub begun_calls : (n : List ℕ) (es : Table) (old new : Lowering) → Begun n es old new → calls_in new ≡ inside n (calls_in old)
begun_calls n es old new h =
    ap (λ p. calls_with p new.called.keys new.plan) h.path ∙ ap (λ ks. calls_with (old.path ++ n ++ codes ":") ks new.plan) h.called
    ∙ ap (λ (b : PlanBuilder). calls_with (old.path ++ n ++ codes ":") [] b) h.plan

-- the law of the paths in the body of a workflow
abbrev pub PathsInside : Type 0
PathsInside = (s : BodyCalls) (n : List ℕ) → HasNoPath s n → PathsAreCalled (inside n s)

pub begun_keeps : PathsInside → (n : List ℕ) (es : Table) (old new : Lowering) → IsLowering old → HasNoPath (calls_in old) n → TableReads old.plan es → Begun n es old new → IsLowering new
begun_keeps law n es old new k fresh reads h = record {
  plan = subst (λ (b : PlanBuilder). IsPlan b) (sym h.plan) k.plan;
  names = λ m t e. subst (λ (b : PlanBuilder). TableReads b es) (sym h.plan) reads m t (h.holds m t e);
  calls = λ m t e. nothing_held new.calls.entries m t h.calls e;
  free = subst PathsAreCalled (sym (begun_calls n es old new h)) (law (calls_in old) n fresh);
}

pub begun_stands : (n : List ℕ) (es : Table) (old new : Lowering) → Begun n es old new → EntersBody n es old new
begun_stands n es old new h braces x s body cs stands table =
    let t : State = record s { scope = inner_scope n body cs s.scope } in
    let there : TableStands (bags_of x new.plan) es (bound (take_in body) cs) =
    subst (λ (b : PlanBuilder). TableStands (bags_of x b) es (bound (take_in body) cs)) (sym h.plan) table in
    record {
      plan = subst (λ (b : PlanBuilder). PlanStands x b t) (sym h.plan) (plan_scope x old.plan s t refl refl refl stands.plan);
      names = h.names (bags_of x new.plan) t.scope refl refl there;
      called = none_called new.called h.called;
      calls = empty_stands (bags_of x new.plan) new.calls.entries h.calls;
      path = h.path ∙ ap (λ p. p ++ n ++ codes ":") stands.path;
      within = h.within ∙ ap (λ ns. n ∷ ns) stands.within;
    }
