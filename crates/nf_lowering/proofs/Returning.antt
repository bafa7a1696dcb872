-- Back from the body of a workflow.
use Rattle.std.proofs.Common.{◌≡◌, ◌∙◌, ℕ, Bool, true, false, ◌||◌, List, [], ◌++◌, drop, refl, sym, ap, subst, ◌⊎◌, inl, inr}
use Rattle.std.specs.Prelude.{String, bytes_eq, string_bytes, map}
use Rattle.std.specs.Global.{Global}
use Rattle.std.specs.List.{list_any}
use Rattle.std.proofs.lemmas.List.Folds.{list_any-append}
use Rattle.nf_builtins.specs.Natives.{is_among}
use Rattle.nf_meaning.specs.CallPaths.{BodyCalls, EndsName, GoesOn, PathsAreCalled, Within, inside, is_plain_name}
use Rattle.nf_meaning.specs.Walk.{State}
use Rattle.nf_scopes.specs.declared.names.BodyNames.{BodyNames}
use Rattle.nf_scopes.specs.Held.{Holds}
use Rattle.nf_scopes.specs.Standing.{NamesStand}
use Rattle.nf_scopes.specs.Tables.{TableStands, held}
use Rattle.nf_scopes.specs.Things.{thing_of}
use Rattle.nf_scopes.proofs.Places.{entries_of}
use Rattle.nf_plan.specs.declared.builder.PlanBuilder.{PlanBuilder}
use Rattle.nf_plan.specs.Plans.{IsPlan}
use Rattle.nf_plan.specs.Runs.{Run, PlanStands, bags_of}
use Rattle.nf_follows.specs.Extends.{Extends}
use Rattle.nf_lowering.specs.declared.state.Lowering.{Lowering}
use Rattle.nf_lowering.specs.declared.workflows.Outer.{Outer}
use Rattle.nf_lowering.specs.State.{IsLowering, StandsIn, calls_in, process_paths}
use Rattle.nf_lowering.specs.Workflows.{ComesBack, WasCalled}
use Rattle.nf_lowering.proofs.Entering.{keys_of}
use Rattle.nf_lowering.proofs.Lasting.{ReadsOn, StandsOn, names_last, table_last}
use Rattle.nf_lowering.proofs.Planned.{plan_scope}

-- ---- the paths of calls

-- laws of paths
abbrev pub WorkflowGoes : Type 0
WorkflowGoes = (s : BodyCalls) (t : BodyCalls) (i : BodyCalls) (u : BodyCalls) (n : List ℕ) → GoesOn s t → is_plain_name n ≡ true → is_among n s.called ≡ false → is_among n t.called ≡ true
    → GoesOn (inside n t) i → u.path ≡ t.path → u.called ≡ t.called → u.paths ≡ i.paths → GoesOn s u

abbrev pub CalledLater : Type 0
CalledLater = (s : BodyCalls) (t : BodyCalls) → GoesOn s t → PathsAreCalled s → PathsAreCalled t

pub record PathLaws : Type 0 where
  pub more : (s : BodyCalls) (t : BodyCalls) → t.path ≡ s.path → t.paths ≡ s.paths → Within s.called t.called → GoesOn s t
  pub workflow : WorkflowGoes
  pub called : CalledLater

either_true : (b c : Bool) → (b || c) ≡ true → (b ≡ true) ⊎ (c ≡ true)
either_true true c e = inl refl
either_true false c e = inr e

among_either : (p : List ℕ) (ps qs : List (List ℕ)) → is_among p (ps ++ qs) ≡ true → (is_among p ps ≡ true) ⊎ (is_among p qs ≡ true)
among_either p ps qs e = either_true (is_among p ps) (is_among p qs) (sym (list_any-append (λ m. bytes_eq m p) ps qs) ∙ e)

never : {A : Type 0} → false ≡ true → A
never e = absurd (let f : false ≡ true = e in cc)

-- from a point of a body to that after the call of a workflow that is called there already
module _ (laws : PathLaws) (n : List ℕ) (t i u : BodyCalls) (free : PathsAreCalled t) (plain : is_plain_name n ≡ true) (begun : is_among n t.called ≡ true) (goes : GoesOn (inside n t) i)
    (path : u.path ≡ t.path) (called : u.called ≡ t.called) (paths : u.paths ≡ i.paths) where
  -- as if nothing were called yet
  abbrev bare : BodyCalls
  bare = record t { called = [] }

  from_bare : GoesOn bare u
  from_bare = laws.workflow bare t i u n (laws.more bare t refl refl (λ m e. never e)) plain refl begun goes path called paths

  -- the paths that came alone
  abbrev came : BodyCalls
  came = record u { paths = from_bare.added }

  abbrev none_yet : BodyCalls
  none_yet = record bare { paths = [] }

  came_goes : GoesOn none_yet came
  came_goes = record { path = from_bare.path; called = from_bare.called; added = from_bare.added; paths = refl; belong = from_bare.belong }

  came_called : PathsAreCalled came
  came_called = laws.called none_yet came came_goes (record { called = λ p m rest a plain ends is. never a })

  pub called_back : PathsAreCalled u
  called_back = record { called = by }
    where
      by : (p m rest : List ℕ) → is_among p u.paths ≡ true → is_plain_name m ≡ true → EndsName rest → p ≡ u.path ++ (m ++ rest) → is_among m u.called ≡ true
      by p m rest a name ends is = elim (among_either p t.paths from_bare.added (subst (λ ps. is_among p ps ≡ true) from_bare.paths a)) [
        | inl b ↦ subst (λ ns. is_among m ns ≡ true) (sym called) (free.called p m rest b name ends (is ∙ ap (λ q. q ++ (m ++ rest)) path))
        | inr b ↦ came_called.called p m rest b name ends is
      ]

-- ---- the step

-- what was laid aside is there again
pub record Restored (o : Outer) (old new : Lowering) : Type 0 where
  pub plan : new.plan ≡ old.plan
  pub names : new.names ≡ o.names
  pub called : new.called ≡ o.called
  pub calls : new.calls ≡ o.calls
  pub path : new.path ≡ o.path
  pub within : new.within.items ≡ drop 1 old.within.items

module _ (reading : ReadsOn) (standing : StandsOn) (laws : PathLaws) (n : List ℕ) (before old new : Lowering) (o : Outer) (k : IsLowering old) (h : Restored o old new) (w : WasCalled n before o old) where
  whole : Extends before.plan new.plan
  whole = subst (λ (b : PlanBuilder). Extends before.plan b) (sym h.plan) w.extends

  same_names : new.names ≡ before.names
  same_names = h.names ∙ w.aside.names

  same_entries : new.calls.entries ≡ before.calls.entries
  same_entries = ap entries_of (h.calls ∙ w.aside.calls)

  same_keys : new.called.keys ≡ before.called.keys
  same_keys = ap keys_of (h.called ∙ w.aside.called)

  restored_keeps : IsLowering new
  restored_keeps = record {
    plan = subst (λ (b : PlanBuilder). IsPlan b) (sym h.plan) k.plan;
    names = λ m t e. reading before.plan new.plan whole (thing_of t) (w.keeps.names m t (subst (λ (z : BodyNames). Holds z m t) same_names e));
    calls = λ m t e. reading before.plan new.plan whole (thing_of t) (w.keeps.calls m t (ap (held m) (sym same_entries) ∙ e));
    free = called_back laws n (calls_in before) (calls_in old) (calls_in new) w.keeps.free w.plain w.begun w.calls (h.path ∙ w.aside.path) (ap (λ (ks : List (String Global)). map string_bytes ks) same_keys)
        (ap (λ (b : PlanBuilder). process_paths b.infos.items) h.plan);
  }

  restored_stands : (braces inner : List (List (List ℕ))) (x : Run) (s t : State) → StandsIn braces x before s → StandsIn inner x old t → StandsIn braces x new (record t { scope = s.scope })
  restored_stands braces inner x s t first last = record {
    plan = subst (λ (b : PlanBuilder). PlanStands x b (record t { scope = s.scope })) (sym h.plan) (plan_scope x old.plan t (record t { scope = s.scope }) refl refl refl last.plan);
    names = subst (λ (z : BodyNames). NamesStand (bags_of x new.plan) braces z s.scope) (sym same_names)
        (names_last standing x before.plan new.plan whole braces before.names s.scope w.keeps.names first.names);
    called = λ m. ap (list_any (λ (q : String Global). bytes_eq m (string_bytes q))) same_keys ∙ first.called m;
    calls = subst (λ es. TableStands (bags_of x new.plan) es s.scope.calls) (sym same_entries)
        (table_last standing x before.plan new.plan whole before.calls.entries s.scope.calls w.keeps.calls first.calls);
    path = h.path ∙ w.aside.path ∙ first.path;
    within = h.within ∙ ap (drop 1) w.within ∙ first.within;
  }

pub restored_back : ReadsOn → StandsOn → PathLaws → (o : Outer) (old new : Lowering) → IsLowering old → Restored o old new → ComesBack o old new
restored_back reading standing laws o old new k h n before w = record {
  keeps = restored_keeps reading standing laws n before old new o k h w;
  stands = restored_stands reading standing laws n before old new o k h w;
}
