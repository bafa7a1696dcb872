-- What the names of a body stand for after a step.
use Rattle.std.proofs.Common.{◌≡◌, ◌∙◌, ℕ, Bool, true, false, if◌then◌else◌, List, [], ◌∷◌, ◌++◌, Ok, refl, sym, ap, subst, inl, inr}
use Rattle.nf_builtins.specs.Natives.{is_among}
use Rattle.nf_graph.specs.Meaning.{Bags}
use Rattle.nf_meaning.specs.Stands.{ThingStands}
use Rattle.nf_meaning.specs.Things as meaning
use Rattle.nf_meaning.specs.Walk.{Scope, State, assigning, defining, entering, is_bound, leaving, put, replaced}
use Rattle.nf_scopes.specs.declared.names.BodyNames.{BodyNames}
use Rattle.nf_scopes.specs.declared.things.Thing.{Thing}
use Rattle.nf_scopes.specs.Held.{Holds, HoldsAlso, HoldsNoMore}
use Rattle.nf_scopes.specs.Standing.{HasBound, NamesStand}
use Rattle.nf_scopes.specs.Tables.{TableStands}
use Rattle.nf_scopes.specs.Things.{thing_of}
use Rattle.nf_plan.specs.Runs.{Run, bags_of}
use Rattle.nf_follows.specs.Lowers.{Lowers}
use Rattle.nf_follows.specs.Things.{ThingReads}
use Rattle.nf_lowering.specs.declared.state.Lowering.{Lowering}
use Rattle.nf_lowering.specs.State.{IsLowering, StandsIn, lowering}
use Rattle.nf_lowering.specs.Steps.{assigns, defines}
use Rattle.nf_lowering.proofs.Planned.{extends_same, plan_scope}

-- another scope of the same body, in which the same is called
pub record SameBody (s t : Scope) : Type 0 where
  pub path : t.path ≡ s.path
  pub within : t.within ≡ s.within
  pub called : t.called ≡ s.called
  pub calls : t.calls ≡ s.calls

module _ (s : State) (t : Scope) (same : SameBody s.scope t) where
  abbrev pub scoped : State
  scoped = record s { scope = t }

  pub scope_stands : (braces inner : List (List (List ℕ))) (x : Run) (old : Lowering) (names : BodyNames) → NamesStand (bags_of x old.plan) inner names t → StandsIn braces x old s
      → StandsIn inner x (record old { names = names }) scoped
  scope_stands braces inner x old names stand h = record {
    plan = plan_scope x old.plan s scoped refl refl refl h.plan;
    names = stand;
    called = λ n. h.called n ∙ ap (is_among n) (sym same.called);
    calls = subst (λ bs. TableStands (bags_of x old.plan) old.calls.entries bs) (sym same.calls) h.calls;
    path = h.path ∙ sym same.path;
    within = h.within ∙ sym same.within;
  }

-- ---- `def n = ..`, `n = ..`

-- what the names of a body owe a step that binds one
abbrev pub Binds : (List ℕ → meaning.Thing → Scope → Scope) → BodyNames → List ℕ → Thing → BodyNames → Type 0
Binds binding old n t new =
    (bags : Bags) (around : List (List (List ℕ))) (s : Scope) (u : meaning.Thing) → ThingStands bags (thing_of t) u → NamesStand bags around old s
    → NamesStand bags around new (binding n u s)

defined_same : (n : List ℕ) (u : meaning.Thing) (s : Scope) → SameBody s (defining n u s)
defined_same n u s = record { path = refl; within = refl; called = refl; calls = refl }

assigned_by : (n : List ℕ) (u : meaning.Thing) (s : Scope) (b : Bool)
    → SameBody s (if b then record s { own = replaced n u s.own } else record s { names = put n u s.names })
assigned_by n u s true = record { path = refl; within = refl; called = refl; calls = refl }
assigned_by n u s false = record { path = refl; within = refl; called = refl; calls = refl }

assigned_same : (n : List ℕ) (u : meaning.Thing) (s : Scope) → SameBody s (assigning n u s)
assigned_same n u s = assigned_by n u s (is_bound n s.own)

module _ (old : Lowering) (names : BodyNames) (n : List ℕ) (t : Thing) (braces : List (List (List ℕ))) where
  pub define_walks : Binds defining old.names n t names → Lowers (lowering braces) (defines n t) old (record old { names = names }) (Ok tt)
  define_walks law = record {
    extends = extends_same old.plan old.plan refl refl;
    follows = λ x a s y runs stands is. record {
      value = (tt, record s { scope = defining n y s.scope });
      is = refl;
      fits = record {
        stands = scope_stands s (defining n y s.scope) (defined_same n y s.scope) braces braces x old names (law (bags_of x old.plan) braces s.scope y is.1 stands.names) stands;
        out = tt;
      };
    };
  }

  pub assign_walks : Binds assigning old.names n t names → Lowers (lowering braces) (assigns n t) old (record old { names = names }) (Ok tt)
  assign_walks law = record {
    extends = extends_same old.plan old.plan refl refl;
    follows = λ x a s y runs stands is. record {
      value = (tt, record s { scope = assigning n y s.scope });
      is = refl;
      fits = record {
        stands = scope_stands s (assigning n y s.scope) (assigned_same n y s.scope) braces braces x old names (law (bags_of x old.plan) braces s.scope y is.1 stands.names) stands;
        out = tt;
      };
    };
  }

pub also_keeps : (old : Lowering) (names : BodyNames) (t : Thing) → IsLowering old → ThingReads old.plan (thing_of t) → HoldsAlso old.names t names → IsLowering (record old { names = names })
also_keeps old names t k reads also = record { plan = k.plan; names = by; calls = k.calls; free = record { called = k.free.called } }
  where
    by : (n : List ℕ) (u : Thing) → Holds names n u → ThingReads old.plan (thing_of u)
    by n u h = elim (also.each n u h) [
      | inl a ↦ k.names n u a
      | inr e ↦ subst (λ (w : Thing). ThingReads old.plan (thing_of w)) (sym e) reads
    ]

-- ---- braces

pub less_keeps : (old : Lowering) (names : BodyNames) → IsLowering old → HoldsNoMore old.names names → IsLowering (record old { names = names })
less_keeps old names k less = record { plan = k.plan; names = λ n u h. k.names n u (less.each n u h); calls = k.calls; free = record { called = k.free.called } }

abbrev pub Enters : BodyNames → BodyNames → Type 0
Enters old new =
    (bags : Bags) (around : List (List (List ℕ))) (s : Scope) → NamesStand bags around old s → NamesStand bags (around ++ s.defined ∷ []) new (entering s) × HasBound around s

pub enter_stands : (old : Lowering) (names : BodyNames) → Enters old.names names → (braces : List (List (List ℕ))) (x : Run) (s : State) → StandsIn braces x old s
    → StandsIn (braces ++ s.scope.defined ∷ []) x (record old { names = names }) (record s { scope = entering s.scope }) × HasBound braces s.scope
enter_stands old names law braces x s h =
    let both = law (bags_of x old.plan) braces s.scope h.names in (
      scope_stands s (entering s.scope) (record { path = refl; within = refl; called = refl; calls = refl }) braces (braces ++ s.scope.defined ∷ []) x old names both.0 h,
      both.1,
    )

abbrev pub Leaves : BodyNames → BodyNames → Type 0
Leaves old new =
    (bags : Bags) (around : List (List (List ℕ))) (before s : Scope) → HasBound around before → NamesStand bags (around ++ before.defined ∷ []) old s → NamesStand bags around new (leaving before s)

pub leave_stands : (old : Lowering) (names : BodyNames) → Leaves old.names names → (braces : List (List (List ℕ))) (x : Run) (before : Scope) (s : State) → HasBound braces before
    → StandsIn (braces ++ before.defined ∷ []) x old s → StandsIn braces x (record old { names = names }) (record s { scope = leaving before s.scope })
leave_stands old names law braces x before s bound h =
    scope_stands s (leaving before s.scope) (record { path = refl; within = refl; called = refl; calls = refl }) (braces ++ before.defined ∷ []) braces x old names
    (law (bags_of x old.plan) braces before s.scope bound h.names) h
