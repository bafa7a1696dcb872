-- What a call gave is kept by its name, in memory and in the walk.
use Rattle.std.proofs.Common.{◌≡◌, ◌∙◌, ℕ, Bool, true, false, if◌then◌else◌, List, ◌∷◌, Option, Some, Ok, bytes_eq, refl, sym, subst, ◌⊎◌, inl, inr}
use Rattle.nf_meaning.specs.Stands.{PortOutput, PortThing, results, ThingStands}
use Rattle.nf_meaning.specs.Things.{Output, outputs}
use Rattle.nf_meaning.specs.Walk.{State, calling}
use Rattle.nf_scopes.specs.declared.things.Thing.{Thing}
use Rattle.nf_scopes.specs.Tables.{Table, Puts, held}
use Rattle.nf_scopes.specs.Things.{thing_of}
use Rattle.nf_scopes.proofs.Named.{table_put}
use Rattle.nf_plan.specs.Runs.{Run, bags_of}
use Rattle.nf_follows.specs.Extends.{Extends}
use Rattle.nf_follows.specs.Lowers.{Lowers}
use Rattle.nf_follows.specs.Things.{OutputsRead, ThingReads}
use Rattle.nf_lowering.specs.declared.state.Lowering.{Lowering}
use Rattle.nf_lowering.specs.State.{IsLowering, StandsIn, lowering}
use Rattle.nf_lowering.specs.Nodes.{KeepsCall}
use Rattle.nf_lowering.specs.Workflows.{gives_call}
use Rattle.nf_lowering.proofs.Planned.{extends_same, plan_scope}

-- a thing of the new table was in the old one, or is the one that was put
put_by : (b : Bool) (t u : Thing) (o : Option Thing) → (if b then Some t else o) ≡ Some u → (o ≡ Some u) ⊎ (u ≡ t)
put_by true t u o e = inr (let f : t ≡ u = cc in sym f)
put_by false t u o e = inl e

held_put : (n : List ℕ) (t : Thing) (es es' : Table) → Puts n t es es' → (m : List ℕ) (u : Thing) → held m es' ≡ Some u → (held m es ≡ Some u) ⊎ (u ≡ t)
held_put n t es es' puts m u e = put_by (bytes_eq n m) t u (held m es) (sym (puts m) ∙ e)

-- what the call of this name gave is kept, and nothing else changes
module _ (old new : Lowering) (n : List ℕ) (given : PortThing) (others : new ≡ record old { calls = new.calls }) where
  pub kept_keeps : IsLowering old → ThingReads old.plan given → KeepsCall n given old new → IsLowering new
  kept_keeps k reads kept = subst IsLowering (sym others) (record { plan = k.plan; names = k.names; calls = by; free = record { called = k.free.called } })
    where
      by : (m : List ℕ) (u : Thing) → held m new.calls.entries ≡ Some u → ThingReads old.plan (thing_of u)
      by m u h = elim (held_put n kept.thing old.calls.entries new.calls.entries kept.puts m u h) [
        | inl a ↦ k.calls m u a
        | inr e ↦ subst (λ (t : Thing). ThingReads old.plan (thing_of t)) (sym e) (subst (ThingReads old.plan) (sym kept.is) reads)
      ]

  pub kept_reads : ThingReads old.plan given → (t : Thing) → thing_of t ≡ given → ThingReads new.plan (thing_of t)
  kept_reads reads t is = subst (λ (z : Lowering). ThingReads z.plan (thing_of t)) (sym others) (subst (ThingReads old.plan) (sym is) reads)

  pub kept_thing : (x : Run) (qs : List Output) → ThingStands (bags_of x old.plan) given (outputs qs) → (t : Thing) → thing_of t ≡ given → ThingStands (bags_of x new.plan) (thing_of t) (outputs qs)
  kept_thing x qs stands t is =
      subst (λ (z : Lowering). ThingStands (bags_of x z.plan) (thing_of t) (outputs qs)) (sym others)
      (subst (λ u. ThingStands (bags_of x old.plan) u (outputs qs)) (sym is) stands)

  -- the state of the walk after it
  abbrev pub kept_state : List Output → State → State
  kept_state qs s = record s { scope = calling n qs s.scope }

  pub kept_stands : (braces : List (List (List ℕ))) (x : Run) (s : State) (qs : List Output) → ThingStands (bags_of x old.plan) given (outputs qs) → KeepsCall n given old new → StandsIn braces x old s
      → StandsIn braces x new (kept_state qs s)
  kept_stands braces x s qs stands kept h = subst (λ (z : Lowering). StandsIn braces x z (kept_state qs s)) (sym others) (record {
    plan = plan_scope x old.plan s (kept_state qs s) refl refl refl h.plan;
    names = record { braces = h.names.braces; names = h.names.names };
    called = h.called;
    calls = table_put (bags_of x old.plan) n kept.thing (outputs qs) old.calls.entries new.calls.entries s.scope.calls ((n, outputs qs) ∷ s.scope.calls)
        (subst (λ u. ThingStands (bags_of x old.plan) u (outputs qs)) (sym kept.is) stands) kept.puts (λ m. refl) h.calls;
    path = h.path;
    within = h.within;
  })

-- ---- the step

pub kept_extends : (old new : Lowering) → new ≡ record old { calls = new.calls } → Extends old.plan new.plan
kept_extends old new others = subst (λ (z : Lowering). Extends old.plan z.plan) (sym others) (extends_same old.plan old.plan refl refl)

pub here_walks : (old new : Lowering) (n : List ℕ) (os : List PortOutput) → new ≡ record old { calls = new.calls } → KeepsCall n (results os) old new → (t : Thing) → thing_of t ≡ results os
    → OutputsRead old.plan os → (braces : List (List (List ℕ))) → Lowers (lowering braces) (gives_call n os) old new (Ok t)
here_walks old new n os others kept t is reads braces = record {
  extends = kept_extends old new others;
  follows = λ x a s qs runs stands y. record {
    value = (outputs qs, kept_state old new n (results os) others qs s);
    is = refl;
    fits = record {
      stands = kept_stands old new n (results os) others braces x s qs y.stands kept stands;
      out = (kept_reads old new n (results os) others reads t is, kept_thing old new n (results os) others x qs y.stands t is);
    };
  };
}
