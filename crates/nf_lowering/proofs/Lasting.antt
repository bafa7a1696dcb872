-- What the names of a body stand for still does after nodes are added behind.
use Rattle.std.proofs.Common.{◌≡◌, ℕ, List, [], ◌∷◌, ◌++◌, Option, Some, None, refl, inl, inr}
use Rattle.nf_meaning.specs.Stands.{PortThing, ThingStands}
use Rattle.nf_meaning.specs.Things.{Thing, thing_named}
use Rattle.nf_meaning.specs.Walk.{Scope}
use Rattle.nf_scopes.specs.declared.names.BodyNames.{BodyNames}
use Rattle.nf_scopes.specs.declared.things.Thing.{Thing as Stored}
use Rattle.nf_scopes.specs.Held.{OneHas, Holds}
use Rattle.nf_scopes.specs.Standing.{BlocksStand, NamesStand, tables_of}
use Rattle.nf_scopes.specs.Tables.{Names, Table, TableStands, FoundStands, held}
use Rattle.nf_scopes.specs.Things.{thing_of}
use Rattle.nf_plan.specs.declared.builder.PlanBuilder.{PlanBuilder}
use Rattle.nf_plan.specs.Runs.{Run, bags_of}
use Rattle.nf_follows.specs.Extends.{Extends}
use Rattle.nf_follows.specs.Things.{ThingReads}

-- the laws of things that read a plan
abbrev pub ReadsOn : Type 0
ReadsOn = (old : PlanBuilder) (new : PlanBuilder) → Extends old new → (t : PortThing) → ThingReads old t → ThingReads new t

abbrev pub StandsOn : Type 0
StandsOn = (x : Run) (old : PlanBuilder) (new : PlanBuilder) → Extends old new → (t : PortThing) (y : Thing) → ThingReads old t
    → ThingStands (bags_of x old) t y → ThingStands (bags_of x new) t y

module _ (law : StandsOn) (x : Run) (old new : PlanBuilder) (e : Extends old new) where
  found_last : (o : Option Stored) (p : Option Thing) → ((t : Stored) → o ≡ Some t → ThingReads old (thing_of t)) → FoundStands (bags_of x old) o p → FoundStands (bags_of x new) o p
  found_last None None reads h = tt
  found_last (Some t) (Some u) reads h = law x old new e (thing_of t) u (reads t refl) h
  found_last None (Some u) reads h = absurd h
  found_last (Some t) None reads h = absurd h

  pub table_last : (es : Table) (bs : Names) → ((n : List ℕ) (t : Stored) → held n es ≡ Some t → ThingReads old (thing_of t)) → TableStands (bags_of x old) es bs → TableStands (bags_of x new) es bs
  table_last es bs reads h n = found_last (held n es) (thing_named n bs) (reads n) (h n)

  blocks_last : (nss : List (List (List ℕ))) (ess : List Table) (own : Names) → ((n : List ℕ) (t : Stored) → OneHas ess n t → ThingReads old (thing_of t))
      → BlocksStand (bags_of x old) nss ess own → BlocksStand (bags_of x new) nss ess own
  blocks_last [] [] own reads h = h
  blocks_last [] (es ∷ ess) own reads h = absurd h
  blocks_last (ns ∷ nss) [] own reads h = absurd h
  blocks_last (ns ∷ nss) (es ∷ ess) own reads (inner, outer, is, names, table, rest) = (
    inner,
    outer,
    is,
    names,
    table_last es outer (λ n t k. reads n t (inl k)) table,
    blocks_last nss ess inner (λ n t k. reads n t (inr k)) rest,
  )

  pub names_last : (around : List (List (List ℕ))) (z : BodyNames) (s : Scope) → ((n : List ℕ) (t : Stored) → Holds z n t → ThingReads old (thing_of t))
      → NamesStand (bags_of x old) around z s → NamesStand (bags_of x new) around z s
  names_last around z s reads h = record {
    braces = blocks_last (around ++ s.defined ∷ []) (tables_of z) s.own (λ n t k. reads n t (inr k)) h.braces;
    names = table_last z.names.entries s.names (λ n t k. reads n t (inl k)) h.names;
  }
