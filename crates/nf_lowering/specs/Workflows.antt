-- Calls of workflows: into the body of one, and back; and what a call gives.
use Rattle.std.specs.Prelude.{◌≡◌, ℕ, true, List, [], ◌∷◌, map, string_bytes, Some}
use Rattle.nf_builtins.specs.Natives.{is_among}
use Rattle.nf_ast.specs.Tree.{Tree}
use Rattle.nf_meaning.specs.CallPaths.{BodyCalls, GoesOn, inside, is_plain_name}
use Rattle.nf_meaning.specs.Calls as meaning_calls
use Rattle.nf_meaning.specs.Script.{bound, inner_scope, take_in}
use Rattle.nf_meaning.specs.Stands.{OutputsStand, PortOutput}
use Rattle.nf_meaning.specs.Things as meaning
use Rattle.nf_meaning.specs.Things.{Channel, Output}
use Rattle.nf_meaning.specs.Walk.{State}
use Rattle.nf_scopes.specs.declared.things.Thing.{Thing}
use Rattle.nf_scopes.specs.Tables.{Table, TableStands, held}
use Rattle.nf_scopes.specs.Things.{thing_of}
use Rattle.nf_plan.specs.declared.builder.PlanBuilder.{PlanBuilder}
use Rattle.nf_plan.specs.Runs.{Run, bags_of}
use Rattle.nf_follows.specs.Extends.{Extends}
use Rattle.nf_follows.specs.Lowers.{Owed}
use Rattle.nf_follows.specs.Things.{OutputsRead, ThingReads}
use Rattle.nf_lowering.specs.declared.state.Lowering.{Lowering}
use Rattle.nf_lowering.specs.declared.workflows.Outer.{Outer}
use Rattle.nf_lowering.specs.State.{IsLowering, IsThing, StandsIn, calls_in}

-- ---- into the body of a workflow

-- each thing of the table reads the plan
abbrev pub TableReads : PlanBuilder → Table → Type 0
TableReads b names = (n : List ℕ) (t : Thing) → held n names ≡ Some t → ThingReads b (thing_of t)

-- what the body of the call knows is laid aside
pub record IsAside (z : Lowering) (o : Outer) : Type 0 where
  pub names : o.names ≡ z.names
  pub called : o.called ≡ z.called
  pub calls : o.calls ≡ z.calls
  pub path : o.path ≡ z.path

-- In the body of the workflow n, which was called here: it knows the channels that it takes, by their names
abbrev pub EntersBody : List ℕ → Table → Lowering → Lowering → Type 0
EntersBody n names old new =
    (braces : List (List (List ℕ))) (x : Run) (s : State) (body : Tree) (cs : List Channel) → StandsIn braces x old s
    → TableStands (bags_of x old.plan) names (bound (take_in body) cs)
    → StandsIn [] x new (record s { scope = inner_scope n body cs s.scope })

-- ---- and back

-- the calls of the body that was laid aside, beside the paths of the script so far
abbrev pub calls_back : Outer → BodyCalls → BodyCalls
calls_back o s = record { path = o.path; called = map string_bytes o.called.keys; paths = s.paths }

-- the workflow n was called where `before` was known, which is laid aside; and z is known at the end of its body
pub record WasCalled (n : List ℕ) (before : Lowering) (o : Outer) (z : Lowering) : Type 0 where
  pub aside : IsAside before o
  pub keeps : IsLowering before
  pub plain : is_plain_name n ≡ true
  pub begun : is_among n (calls_in before).called ≡ true
  pub extends : Extends before.plan z.plan
  pub calls : GoesOn (inside n (calls_in before)) (calls_in z)
  pub within : z.within.items ≡ n ∷ before.within.items

-- back in the body of the call, whose scope is what it was before
pub record IsBack (before old new : Lowering) : Type 0 where
  pub keeps : IsLowering new
  pub stands : (braces inner : List (List (List ℕ))) (x : Run) (s t : State) → StandsIn braces x before s
      → StandsIn inner x old t → StandsIn braces x new (record t { scope = s.scope })

-- wherever the workflow was called
abbrev pub ComesBack : Outer → Lowering → Lowering → Type 0
ComesBack o old new = (n : List ℕ) (before : Lowering) → WasCalled n before o old → IsBack before old new

-- ---- what a call gives

-- the outputs read the plan, and stand for those of the call
pub record AreOutputs (x : Run) (b : PlanBuilder) (os : List PortOutput) (qs : List Output) : Type 0 where
  pub reads : OutputsRead b os
  pub stands : OutputsStand (bags_of x b) os qs

-- what the call of this name gave is known by its name in the rest of the body
abbrev pub gives_call : List ℕ → List PortOutput → Owed (List Output) Thing meaning.Thing
gives_call n os = record {
  In = λ x b qs. AreOutputs x b os qs;
  walk = meaning_calls.called_here n;
  Out = λ x b t y. IsThing t x b y;
}
