-- Where what lowering has in memory stands for a state of the walk through a script.
use Rattle.std.specs.Prelude.{◌≡◌, ℕ, Bool, true, false, List, [], ◌∷◌, ◌++◌, map, string_bytes, Some, Result}
use Rattle.std.specs.HashSet.{contains_text}
use Rattle.nf_builtins.specs.Natives.{is_among}
use Rattle.nf_graph.specs.declared.port.Port.{Port}
use Rattle.nf_plan.specs.NodeInfo.{NodeInfo}
use Rattle.nf_meaning.specs.declared.fault.LowerFault.{LowerFault}
use Rattle.nf_meaning.specs.CallPaths.{BodyCalls, PathsAreCalled}
use Rattle.nf_meaning.specs.Stands.{StandsFor, ThingStands}
use Rattle.nf_meaning.specs.Things as meaning
use Rattle.nf_meaning.specs.Things.{Channel}
use Rattle.nf_meaning.specs.Walk.{State}
use Rattle.nf_scopes.specs.declared.things.Thing.{Thing}
use Rattle.nf_scopes.specs.Held.{Holds}
use Rattle.nf_scopes.specs.Standing.{NamesStand}
use Rattle.nf_scopes.specs.Tables.{TableStands, held}
use Rattle.nf_scopes.specs.Things.{thing_of}
use Rattle.nf_plan.specs.declared.builder.PlanBuilder.{PlanBuilder}
use Rattle.nf_plan.specs.declared.plan.Plan.{Plan}
use Rattle.nf_plan.specs.Plans.{IsPlan, is_process}
use Rattle.nf_plan.specs.Runs.{Run, PlanStands, bags_of}
use Rattle.nf_follows.specs.Lowers.{Kind, Lowers, Owed}
use Rattle.nf_follows.specs.Things.{PortReads, ThingReads}
use Rattle.nf_lowering.specs.declared.state.Lowering.{Lowering}

abbrev pub path_if : Bool → List ℕ → List (List ℕ)
path_if true n = n ∷ []
path_if false n = []

-- the paths of the plan's processes, in the order of its nodes
abbrev pub process_paths : List NodeInfo → List (List ℕ)
process_paths [] = []
process_paths (x ∷ xs) = path_if (is_process x.body) x.name ++ process_paths xs

-- the calls of the body at hand
abbrev pub calls_in : Lowering → BodyCalls
calls_in z = record {
  path = z.path;
  called = map string_bytes z.called.keys;
  paths = process_paths z.plan.infos.items;
}

-- What is known of it between two steps, whatever the script means: each thing that it holds reads its plan, and each
-- process of the plan that is called in the body at hand is of a name that is called there
pub record IsLowering (z : Lowering) : Type 0 where
  pub plan : IsPlan z.plan
  pub names : (n : List ℕ) (t : Thing) → Holds z.names n t → ThingReads z.plan (thing_of t)
  pub calls : (n : List ℕ) (t : Thing) → held n z.calls.entries ≡ Some t → ThingReads z.plan (thing_of t)
  pub free : PathsAreCalled (calls_in z)

-- ---- for a state of the walk

-- `braces` has the names that were bound in the braces around the innermost ones, the outermost first
pub record StandsIn (braces : List (List (List ℕ))) (x : Run) (z : Lowering) (s : State) : Type 0 where
  pub plan : PlanStands x z.plan s
  pub names : NamesStand (bags_of x z.plan) braces z.names s.scope
  pub called : (n : List ℕ) → contains_text z.called n ≡ is_among n s.scope.called
  pub calls : TableStands (bags_of x z.plan) z.calls.entries s.scope.calls
  pub path : z.path ≡ s.scope.path
  pub within : z.within.items ≡ s.scope.within

abbrev pub lowering : List (List (List ℕ)) → Kind Lowering
lowering braces = record { plan = λ z. z.plan; Stands = λ x a z s. StandsIn braces x z s }

-- a step of lowering, in whatever braces
abbrev pub Walks : {I A B : Type 0} → Owed I A B → Lowering → Lowering → Result A LowerFault → Type 0
Walks owed old new r = (braces : List (List (List ℕ))) → Lowers (lowering braces) owed old new r

-- ---- what goes in and comes out

abbrev pub Nothing : Run → PlanBuilder → Unit {0} → Type 0
Nothing x b y = Unit {0}

abbrev pub IsDone : Run → PlanBuilder → Unit {0} → Unit {0} → Type 0
IsDone x b v y = Unit {0}

-- a port for a channel
abbrev pub IsPort : Run → PlanBuilder → Port → Channel → Type 0
IsPort x b p c = PortReads b p × StandsFor (bags_of x b) p c

-- a thing in memory for one of the meaning
abbrev pub IsThing : Thing → Run → PlanBuilder → meaning.Thing → Type 0
IsThing t x b y = ThingReads b (thing_of t) × ThingStands (bags_of x b) (thing_of t) y

-- ---- where the walk ends

-- the plan is what was made
pub record IsFinished (made : PlanBuilder) (plan : Plan) : Type 0 where
  pub graph : plan.graph ≡ made.nodes.items
  pub infos : plan.infos ≡ made.infos
  pub views : plan.views ≡ made.views
  pub wants : plan.wants ≡ made.wants
