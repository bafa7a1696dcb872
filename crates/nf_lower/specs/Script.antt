-- What lowering of a whole script owes.
use Rattle.std.specs.Prelude.{◌≡◌, ℕ, List, [], map, Result, Ok, Err}
use Rattle.std.specs.Global.{Vec}
use Rattle.nf_ast.specs.Tops.{view_script}
use Rattle.nf_ast.specs.Tree.{Tree}
use Rattle.nf_ast.specs.declared.tops.Script.{Script}
use Rattle.nf_bodies.specs.Bodies.{rules_of}
use Rattle.nf_tasks.specs.Memory.{Program}
use Rattle.nf_lowered.specs.Given.{HasFault}
use Rattle.nf_meaning.specs.declared.fault.LowerFault.{LowerFault}
use Rattle.nf_meaning.specs.Given as given
use Rattle.nf_meaning.specs.Given.{Given, Outcomes}
use Rattle.nf_meaning.specs.Outside.{in_run}
use Rattle.nf_meaning.specs.Script.{meaning_of, wants_of}
use Rattle.nf_plan.specs.declared.builder.PlanBuilder.{PlanBuilder}
use Rattle.nf_plan.specs.declared.plan.Plan.{Plan}
use Rattle.nf_plan.specs.declared.want.Want.{Want}
use Rattle.nf_plan.specs.Plans.{IsPlan, name_in, want_of}
use Rattle.nf_plan.specs.Runs.{Run}
use Rattle.nf_plan.specs.Whole.{graph_meaning}
use Rattle.nf_found.specs.All.{found_of}
use Rattle.nf_library.specs.Patterns.{pattern_texts}
use Rattle.nf_library.specs.Shelves.{AreSplit}
use Rattle.nf_lowering.specs.State.{IsFinished}
use Rattle.nf_lower.specs.declared.outside.Outside.{Outside}

-- ---- what a script is lowered with

-- with these patterns that are built, and these that are too large
abbrev pub given_of : Script → Outside → Program → List (List ℕ) → List (List ℕ) → Given
given_of script outside program built large = record {
  tops = view_script script;
  params = outside.params.now;
  folder = outside.folder.now;
  found = map found_of outside.found.now;
  program = program;
  patterns = built;
  large = large;
  outcomes = λ path inputs number. [];
}

-- the same under outcomes of tasks
abbrev pub under : Outcomes → Given → Given
under o g = record g { outcomes = o }

-- Which of the script's patterns `regex` builds no clause says: there are those that it built, and those that are too
-- large for it, with which this holds
pub record OverPatterns (script : Tree) (holds : List (List ℕ) → List (List ℕ) → Type 0) : Type 0 where
  pub built : List (List ℕ)
  pub large : List (List ℕ)
  pub split : AreSplit (pattern_texts script) built large
  pub holds_of : holds built large

-- ---- plans

-- the run of a plan under outcomes: its nodes do what their bodies say
abbrev pub run_of : Program → Outcomes → PlanBuilder → Run
run_of n o b = record {
  program = n;
  rules = rules_of n b.infos.items;
  outcomes = λ i inputs number. o (name_in b.infos.items i) inputs number;
  by_path = o;
}

-- under all outcomes of its tasks the script means what the plan's graph means, and its sources read the plan's paths
pub record MeansScript (g : Given) (plan : Plan) : Type 0 where
  pub made : PlanBuilder
  pub is : IsFinished made plan
  pub plan_is : IsPlan made
  pub means : (o : Outcomes) → meaning_of (under o g) ≡ Ok (graph_meaning (run_of g.program o made) made)
  pub wants : wants_of g ≡ Ok (map want_of plan.wants.items)

-- a plan that means what the script means, or the fault that the script has under all outcomes
abbrev pub LowersTo : Given → Result Plan LowerFault → Type 0
LowersTo g (Ok plan) = MeansScript g plan
LowersTo g (Err e) = (o : Outcomes) → HasFault (meaning_of (under o g)) e

-- the paths that the script's sources read, or its fault, whatever files are found and whatever tasks give
abbrev pub WantsAll : Given → Result (Vec Want) LowerFault → Type 0
WantsAll g (Ok ws) = (found : List given.Found) (o : Outcomes) → wants_of (in_run g found o) ≡ Ok (map want_of ws.items)
WantsAll g (Err e) = (found : List given.Found) (o : Outcomes) → HasFault (meaning_of (in_run g found o)) e
