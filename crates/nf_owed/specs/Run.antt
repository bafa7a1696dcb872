-- A run of a script: a graph that means what the script means.
use Rattle.std.specs.Prelude.{◌&&◌, ℕ, suc, Bool, false, List, [], ◌∷◌, map, get_or, bytes_eq, if◌then◌else◌}
use Rattle.nf_value.specs.Plain.{Plain}
use Rattle.nf_value.specs.declared.place.Place.{Place}
use Rattle.nf_job.specs.declared.report.Report.{Report}
use Rattle.nf_tasks.specs.Memory.{Program}
use Rattle.nf_eval.specs.Evaluation.{nowhere}
use Rattle.nf_graph.specs.Rules.{Rules}
use Rattle.nf_graph.specs.Node.{PlainNode}
use Rattle.nf_graph.specs.Meaning as graph
use Rattle.nf_bodies.specs.declared.body.NodeInfo.{NodeInfo}
use Rattle.nf_bodies.specs.Bodies.{rules_of}
use Rattle.nf_meaning.specs.Given.{Outcomes}
use Rattle.nf_meaning.specs.Meaning.{ScriptMeaning}
use Rattle.nf_plan.specs.declared.builder.PlanBuilder.{PlanBuilder}
use Rattle.nf_plan.specs.Plans.{graph_of, is_process, name_in}
use Rattle.nf_plan.specs.Runs as plan
use Rattle.nf_plan.specs.Whole.{graph_meaning}

-- a node, as the script has it
pub record Named : Type 0 where
  -- the path of the process's call, or the name of the source or operator
  pub name : List ℕ
  -- where that name stands
  pub place : Place
  -- whether it is the call of a process
  pub is_task : Bool

pub record Run : Type 0 where
  pub graph : List PlainNode
  pub rules : Rules
  -- for each node of the graph
  pub names : List Named
  -- what the script means, for any outcomes of its tasks
  pub meaning : Outcomes → ScriptMeaning

-- past the last node stands a source
abbrev pub no_name : Named
no_name = record { name = []; place = nowhere; is_task = false }

abbrev pub name_at : Run → ℕ → Named
name_at run i = get_or run.names i no_name

-- ---- outcomes by nodes, and by the paths of calls

abbrev pub is_call_of : List ℕ → Named → Bool
is_call_of path x = x.is_task && bytes_eq x.name path

-- what is told of the call with this path; the first of these nodes stands at place i
abbrev pub told_from : graph.Outcomes → ℕ → List Named → List ℕ → List Plain → ℕ → List Report
told_from o i [] path inputs n = []
told_from o i (x ∷ xs) path inputs n =
    if is_call_of path x then o i inputs n else told_from o (suc i) xs path inputs n

-- the outcomes of nodes, by the paths of their calls
abbrev pub by_path : Run → graph.Outcomes → Outcomes
by_path run o path inputs n = told_from o 0 run.names path inputs n

-- ---- the run of a plan

abbrev pub named_of : NodeInfo → Named
named_of x = record { name = x.name; place = x.place; is_task = is_process x.body }

-- how it goes under outcomes of its tasks
abbrev pub goes_by : Program → PlanBuilder → Outcomes → plan.Run
goes_by n b o = record {
  program = n;
  rules = rules_of n b.infos.items;
  outcomes = λ i inputs number. o (name_in b.infos.items i) inputs number;
  by_path = o;
}

abbrev pub run_of : Program → PlanBuilder → Run
run_of n b = record {
  graph = graph_of b;
  rules = rules_of n b.infos.items;
  names = map named_of b.infos.items;
  meaning = λ o. graph_meaning (goes_by n b o) b;
}
