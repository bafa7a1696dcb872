-- Where the walk through a script's entry ends.
use Rattle.std.proofs.Common.{◌≡◌, List, [], Ok, Err, refl, ap}
use Rattle.std.specs.Global.{Vec}
use Rattle.nf_tasks.specs.Memory.{Program}
use Rattle.nf_lowered.proofs.Joining.{fault_by}
use Rattle.nf_meaning.specs.declared.fault.LowerFault.{LowerFault}
use Rattle.nf_meaning.specs.Given.{Outcomes}
use Rattle.nf_meaning.specs.Script.{opening, state_of}
use Rattle.nf_meaning.specs.Things.{Output}
use Rattle.nf_meaning.specs.Walk.{Around, State, Walk}
use Rattle.nf_scopes.specs.declared.things.CallOutput.{CallOutput}
use Rattle.nf_plan.specs.declared.builder.PlanBuilder.{PlanBuilder}
use Rattle.nf_plan.specs.declared.plan.Plan.{Plan}
use Rattle.nf_plan.specs.Runs.{PlanStands, Run, RunsNodes}
use Rattle.nf_plan.specs.Whole.{graph_meaning}
use Rattle.nf_lowering.specs.declared.state.Lowering.{Lowering}
use Rattle.nf_lowering.specs.State.{IsFinished, StandsIn}
use Rattle.nf_walked.specs.Forms.{outputs}
use Rattle.nf_walked.specs.Steps.{Known, Point, StandsAt, Walked, due}
use Rattle.nf_lower.specs.Entry.{KnownUnder, Plans}
use Rattle.nf_lower.specs.Script.{run_of}

-- the run of a plan goes by its nodes
pub runs_nodes : (n : Program) (o : Outcomes) (b : PlanBuilder) → RunsNodes (run_of n o b) b.infos.items
runs_nodes n o b = record {
  answers = λ i v h. refl;
  jobs = λ i inputs number attempt h. refl;
  amounts = λ i inputs attempt r h. refl;
  reports = λ i inputs number h. refl;
}

-- in every run for which a plan stands for the state of the walk, its graph means what is meant there
abbrev pub PlansMean : Type 0
PlansMean = (x : Run) (b : PlanBuilder) (s : State) → PlanStands x b s → graph_meaning x b ≡ s.meant

module _ (K : Known) (w : Walk (List Output)) (old : Lowering) (begins : (x : Run) → StandsIn [] x old opening) where
  abbrev start : Program → Outcomes → Around → PlanBuilder → Point
  start n o a b = record { run = run_of n o b; around = a; braces = []; state = opening }

  begun : (n : Program) (o : Outcomes) (a : Around) (b : PlanBuilder) → KnownUnder K n o a → StandsAt K (start n o a b) old
  begun n o a b known = record { body = begins (run_of n o b); around = known b }

  pub plan_fails : (new : Lowering) (e : LowerFault) → Walked K (due outputs w) old new (Err e) → Plans K w (Err e)
  plan_fails new e step n o a known =
      fault_by (w a opening) (state_of (w a opening)) e (λ k. ap state_of k)
      (step.follows (start n o a new.plan) tt (runs_nodes n o new.plan) (begun n o a new.plan known) tt)

  pub plan_ends : (new : Lowering) (os : Vec CallOutput) (plan : Plan) → PlansMean → Walked K (due outputs w) old new (Ok os) → IsFinished new.plan plan → Plans K w (Ok plan)
  plan_ends new os plan means step finished = record {
    made = new.plan;
    is = finished;
    plan_is = step.goes.keeps.plan;
    ends = λ n o a known.
        (let it = step.follows (start n o a new.plan) tt (runs_nodes n o new.plan) (begun n o a new.plan known) tt in
        record {
          value = it.value.1;
          is = ap state_of it.is;
          fits = record {
            meant = means (run_of n o new.plan) new.plan it.value.1 it.fits.stands.body.plan;
            wants = it.fits.stands.body.plan.wants;
          };
        });
  }
