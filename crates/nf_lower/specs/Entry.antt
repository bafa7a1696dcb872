-- The plan of a walk that begins where nothing is known, as it does at a script's entry.
use Rattle.std.specs.Prelude.{◌≡◌, List, map, Result, Ok, Err}
use Rattle.nf_tasks.specs.Memory.{Program}
use Rattle.nf_lowered.specs.Given.{HasFault, HasValue}
use Rattle.nf_meaning.specs.declared.fault.LowerFault.{LowerFault}
use Rattle.nf_meaning.specs.Given.{Outcomes}
use Rattle.nf_meaning.specs.Script.{opening, state_of}
use Rattle.nf_meaning.specs.Things.{Output}
use Rattle.nf_meaning.specs.Walk.{Around, State, Walk}
use Rattle.nf_plan.specs.declared.builder.PlanBuilder.{PlanBuilder}
use Rattle.nf_plan.specs.declared.plan.Plan.{Plan}
use Rattle.nf_plan.specs.Plans.{IsPlan, want_of}
use Rattle.nf_plan.specs.Whole.{graph_meaning}
use Rattle.nf_lowering.specs.State.{IsFinished}
use Rattle.nf_walked.specs.Steps.{Known}
use Rattle.nf_lower.specs.Script.{run_of}

-- what is around all bodies is known, whatever the plan
abbrev pub KnownUnder : Known → Program → Outcomes → Around → Type 0
KnownUnder K n o a = (b : PlanBuilder) → K (run_of n o b) a

-- where the walk ends, its meaning is that of the plan's graph, and its paths are the plan's
pub record EndsAs (n : Program) (o : Outcomes) (made : PlanBuilder) (s : State) : Type 0 where
  pub meant : graph_meaning (run_of n o made) made ≡ s.meant
  pub wants : map want_of made.wants.items ≡ s.wants

-- the plan is that of the walk
pub record IsPlanOf (K : Known) (w : Walk (List Output)) (plan : Plan) : Type 0 where
  pub made : PlanBuilder
  pub is : IsFinished made plan
  pub plan_is : IsPlan made
  pub ends : (n : Program) (o : Outcomes) (a : Around) → KnownUnder K n o a
      → HasValue (state_of (w a opening)) (EndsAs n o made)

-- the walk's plan, or its fault
abbrev pub Plans : Known → Walk (List Output) → Result Plan LowerFault → Type 0
Plans K w (Ok plan) = IsPlanOf K w plan
Plans K w (Err e) = (n : Program) (o : Outcomes) (a : Around) → KnownUnder K n o a → HasFault (state_of (w a opening)) e
