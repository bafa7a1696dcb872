-- How steps use the room of calls that were counted before.
use Rattle.std.specs.Prelude.{◌≡◌, ◌≤◌, ◌+◌, ℕ, length, OnOk, IfOk, Result}
use Rattle.nf_meaning.specs.declared.fault.LowerFault.{LowerFault}
use Rattle.nf_meaning.specs.CallPaths.{BodyCalls, GoesOn}
use Rattle.nf_plan.specs.declared.builder.PlanBuilder.{PlanBuilder}
use Rattle.nf_plan.specs.Plans.{ports_in}
use Rattle.nf_plan.specs.Runs.{RunsNodes}
use Rattle.nf_lowering.specs.declared.state.Lowering.{Lowering}
use Rattle.nf_lowering.specs.State.{IsLowering, calls_in}
use Rattle.nf_walked.specs.Steps.{Answers, Due, Known, Later, Point, StandsAt}

-- there is room for so many nodes and ports
pub record HasRoomFor (nodes ports : ℕ) (b : PlanBuilder) : Type 0 where
  pub room : length b.nodes.items + nodes ≤ b.sizes.nodes
  pub wide : ports_in b.nodes.items + ports ≤ b.sizes.ports

-- so many nodes and ports more were counted in between than were added
pub record LeavesRoom (nodes ports : ℕ) (old new : PlanBuilder) : Type 0 where
  pub room : length new.nodes.items + old.sizes.nodes + nodes ≤ length old.nodes.items + new.sizes.nodes
  pub wide : ports_in new.nodes.items + old.sizes.ports + ports ≤ ports_in old.nodes.items + new.sizes.ports

-- at most so many nodes and ports more were added in between than were counted
pub record UsesRoom (nodes ports : ℕ) (old new : PlanBuilder) : Type 0 where
  pub room : length new.nodes.items + old.sizes.nodes ≤ length old.nodes.items + new.sizes.nodes + nodes
  pub wide : ports_in new.nodes.items + old.sizes.ports ≤ ports_in old.nodes.items + new.sizes.ports + ports

-- what lies in memory is in order; the calls of the body go on; and that much room is used
pub record Uses (nodes ports : ℕ) (old new : Lowering) : Type 0 where
  pub keeps : IsLowering new
  pub calls : (s : BodyCalls) → GoesOn s (calls_in old) → GoesOn s (calls_in new)
  pub room : UsesRoom nodes ports old.plan new.plan
  pub within : new.within.items ≡ old.within.items

-- the step uses so much room, and is what is due
pub record Used {I A B : Type 0} (K : Known) (nodes ports : ℕ) (d : Due I A B) (old new : Lowering)
    (r : Result A LowerFault) : Type 0 where
  pub later : Later old.plan new.plan
  pub goes : OnOk r (Uses nodes ports old new)
  pub fits : IfOk r (d.form.Fits new.plan)
  pub follows : (p : Point) (y : I) → RunsNodes p.run new.plan.infos.items → StandsAt K p old → d.In p old y
      → Answers K d.form p new r (d.walk y)
