-- What is due of the arguments that an operator takes.
use Rattle.nf_bag.specs.declared.rows.Row.{Row}
use Rattle.nf_meaning.specs.Taken as meaning
use Rattle.nf_plan.specs.Plans.{ReadPlan}
use Rattle.nf_plan.specs.Runs.{bags_of}
use Rattle.nf_plan.specs.declared.builder.PlanBuilder.{PlanBuilder}
use Rattle.nf_taken.specs.declared.taken.Taken.{Taken}
use Rattle.nf_taken.specs.Taken.{FitsClosing, IsTaken}
use Rattle.nf_walked.specs.Steps.{Form}

-- the ports read the plan, and the closure is one that the operator may have
pub record TakenFits (r : Row) (b : PlanBuilder) (x : Taken) : Type 0 where
  pub reads : ReadPlan b x.ports.items
  pub closing : FitsClosing r x.closing

-- what an operator took
abbrev pub a_taken : Row → Form Taken meaning.Taken
a_taken r = record { Fits = TakenFits r; Stands = λ x b v t. IsTaken x.program (bags_of x b) v t }
