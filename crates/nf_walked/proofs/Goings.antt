-- What goes on in memory from step to step.
use Rattle.std.proofs.Common.{Result, Ok, Err, OnOk, IfOk, refl, ◌∙◌}
use Rattle.nf_plan.specs.declared.builder.PlanBuilder.{PlanBuilder}
use Rattle.nf_lowering.specs.declared.state.Lowering.{Lowering}
use Rattle.nf_lowering.specs.State.{IsLowering}
use Rattle.nf_walked.specs.Steps.{Goes, Later}

pub later_same : (b : PlanBuilder) → Later b b
later_same b = record { extends = λ c h. h; runs = λ x h. h; reads = λ t h. h; stands = λ x t y r h. h }

pub later_again : (one two three : PlanBuilder) → Later one two → Later two three → Later one three
later_again one two three g h = record {
  extends = λ b k. h.extends b (g.extends b k);
  runs = λ x k. g.runs x (h.runs x k);
  reads = λ t r. h.reads t (g.reads t r);
  stands = λ x t y r k. h.stands x t y (g.reads t r) (g.stands x t y r k);
}

pub goes_same : (z : Lowering) → IsLowering z → Goes z z
goes_same z h = record { keeps = h; calls = λ s k. k; room = λ b k. k; within = refl }

pub goes_on : (one two three : Lowering) → Goes one two → Goes two three → Goes one three
goes_on one two three g h = record {
  keeps = h.keeps;
  calls = λ s k. h.calls s (g.calls s k);
  room = λ b k. h.room b (g.room b k);
  within = h.within ∙ g.within;
}

pub goes_after : {C E : Type 0} (one two three : Lowering) (r : Result C E) → Goes one two → OnOk r (Goes two three) → OnOk r (Goes one three)
goes_after one two three (Ok v) g h = goes_on one two three g h
goes_after one two three (Err e) g h = h

-- of any answer
pub anything : {A E : Type 0} (r : Result A E) → IfOk r (λ v. Unit {0})
anything (Ok v) = tt
anything (Err e) = tt
