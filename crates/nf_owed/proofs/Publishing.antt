-- A run of which no report publishes a file publishes nothing.
use Rattle.std.proofs.Common.{◌≡◌, ℕ, List, [], length}
use Rattle.nf_value.specs.Plain.{Plain}
use Rattle.nf_job.specs.declared.report.Report.{Report}
use Rattle.nf_tasks.specs.Memory.{Program}
use Rattle.nf_bodies.specs.Bodies.{body_in, published_of}
use Rattle.nf_meaning.specs.Given.{Outcomes}
use Rattle.nf_plan.specs.declared.builder.PlanBuilder.{PlanBuilder}
use Rattle.nf_owed.specs.Run.{goes_by, run_of}
use Rattle.nf_owed.specs.Finished.{PublishesNone}
use Rattle.nf_owed.proofs.Meanings.{targets_to}

pub publishes_none : (n : Program) (b : PlanBuilder)
    → ((i : ℕ) (inputs : List Plain) (attempt : ℕ) (r : Report) → PublishesNone (published_of n (body_in b.infos.items i) inputs attempt r))
    → (o : Outcomes) → ((run_of n b).meaning o).targets ≡ []
publishes_none n b none o = targets_to (goes_by n b o) b none (length b.nodes.items)
