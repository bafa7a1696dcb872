use Rattle.nf_steady.proofs.Parts.{run_from}
use Rattle.nf_steady.proofs.laws.runs_of_plans.Goals as goal

pub returns : goal.returns
returns g c = λ F n b z run plan. run_from F n b z run plan
