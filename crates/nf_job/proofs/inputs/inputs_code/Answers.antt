use Rattle.std.proofs.Common.{subst}
use Rattle.nf_value.specs.Plain.{list, plains_of}
use Rattle.nf_codec.specs.Whole.{IsWhole}
use Rattle.nf_job.proofs.Fits.{whole_fits}
use Rattle.nf_job.proofs.inputs.inputs_code.Goals as goal

pub returns-clause-fit : goal.returns-clause-fit
returns-clause-fit c = whole_fits (list (plains_of c.args.inputs.now)) (subst (λ vs. IsWhole (list (plains_of vs))) c.in_ok-copy.ensures c.in_ok-code.ensures.whole)
