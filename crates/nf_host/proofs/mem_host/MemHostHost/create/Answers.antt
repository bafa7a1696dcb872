use Rattle.std.proofs.Common.{ap, ◌∙◌}
use Rattle.nf_host.proofs.mem_host.MemHostHost.create.Goals as goal

pub returns-in_err-put-clause-others : goal.returns-in_err-put-clause-others
returns-in_err-put-clause-others c = λ q other. ap (λ h. h q) c.in_err-put.ensures.err

pub returns-clause-others : goal.returns-clause-others
returns-clause-others c = λ q other. ap (λ h. h q) c.in_ok-put.ensures.ok ∙ rw other
