use Rattle.std.proofs.Common.{ap, ◌∙◌}
use Rattle.nf_host.proofs.mem_host.MemHostHost.append.Goals as goal

pub returns-in_err-append-clause-others : goal.returns-in_err-append-clause-others
returns-in_err-append-clause-others c = λ q other. ap (λ h. h q) c.in_err-append.ensures.err

pub returns-clause-others : goal.returns-clause-others
returns-clause-others c = λ q other. ap (λ h. h q) c.in_ok-append.ensures.ok ∙ rw other
