use Rattle.std.proofs.Common.{ap, ◌∙◌}
use Rattle.nf_host.proofs.mem_host.MemHostHost.clear_dir.Goals as goal

pub returns-in_err-clear-clause-others : goal.returns-in_err-clear-clause-others
returns-in_err-clear-clause-others c = λ q out. ap (λ h. h q) c.in_err-clear.ensures.err

pub returns-clause-others : goal.returns-clause-others
returns-clause-others c = λ q out. ap (λ h. h q) c.in_ok-clear.ensures.ok ∙ rw out
