use Rattle.nf_walked.proofs.bindings.parts_of.Goals as goal

pub returns-in-Err : goal.returns-in-Err
returns-in-Err c = c.fault_before_run.ensures _ c.in-Err.ensures
