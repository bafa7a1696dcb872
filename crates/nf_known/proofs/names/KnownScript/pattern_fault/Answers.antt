use Rattle.nf_known.proofs.names.KnownScript.pattern_fault.Goals as goal

pub returns : goal.returns
returns g c given h = c.fault.ensures given h.program.patterns
