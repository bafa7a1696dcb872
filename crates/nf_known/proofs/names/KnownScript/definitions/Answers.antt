use Rattle.nf_known.proofs.names.KnownScript.definitions.Goals as goal

pub returns : goal.returns
returns g c given h = h.tops
