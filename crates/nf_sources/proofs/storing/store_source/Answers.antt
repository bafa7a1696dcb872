use Rattle.std.proofs.Common.{refl}
use Rattle.nf_sources.proofs.Taken.{kept_same}
use Rattle.nf_sources.specs.Sources.{scratch_in}
use Rattle.nf_sources.proofs.storing.store_source.Goals as goal

pub returns-in_err-scratch-clause-kept : goal.returns-in_err-scratch-clause-kept
returns-in_err-scratch-clause-kept g c =
    let told = g.H.Host.files c.args.host.now in kept_same told told c.args.work.now (scratch_in c.args.work.now) refl
