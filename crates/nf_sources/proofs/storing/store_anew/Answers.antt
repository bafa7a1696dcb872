use Rattle.std.proofs.Common.{◌≡◌, refl}
use Rattle.nf_shell.specs.Outputs.{stored_of}
use Rattle.nf_sources.proofs.Taken.{kept_same, kept_after, over_same}
use Rattle.nf_sources.proofs.storing.store_anew.Goals as goal

pub returns-in_err-store-clause-kept : goal.returns-in_err-store-clause-kept
returns-in_err-store-clause-kept g c =
    let told = g.H.Host.files c.args.host.now in kept_same told told c.args.work.now c.args.scratch.now refl

pub returns-in_err-make_dir-clause-kept : goal.returns-in_err-make_dir-clause-kept
returns-in_err-make_dir-clause-kept g c =
    kept_same (g.H.Host.files c.args.host.now) (g.H.Host.files c.make_dir.new.self) c.args.work.now c.args.scratch.now c.make_dir.ensures.same

pub returns-clause-kept : goal.returns-clause-kept
returns-clause-kept g c =
    kept_after (g.H.Host.files c.args.host.now) (g.H.Host.files c.make_dir.new.self) (g.H.Host.files c.store_file.new.host) c.args.work.now c.args.scratch.now c.make_dir.ensures.same c.store_file.ensures.kept

pub returns-clause-content : goal.returns-clause-content
returns-clause-content g c =
    over_same (g.H.Host.files c.args.host.now) (g.H.Host.files c.make_dir.new.self) c.store_file.result (λ f o. o ≡ stored_of (f c.args.path.now)) c.make_dir.ensures.same c.store_file.ensures.content
