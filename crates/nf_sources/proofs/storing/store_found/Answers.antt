use Rattle.nf_sources.proofs.Taken.{kept_same, kept_after, found_there, stored_anew, stands_there}
use Rattle.nf_sources.proofs.storing.store_found.Goals as goal

pub returns-in_err-is_there-clause-kept : goal.returns-in_err-is_there-clause-kept
returns-in_err-is_there-clause-kept g c =
    kept_same (g.H.Host.files c.args.host.now) (g.H.Host.files c.is_in_store.new.host) c.args.work.now c.args.scratch.now c.is_in_store.ensures.same

pub returns-then-is_there-clause-kept : goal.returns-then-is_there-clause-kept
returns-then-is_there-clause-kept g c =
    kept_same (g.H.Host.files c.args.host.now) (g.H.Host.files c.is_in_store.new.host) c.args.work.now c.args.scratch.now c.is_in_store.ensures.same

pub returns-then-is_there-clause-content : goal.returns-then-is_there-clause-content
returns-then-is_there-clause-content g c = found_there (g.H.Host.files c.args.host.now) c.args.path.now c.args.found

pub returns-then-is_there-clause-stored : goal.returns-then-is_there-clause-stored
returns-then-is_there-clause-stored g c =
    stands_there (g.H.Host.files c.args.host.now) (g.H.Host.files c.is_in_store.new.host) c.args.work.now c.args.found.digest.0 c.in_ok-is_there.is_there c.is_in_store.ensures.same c.if-is_there.true c.in_ok-is_there.ensures.content

pub returns-clause-kept : goal.returns-clause-kept
returns-clause-kept g c =
    kept_after (g.H.Host.files c.args.host.now) (g.H.Host.files c.is_in_store.new.host) (g.H.Host.files c.store_anew.new.host) c.args.work.now c.args.scratch.now c.is_in_store.ensures.same c.store_anew.ensures.kept

pub returns-clause-content : goal.returns-clause-content
returns-clause-content g c =
    stored_anew (g.H.Host.files c.args.host.now) (g.H.Host.files c.is_in_store.new.host) c.args.path.now c.args.found c.store_anew.result c.is_in_store.ensures.same c.store_anew.ensures.content
