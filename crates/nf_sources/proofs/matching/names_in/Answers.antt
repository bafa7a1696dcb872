use Rattle.std.proofs.Common.{ap, option_map}
use Rattle.nf_sources.proofs.Found.{listing_none}
use Rattle.nf_sources.proofs.matching.names_in.Goals as goal

pub returns-in-None-clause-content : goal.returns-in-None-clause-content
returns-in-None-clause-content g c =
    listing_none (g.H.Host.files c.args.host.now) c.args.folder.now _ c.new.result.items (ap (option_map (λ v. v.items)) c.in-None.is) c.new.ensures.items c.in_ok-names.ensures.content
