use Rattle.std.proofs.Common.{[], ap, ◌∙◌}
use Rattle.std.specs.Prelude.{unwrap_or}
use Rattle.nf_value.specs.View.{plain_of}
use Rattle.nf_opjoin.specs.Listed.{paired_as, all_paired}
use Rattle.nf_opjoin.proofs.Listing.{all_paired-map}
use Rattle.nf_opjoin.proofs.Promised.{due_alike}
use Rattle.nf_opjoin.proofs.meeting.paired.Goals as goal

pub returns-in-Some : goal.returns-in-Some
returns-in-Some c = (let h = paired_as c.args.by_first c.args.first (plain_of c.args.keyed.now.key) c.args.keyed.now.rest in
    due_alike (λ t. t.items) (all_paired-map h c.items.result.now ∙ ap (all_paired h) c.items.ensures ∙ ap (λ o. all_paired h (unwrap_or o [])) c.in-Some.ensures.value) c.pairs_with.result c.pairs_with.ensures)
