use Rattle.std.proofs.Common.{[], ◌∷◌, ◌∙◌, ap}
use Rattle.nf_value.specs.View.{plain_of}
use Rattle.nf_pairs.specs.Pairs.{put as put_of}
use Rattle.nf_pairs.proofs.Putting.{put_rises}
use Rattle.nf_pairs.proofs.put.with_pair.Goals as goal

pub of-requires : goal.of-requires
of-requires c = put_rises c.put.new.pairs.items ((c.args.key, plain_of c.args.value) ∷ []) c.args.pairs c.into_items-items.ensures.rising (c.in_ok-put.ensures ∙ ap (put_of (c.args.key, plain_of c.args.value)) c.into_items-items.ensures.items)
