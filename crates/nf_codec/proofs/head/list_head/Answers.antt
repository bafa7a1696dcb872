use Rattle.std.proofs.Common.{◌-◌, length, take, drop, refl}
use Rattle.nf_codec.specs.Heads.{counted, list_of}
use Rattle.nf_codec.proofs.Heads.{shifted, counted_is}
use Rattle.nf_codec.proofs.head.list_head.Goals as goal

pub returns : goal.returns
returns c =
    let bs = c.args.bytes.now in
    let part = take (length bs - 1) (drop 1 bs) in
    shifted (counted list_of) bs part _ _ c.in_ok-count.used c.requires refl (counted_is list_of part _ _ c.in_ok-count.ensures.0) c.in_ok-count.ensures.2 c.in_ok-count.ensures.1
