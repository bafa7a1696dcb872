use Rattle.std.proofs.Common.{ap, arith}
use Rattle.nf_value.specs.Plain.{nodes}
use Rattle.nf_value.specs.View.{plain_of}
use Rattle.nf_codec.proofs.Falls.{item_falls, pair_falls}
use Rattle.nf_known.proofs.files.+holds_file.Goals as goal

pub one_holds_file-holds_file-requires : goal.one_holds_file-holds_file-requires
one_holds_file-holds_file-requires t c = (omega (arith, c.decreases, item_falls c.items-item-items.result.now c.args.list.now c.loop-item.item-index c.item-item.result c.items-item-items.ensures c.loop-item-test.true c.item-item.is), tt)

pub pair_holds_file-holds_file-requires : goal.pair_holds_file-holds_file-requires
pair_holds_file-holds_file-requires t c = (omega (arith, c.decreases, pair_falls c.items-item-items.result.now c.args.pairs.now c.loop-item.item-index c.loop-item-item.result c.items-item-items.ensures.items c.loop-item-test.true c.loop-item-item.is), tt)

pub holds_file-one_holds_file-requires : goal.holds_file-one_holds_file-requires
holds_file-one_holds_file-requires t c = (let is = ap (λ v. nodes (plain_of v)) c.in-List.is in omega (arith, c.decreases, is), tt)

pub holds_file-pair_holds_file-requires : goal.holds_file-pair_holds_file-requires
holds_file-pair_holds_file-requires t c = (let is = ap (λ v. nodes (plain_of v)) c.in-Map.is in omega (arith, c.decreases, is), tt)
