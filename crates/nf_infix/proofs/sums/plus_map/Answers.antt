use Rattle.std.proofs.Common.{Ok}
use Rattle.nf_value.specs.Plain.{table, plain_pairs_of}
use Rattle.nf_infix.specs.Pairs.{put_all}
use Rattle.nf_infix.proofs.Members.{map_gives, pairs_gives}
use Rattle.nf_infix.proofs.sums.plus_map.Goals as goal

pub returns-in_ok-merged-in-Map : goal.returns-in_ok-merged-in-Map
returns-in_ok-merged-in-Map c = rw c.in-Map.is (map_gives c.in-Map.more c.args.left (λ qs ps. Ok (table (plain_pairs_of (put_all qs ps)))) c.judged.result (pairs_gives c.in_ok-merged-in-Map.field-0 _ c.judged.result c.in_ok-merged-in-Map.ensures c.judged.ensures))
