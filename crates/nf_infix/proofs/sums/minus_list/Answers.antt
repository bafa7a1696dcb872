use Rattle.std.proofs.Common.{filter, Ok}
use Rattle.nf_builtins.specs.Lists.{list_of}
use Rattle.nf_infix.specs.Sum.{is_missing}
use Rattle.nf_infix.proofs.Members.{list_gives, same_gives}
use Rattle.nf_infix.proofs.sums.minus_list.Goals as goal

pub returns-in-List : goal.returns-in-List
returns-in-List c = rw c.in-List.is (list_gives c.in-List.others (λ ws. Ok (list_of (filter (is_missing ws) c.args.left))) c.judged.result (same_gives c.without.result _ c.judged.result c.without.ensures c.judged.ensures))
