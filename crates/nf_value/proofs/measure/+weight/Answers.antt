use Rattle.std.proofs.Common.{arith, ap, length}
use Rattle.nf_value.specs.View.{plain_of}
use Rattle.nf_value.specs.Code.{code}
use Rattle.nf_value.proofs.Lengths.{list_length, map_length}
use Rattle.nf_value.proofs.measure.+weight.Goals as goal

pub weight-returns-in-List : goal.weight-returns-in-List
weight-returns-in-List t c =
    let whole = list_length _ c.len.result c.len.ensures in
    let at = ap (λ v. length (code (plain_of v))) c.in-List.is in
    omega (arith, whole, at, c.head_len.ensures.len 108)

pub weight-returns-in-Map : goal.weight-returns-in-Map
weight-returns-in-Map t c =
    let whole = map_length _ c.len-in-Map.result c.len-in-Map.ensures in
    let at = ap (λ v. length (code (plain_of v))) c.in-Map.is in
    omega (arith, whole, at, c.head_len-in-Map.ensures.len 109)
