use Rattle.std.proofs.Common.{arith, length-append, length, ap, [], ◌∷◌}
use Rattle.nf_value.specs.Code.{head_code}
use Rattle.nf_value.proofs.measure.text_weight.Goals as goal

pub returns : goal.returns
returns c =
    let t = c.args.text.now in
    let same = ap (λ w. length (head_code (115 ∷ []) (length w))) c.as_str-len.ensures in
    let len = ap length c.as_str-len.ensures in
    omega (arith, length-append (head_code (115 ∷ []) (length t)) t, c.head_len.ensures.len 115, same, len)
