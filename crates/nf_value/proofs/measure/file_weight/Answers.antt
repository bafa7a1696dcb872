use Rattle.std.proofs.Common.{arith, length, ap, [], ◌∷◌}
use Rattle.nf_value.specs.Code.{head_code}
use Rattle.nf_value.proofs.Lengths.{file_capped}
use Rattle.nf_value.proofs.measure.file_weight.Goals as goal

pub returns : goal.returns
returns c =
    let f = c.args.file.now in
    let same = ap (λ w. length (head_code (112 ∷ []) (length w))) c.as_str-len.ensures in
    let len = ap length c.as_str-len.ensures in
    let digits = ap length c.format.ensures.text in
    file_capped f.name f.digest.0 f.len 9223372036854775808 _ (omega (arith, c.head_len.ensures.len 112, same, len, digits))
