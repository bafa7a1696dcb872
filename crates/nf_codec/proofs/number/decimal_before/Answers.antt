use Rattle.std.proofs.Common.{◌≡◌, ◌<◌, length, take, true, arith, rules}
use Rattle.nf_codec.specs.Heads.{is_decimal}
use Rattle.nf_codec.proofs.Numbers.{decimal_found, digits_taken, some_taken, count_le}
use Rattle.nf_codec.proofs.number.decimal_before.Goals as goal

pub returns : goal.returns
returns c =
    let bs = c.args.bytes.now in
    let k = c.digit_count-count.result in
    let lt : k < length bs = omega (arith, count_le bs) in
    let ok : is_decimal (take k bs) ≡ true = search rules in (
      decimal_found c.args.end bs k c.digit_count-count.ensures lt c.if-bytes-count.false ok,
      some_taken bs k ok,
      lt,
      digits_taken bs k c.digit_count-count.ensures,
    )
