use Rattle.std.proofs.Common.{◌+◌, ◌<◌, arith, rules, ap, sym, refl, length, ◌∙◌, Some, drop}
use Rattle.std.proofs.lemmas.Bool.Decides.{nat_tests}
use mir.Val.{SFits}
use mir.Syntax.{w64}
use Rattle.std.proofs.lemmas.Int.{to_z-of_z}
use Rattle.std.proofs.lemmas.List.{length-drop}
use Rattle.nf_value.specs.Plain.{int}
use Rattle.nf_codec.specs.Heads.{whole}
use Rattle.nf_codec.proofs.Numbers.{minus_found, tail_is}
use Rattle.nf_codec.proofs.number.int_at.Goals as goal

pub returns-then-bytes-eq45 : goal.returns-then-bytes-eq45
returns-then-bytes-eq45 c =
    let bs = c.args.bytes.now in
    let z = c.in_ok-number.number in
    let used = c.in_ok-number.used in
    let some : 0 < length bs = grind (arith, nat_tests) in
    let part = ap length (tail_is bs 1) in
    let fits : SFits w64 z = search rules in (
      minus_found bs _ used (whole (int z)) refl some c.if-bytes-eq45.true c.in_ok-number.ensures.0 ∙ ap (λ y. Some (whole (int y), drop (used + 1) bs)) (sym (to_z-of_z w64 z fits)),
      omega (arith, c.in_ok-number.ensures.1, length-drop 1 bs, part),
    )
