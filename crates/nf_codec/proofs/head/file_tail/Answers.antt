use Rattle.std.proofs.Common.{◌∙◌, ◌-◌, ap, refl, arith, length, take, drop, Some}
use Rattle.std.specs.Option.{option_and_then}
use Rattle.std.proofs.lemmas.List.{length-drop}
use Rattle.nf_codec.proofs.Numbers.{tail_is}
use Rattle.nf_codec.proofs.Heads.{tail_is_then, rest_of}
use Rattle.nf_codec.proofs.head.file_tail.Goals as goal

pub returns-in-None : goal.returns-in-None
returns-in-None c =
    let digest = c.in-Some.digest.0 in
    tail_is_then c.args.bytes.now digest _ c.if-bytes-lt64.false c.in-Some.ensures refl ∙ ap (option_and_then (λ p. Some ((digest, p.0), p.1))) c.in-None.ensures

pub returns-in-Some-file_length : goal.returns-in-Some-file_length
returns-in-Some-file_length c =
    let bs = c.args.bytes.now in
    let digest = c.in-Some.digest.0 in
    let part = take (length bs - 64) (drop 64 bs) in
    let found = c.in-Some-file_length.ensures in (
      tail_is_then bs digest part c.if-bytes-lt64.false c.in-Some.ensures refl ∙ ap (option_and_then (λ p. Some ((digest, p.0), p.1))) found.0
          ∙ ap (λ rest. Some ((digest, c.in-Some-file_length.len), rest)) (rest_of bs part 64 c.in-Some-file_length.used refl),
      omega (arith, found.1, ap length (tail_is bs 64), length-drop 64 bs),
    )
