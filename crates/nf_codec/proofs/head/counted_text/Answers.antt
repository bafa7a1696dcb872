use Rattle.std.proofs.Common.{◌≤◌, ◌+◌, length, drop, arith, refl, ap}
use Rattle.std.proofs.lemmas.List.{length-drop}
use Rattle.nf_codec.proofs.Numbers.{tail_is}
use Rattle.nf_codec.proofs.Texts.{text_found, text_refused}
use Rattle.nf_codec.proofs.head.counted_text.Goals as goal

pub returns-in-Ok : goal.returns-in-Ok
returns-in-Ok c =
    let bs = c.args.bytes.now in
    let k = c.in_ok-count.count in
    let n = c.in_ok-len.len in
    let part = ap length (tail_is bs (k + 1)) in
    let small : n ≤ length (drop (k + 1) bs) = omega (arith, part) in (
      text_found bs k n c.in-Ok.text.now _ c.in_ok-count.ensures.0 c.in_ok-len.ensures small refl c.in-Ok.ensures.cases.0 c.in-Ok.ensures.cases.1,
      omega (arith, small, length-drop (k + 1) bs, c.in_ok-count.ensures.2),
    )

pub returns-in-Err : goal.returns-in-Err
returns-in-Err c =
    let bs = c.args.bytes.now in
    let k = c.in_ok-count.count in
    let n = c.in_ok-len.len in
    let part = ap length (tail_is bs (k + 1)) in
    let small : n ≤ length (drop (k + 1) bs) = omega (arith, part) in
    text_refused bs k n _ c.in_ok-count.ensures.0 c.in_ok-len.ensures small refl c.in-Err.ensures.cases.0
