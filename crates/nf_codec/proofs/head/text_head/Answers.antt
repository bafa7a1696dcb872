use Rattle.std.proofs.Common.{◌-◌, length, take, drop, refl, subst}
use Rattle.nf_value.specs.Plain.{text}
use Rattle.nf_codec.specs.Heads.{whole, text_at}
use Rattle.nf_codec.specs.Fronts.{IsFront}
use Rattle.nf_codec.proofs.Heads.{shifted}
use Rattle.nf_codec.proofs.head.text_head.Goals as goal

pub returns-in-Some : goal.returns-in-Some
returns-in-Some c =
    let bs = c.args.bytes.now in
    let part = take (length bs - 1) (drop 1 bs) in
    let found = subst (IsFront (λ t. whole (text t)) (text_at part) part) c.in-Some.is c.in_ok-text_at.ensures in
    shifted text_at bs part (whole (text c.in-Some.text)) _ c.in-Some.used c.requires refl found.0 found.1 refl
