use Rattle.std.proofs.Common.{◌-◌, length, take, drop, refl, subst}
use Rattle.nf_value.specs.Plain.{file}
use Rattle.nf_codec.specs.Heads.{whole, file_at}
use Rattle.nf_codec.specs.Fronts.{IsFront}
use Rattle.nf_codec.proofs.Heads.{shifted}
use Rattle.nf_codec.proofs.head.file_head.Goals as goal

pub returns-in-Some : goal.returns-in-Some
returns-in-Some c =
    let bs = c.args.bytes.now in
    let part = take (length bs - 1) (drop 1 bs) in
    let found = subst (IsFront (λ f. whole (file f.name f.digest.0 f.len)) (file_at part) part) c.in-Some.is c.in_ok-file_at.ensures in
    shifted file_at bs part (whole (file c.in-Some.file.name c.in-Some.file.digest.0 c.in-Some.file.len)) _ c.in-Some.used c.requires refl found.0 found.1 refl
