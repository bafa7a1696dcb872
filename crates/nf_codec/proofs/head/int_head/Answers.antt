use Rattle.std.proofs.Common.{refl, ap, sym, rules}
use mir.Val.{SFits}
use mir.Syntax.{w64}
use Rattle.std.proofs.lemmas.Int.{to_z-of_z}
use Rattle.nf_value.specs.Plain.{int}
use Rattle.nf_codec.specs.Heads.{whole, int_at}
use Rattle.nf_codec.proofs.Heads.{shifted}
use Rattle.nf_codec.proofs.head.int_head.Goals as goal

pub returns : goal.returns
returns c =
    let z = c.in_ok-number.number in
    let fits : SFits w64 z = search rules in
    shifted int_at c.args.bytes.now _ (whole (int z)) _ c.in_ok-number.used c.requires refl c.in_ok-number.ensures.0 c.in_ok-number.ensures.1 (ap int (sym (to_z-of_z w64 z fits)))
