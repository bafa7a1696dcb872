use Rattle.std.proofs.Common.{None, sym, ◌∙◌, ap, is_lt, nat_cmp}
use Rattle.std.specs.Cmp.Lexicographic.{slice_cmp}
use Rattle.nf_codec.specs.Reading.{is_above}
use Rattle.nf_codec.proofs.LastKeys.{key_at_end}
use Rattle.nf_codec.proofs.read.is_next_key.Goals as goal

pub returns-in-Some : goal.returns-in-Some
returns-in-Some c =
    let last = key_at_end None c.args.before.now c.in-Some.field-0.now c.in-Some.ensures.value in
    c.lt.ensures ∙ (λ i. is_lt (slice_cmp nat_cmp (c.as_str.ensures i) (c.as_str-in-Some.ensures i))) ∙ ap (λ b. is_above b c.args.key.now) (sym last)
