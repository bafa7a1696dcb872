use Rattle.std.proofs.Common.{◌++◌, string_bytes, ◌∙◌, ap}
use Rattle.std.specs.Prelude.{encode_utf8}
use Rattle.std.specs.Str.Iter.{chars_rest}
use Rattle.nf_trace.specs.Task.{blanked}
use Rattle.nf_trace.proofs.Blanks.{blanked_next}
use Rattle.nf_trace.proofs.write.push_blanked.Goals as goal

pub loop-mark-preserved : goal.loop-mark-preserved
loop-mark-preserved c =
    blanked_next (string_bytes c.loop-mark.out) (string_bytes c.push.new.self) (chars_rest c.loop-mark.mark-iterator) (chars_rest c.next.new.self) (string_bytes c.args.out.now ++ blanked c.args.text.now) c.in-Some.mark c.in-Some.ensures.steps.0
    (c.in_ok-push.ensures.bytes ∙ ap (λ x. string_bytes c.loop-mark.out ++ encode_utf8 x) c.blank.ensures) c.loop-mark.invariant
