use Rattle.std.proofs.Common.{◌++◌, string_bytes}
use Rattle.std.specs.Str.Iter.{chars_rest}
use Rattle.nf_params.specs.Pointer.{escaped}
use Rattle.nf_params.proofs.Escapes.{escaped_next}
use Rattle.nf_params.proofs.pointer.push_escaped.Goals as goal

pub loop-mark-preserved : goal.loop-mark-preserved
loop-mark-preserved c = escaped_next (string_bytes c.loop-mark.out) (string_bytes c.push_mark.new.out) (chars_rest c.loop-mark.mark-iterator) (chars_rest c.next.new.self) (string_bytes c.args.out.now ++ escaped c.args.key.now) c.in-Some.mark c.in-Some.ensures.steps.0 c.in_ok-push_mark.ensures c.loop-mark.invariant
