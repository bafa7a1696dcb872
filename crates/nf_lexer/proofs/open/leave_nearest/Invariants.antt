use Rattle.std.proofs.Common.{◌≡◌, reverse, vec_len}
use Rattle.nf_lexer.specs.Open.{around_nearest}
use Rattle.nf_lexer.specs.View.{opens, IsSummed}
use Rattle.nf_lexer.proofs.open.leave_nearest.Given as goal

abbrev pub invariant-loop-frame : goal.invariant-loop-frame
invariant-loop-frame l = record {
  summed : IsSummed (reverse l.frames.items);
  left : around_nearest (opens (reverse l.frames.items)) ≡ around_nearest (opens (reverse l.fn.frames.items));
}

abbrev pub decreases-loop-frame : goal.decreases-loop-frame
decreases-loop-frame l = vec_len l.frames
