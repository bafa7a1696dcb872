use Rattle.std.proofs.Common.{◌≡◌, drop}
use Rattle.nf_builtins.specs.Natives.{is_among}
use Rattle.nf_eval.specs.Memory.{texts_of}
use Rattle.nf_eval.proofs.library.Library.has_pattern.Given as goal

abbrev pub invariant-loop-pattern : goal.invariant-loop-pattern
invariant-loop-pattern l = is_among l.text (texts_of l.self.patterns.items) ≡ is_among l.text (texts_of (drop l.pattern-index l.self.patterns.items))
