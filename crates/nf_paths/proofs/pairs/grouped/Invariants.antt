use Rattle.std.proofs.Common.{take}
use Rattle.nf_paths.specs.Groups.{IsGrouped}
use Rattle.nf_paths.specs.Pairs.{keyed}
use Rattle.nf_paths.specs.Texts.{pattern_of}
use Rattle.nf_paths.proofs.pairs.grouped.Given as goal

abbrev pub invariant-loop-file : goal.invariant-loop-file
invariant-loop-file l = IsGrouped (keyed (pattern_of l.pattern) (take l.file-index l.files)) l.groups.entries
