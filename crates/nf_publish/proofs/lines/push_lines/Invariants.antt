use Rattle.std.proofs.Common.{◌≡◌, ◌++◌, drop, map, string_bytes}
use Rattle.nf_value.specs.Text.{value_text}
use Rattle.nf_value.specs.View.{plain_of}
use Rattle.nf_publish.specs.Report.{lines_text}
use Rattle.nf_publish.proofs.lines.push_lines.Given as goal

abbrev pub invariant-loop-value : goal.invariant-loop-value
invariant-loop-value l =
    string_bytes l.out ++ lines_text (map value_text (map plain_of (drop l.value-index l.values))) ≡ string_bytes l.initial.out ++ lines_text (map value_text (map plain_of l.values))
