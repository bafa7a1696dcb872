use Rattle.std.proofs.Common.{◌≡◌, ◌++◌, drop, string_bytes}
use Rattle.std.specs.List.{flat_map}
use Rattle.nf_publish.specs.Report.{lines_text, view_lines}
use Rattle.nf_publish.proofs.reports.push_views.Given as goal

abbrev pub invariant-loop-view : goal.invariant-loop-view
invariant-loop-view l =
    string_bytes l.out ++ lines_text (flat_map view_lines (drop l.view-index l.views)) ≡ string_bytes l.initial.out ++ lines_text (flat_map view_lines l.views)
