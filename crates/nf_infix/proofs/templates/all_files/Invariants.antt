use Rattle.std.proofs.Common.{◌≡◌, map, drop}
use Rattle.std.specs.List.{list_all}
use Rattle.nf_value.specs.View.{plain_of}
use Rattle.nf_infix.specs.Template.{is_file}
use Rattle.nf_infix.proofs.templates.all_files.Given as goal

abbrev pub invariant-loop-item : goal.invariant-loop-item
invariant-loop-item l = list_all is_file (map plain_of l.items) ≡ list_all is_file (map plain_of (drop l.item-index l.items))
