use Rattle.std.proofs.Common.{◌≡◌, drop}
use Rattle.std.specs.List.{list_all}
use Rattle.nf_library.specs.Calls.{is_placed}
use Rattle.nf_library.proofs.waiting.are_placed.Given as goal

abbrev pub invariant-loop-name : goal.invariant-loop-name
invariant-loop-name l = list_all (is_placed l.names.keys l.placed.keys) l.calls ≡ list_all (is_placed l.names.keys l.placed.keys) (drop l.name-index l.calls)
