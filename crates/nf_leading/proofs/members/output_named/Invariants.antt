use Rattle.std.proofs.Common.{◌≡◌, map, drop}
use Rattle.nf_scopes.specs.Things.{output_of}
use Rattle.nf_leading.specs.Wanted.{port_named}
use Rattle.nf_leading.proofs.members.output_named.Given as goal

abbrev pub invariant-loop-output : goal.invariant-loop-output
invariant-loop-output l = port_named l.name (map output_of (drop l.output-index l.outputs)) ≡ port_named l.name (map output_of l.outputs)
