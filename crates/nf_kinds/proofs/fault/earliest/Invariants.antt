use Rattle.std.proofs.Common.{◌≡◌, take, drop}
use Rattle.nf_kinds.specs.Fault.{first_from, first_of}
use Rattle.nf_kinds.proofs.Firsts.{IsFirstOf}
use Rattle.nf_kinds.proofs.fault.earliest.Given as goal

abbrev pub invariant-loop-one : goal.invariant-loop-one
invariant-loop-one l = record { first : IsFirstOf l.first (take l.one-index l.broken); only : first_from l.first (drop l.one-index l.broken) ≡ first_of l.broken }
