use Rattle.std.proofs.Common.{◌≡◌, ◌++◌, drop}
use Rattle.nf_names_used.proofs.seen.add_copies.Given as goal

abbrev pub invariant-loop-text : goal.invariant-loop-text
invariant-loop-text l = l.out.items ++ drop l.text-index l.texts ≡ l.initial.out.items ++ l.texts
