use Rattle.std.proofs.Common.{◌≡◌, ◌+◌, drop}
use Rattle.nf_tasks.specs.Script.{indent_of}
use Rattle.nf_tasks.proofs.script.leading_blanks.Given as goal

abbrev pub invariant-loop-b : goal.invariant-loop-b
invariant-loop-b l = (l.count ≡ l.b-index) × (l.count + indent_of (drop l.b-index l.line) ≡ indent_of l.line)
