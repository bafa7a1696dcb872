use Rattle.std.proofs.Common.{◌≡◌, ◌+◌, ◌≤◌, map, drop}
use Rattle.nf_meaning.specs.Arguments.{unnamed}
use Rattle.nf_arguments.specs.Written.{arg_of}
use Rattle.nf_arguments.proofs.counts.unnamed_in.Given as goal

abbrev pub invariant-loop-arg : goal.invariant-loop-arg
invariant-loop-arg l = record {
  counts : l.count + unnamed (map arg_of (drop l.arg-index l.args)) ≡ unnamed (map arg_of l.args);
  within : l.count ≤ l.arg-index;
}
