use Rattle.std.proofs.Common.{◌≡◌, ◌++◌, ◌≤◌, length, map}
use Rattle.nf_value.specs.Plain.{int, plains_of}
use Rattle.nf_value.specs.Code.{all_code}
use Rattle.nf_value.specs.View.{plain_of}
use Rattle.nf_infix.specs.Range.{further, numbers_to}
use Rattle.nf_infix.proofs.Stepping.{gap}
use Rattle.nf_infix.proofs.ranges.numbers.Given as goal

abbrev pub invariant-loop-number : goal.invariant-loop-number
invariant-loop-number l = record {
  made : map plain_of l.numbers.items ++ map int (further l.number l.last) ≡ map int (numbers_to l.fn.first l.last);
  weighed : l.sum ≤ length (all_code (plains_of (map plain_of l.numbers.items)));
}

abbrev pub decreases-loop-number : goal.decreases-loop-number
decreases-loop-number l = gap l.number l.last
