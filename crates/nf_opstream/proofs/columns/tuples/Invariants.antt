use Rattle.std.proofs.Common.{◌≡◌, ◌++◌, map}
use Rattle.nf_value.specs.View.{plain_of}
use Rattle.nf_opstream.specs.Promise.{emits_of}
use Rattle.nf_opstream.proofs.Tuples.{tuples_from}
use Rattle.nf_opstream.proofs.columns.tuples.Given as goal

abbrev pub invariant-loop-place : goal.invariant-loop-place
invariant-loop-place l = emits_of l.emits.items ++ tuples_from (map plain_of l.columns) l.place l.count ≡ tuples_from (map plain_of l.columns) 0 l.count
