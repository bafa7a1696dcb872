use Rattle.std.proofs.Common.{◌≡◌, drop}
use Rattle.std.specs.Prelude.{Ok}
use Rattle.nf_value.specs.View.{plain_of}
use Rattle.nf_value.specs.declared.value.Value.{Value}
use Rattle.nf_opstream.specs.Promise.{emits_of}
use Rattle.nf_opjoin.specs.Pairing.{and_then}
use Rattle.nf_opjoin.specs.Listed.{paired_as, all_paired}
use Rattle.nf_opjoin.proofs.meeting.pairs_with.Given as goal

abbrev pub invariant-loop-rest : goal.invariant-loop-rest
invariant-loop-rest l = (let h = λ (v : Value). paired_as l.by_first l.first (plain_of l.keyed.key) l.keyed.rest (plain_of v) in
    and_then (Ok (emits_of l.emits.items)) (all_paired h (drop l.rest-index l.rests)) ≡ all_paired h l.rests)
