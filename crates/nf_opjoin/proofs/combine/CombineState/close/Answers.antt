use Rattle.std.proofs.Common.{[], refl, ap}
use Rattle.nf_opstream.specs.Promise.{emits_of}
use Rattle.nf_opjoin.specs.Combined.{combine_row}
use Rattle.nf_opjoin.proofs.Promised.{ends_with}
use Rattle.nf_opjoin.proofs.combine.CombineState.close.Goals as goal

pub returns-clause-ends : goal.returns-clause-ends
returns-clause-ends c = λ by_first p after. ends_with (combine_row by_first) (c.combined.ensures by_first) c.promises.ensures.ended p after.fine c.new.result.items [] (ap emits_of c.new.ensures.items) refl
