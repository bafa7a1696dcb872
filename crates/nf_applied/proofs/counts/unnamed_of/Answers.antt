use Rattle.std.proofs.Common.{[], arith}
use Rattle.nf_arguments.specs.Args.{written_args}
use Rattle.nf_applied.proofs.Counting.{alone, few_written, no_more_than}
use Rattle.nf_applied.proofs.counts.unnamed_of.Goals as goal

pub returns-clause-count : goal.returns-clause-count
returns-clause-count c = c.unnamed.ensures (λ i out. []) (written_args c.args.args.now) (alone (λ i out. []) c.args.args.now c.requires)

pub returns-clause-few : goal.returns-clause-few
returns-clause-few c =
    let is = c.unnamed.ensures (λ i out. []) (written_args c.args.args.now) (alone (λ i out. []) c.args.args.now c.requires) in
    let few = no_more_than (written_args c.args.args.now) in
    let most = few_written c.args.args.now in
    omega (arith, is, few, most, c.more_than_written-more.ensures, c.more_than_written-more.type_inv)
