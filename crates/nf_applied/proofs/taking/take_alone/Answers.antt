use Rattle.nf_arguments.specs.Args.{written_arg}
use Rattle.nf_taken.specs.Wanted.{alone_walk}
use Rattle.nf_applied.proofs.Arguments.{fits_kept, keeps_same, ports_kept, taken_here}
use Rattle.nf_applied.proofs.taking.take_alone.Goals as goal

pub take-requires : goal.take-requires
take-requires g c = keeps_same g.N.Natives.keeps c.body_at.result.around.now c.args.walker.now.around.now c.body_at.ensures.around c.requires.natives

pub returns-clause-walk : goal.returns-clause-walk
returns-clause-walk g c r alone fits =
    taken_here g.N.Natives.titles g.N.Natives.answer c.args.walker.now c.body_at.result c.args.state.now c.requires.lowering c.body_at.ensures.same r c.args.taken (alone_walk c.args.alone (written_arg c.args.arg)) c.take.result
    (fits_kept r c.args.state.now.plan c.args.taken c.take.result fits (c.take.ensures.keeps r alone)) c.take.ensures.takes

pub returns-clause-ports : goal.returns-clause-ports
returns-clause-ports g c r alone = ports_kept r c.args.taken c.take.result (c.take.ensures.keeps r alone)
