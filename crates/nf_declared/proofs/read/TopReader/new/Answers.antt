use Rattle.std.proofs.Common.{◌∙◌}
use Rattle.nf_declared.proofs.Reading.{stands_begun}
use Rattle.nf_declared.proofs.read.TopReader.new.Goals as goal

pub returns-clause-stands : goal.returns-clause-stands
returns-clause-stands g c h outside around =
    stands_begun g.N.Natives.titles g.N.Natives.answer (record { alloc = c.args.alloc; names = c.in_ok-names.names; params = c.in_ok-params.params; outside = c.args.outside; around = c.args.around }) h (c.in_ok-params.ensures ∙ outside) outside around
    c.natives.result.now c.natives.ensures c.in_ok-names.ensures
