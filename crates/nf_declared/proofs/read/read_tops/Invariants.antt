use Rattle.std.proofs.Common.{◌≡◌}
use Rattle.nf_declared.proofs.Reading.{LeadsOn}
use Rattle.nf_declared.proofs.read.read_tops.Given as goal

abbrev pub invariant-loop-top : goal.invariant-loop-top
invariant-loop-top g l = record {
  natives : l.reader.around.natives.now ≡ l.fn.around.natives.now;
  leads : LeadsOn g.N.Natives.titles g.N.Natives.answer l.fn.params l.fn.around l.tops l.top-index l.reader;
}
