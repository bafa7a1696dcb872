use Rattle.std.proofs.Common.{◌∙◌}
use Rattle.nf_host.specs.Faults.{Rose}
use Rattle.nf_ends.proofs.Writing.{wrote_text, kept}
use Rattle.nf_ends.proofs.writes.write_line.Goals as goal

pub returns-clause-kept : goal.returns-clause-kept
returns-clause-kept g c = kept c.args.end

pub returns-clause-line : goal.returns-clause-line
returns-clause-line g c =
    let written = g.O.Sink.written in
    let faults = g.O.Sink.faults in
    wrote_text (written c.args.out.now) (written c.write.new.self) c.args.end (Rose (faults c.args.out.now) (faults c.write.new.self)) c.write.result c.as_bytes.result.now (c.as_bytes.ensures.value ∙ c.in-Ok.ensures)
    c.requires c.in_default.not-Mem c.write.ensures.cause c.write.ensures.front c.write.ensures.all
