use Rattle.std.proofs.Common.{◌∙◌, subst, sym}
use Rattle.std.proofs.lemmas.Result.{err_from_is_err_and}
use Rattle.nf_declared.proofs.Reading.{tops_begin, tops_end, tops_fail, tops_go}
use Rattle.nf_declared.proofs.read.read_tops.Goals as goal

pub loop-top-init : goal.loop-top-init
loop-top-init g c = record {
  natives = c.in_ok-reader.ensures.natives;
  leads = tops_begin g.N.Natives.titles g.N.Natives.answer c.args.params.now c.args.around c.args.tops.now c.in_ok-reader.reader c.in_ok-reader.ensures.stands;
}

pub top-requires : goal.top-requires
top-requires g c = subst g.N.Natives.keeps (sym c.loop-top.invariant.natives) c.requires

pub returns-in_err-top-clause-walk : goal.returns-in_err-top-clause-walk
returns-in_err-top-clause-walk g c =
    let e = c.in_err-top.field-0.0 in
    let p = err_from_is_err_and c.from_residual-in_err-top.result c.from_residual-in_err-top.ensures.1 in
    rw (p.1, p.2) (tops_fail g.N.Natives.titles g.N.Natives.answer c.args.params.now c.args.around c.args.tops.now c.loop-top.top-index c.top-item.result c.loop-top.reader c.top.new.self e c.loop-top-test.true c.top-item.is c.loop-top.invariant.leads c.in_err-top.ensures.walk)

pub loop-top-preserved : goal.loop-top-preserved
loop-top-preserved g c = record {
  natives = c.in_ok-top.ensures.natives ∙ c.loop-top.invariant.natives;
  leads = tops_go g.N.Natives.titles g.N.Natives.answer c.args.params.now c.args.around c.args.tops.now c.loop-top.top-index c.top-item.result c.loop-top.reader c.top.new.self c.in_ok-top.field-0 c.loop-top-test.true c.top-item.is c.loop-top.invariant.leads c.in_ok-top.ensures.walk;
}

pub returns-clause-walk : goal.returns-clause-walk
returns-clause-walk g c =
    tops_end g.N.Natives.titles g.N.Natives.answer c.args.params.now c.args.around c.args.tops.now c.loop-top.top-index c.loop-top.reader c.loop-top-test.false c.loop-top.invariant.leads
