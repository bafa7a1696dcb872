use Rattle.std.proofs.Common.{◌∙◌, refl, sym}
use Rattle.std.proofs.lemmas.List.{at_drop_all}
use Rattle.nf_known.specs.Judged.{call_in, calls_in}
use Rattle.nf_known.proofs.Firsts.{none_here, some_here}
use Rattle.nf_known.proofs.judged.called_fault.Goals as goal

pub returns-in-Some : goal.returns-in-Some
returns-in-Some c =
    let es = c.args.judged.now.entries in
    sym (c.loop-one.invariant
    ∙ some_here c.args.uses.now c.loop-one.one-index c.one-item.result c.loop-one-test.true c.one-item.is (λ u. call_in es u.kind u.text) (calls_in es) (λ u us. refl) c.in-Some.fault (sym c.in-Some.ensures))

pub loop-one-preserved : goal.loop-one-preserved
loop-one-preserved c =
    let es = c.args.judged.now.entries in
    c.loop-one.invariant
    ∙ none_here c.args.uses.now c.loop-one.one-index c.one-item.result c.loop-one-test.true c.one-item.is (λ u. call_in es u.kind u.text) (calls_in es) (λ u us. refl) (sym c.in_default.ensures)

pub returns : goal.returns
returns c = sym (c.loop-one.invariant ∙ at_drop_all (calls_in c.args.judged.now.entries) c.args.uses.now c.loop-one.one-index c.loop-one-test.false)
