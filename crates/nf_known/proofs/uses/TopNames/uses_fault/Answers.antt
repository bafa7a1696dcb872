use Rattle.std.proofs.Common.{◌∙◌, refl, sym}
use Rattle.std.proofs.lemmas.List.{at_drop_all}
use Rattle.nf_meaning.specs.Names.{uses_fault, use_fault}
use Rattle.nf_callees.specs.Found.{defined_in}
use Rattle.nf_known.specs.Reading.{reading_of}
use Rattle.nf_known.proofs.Firsts.{none_here, some_here}
use Rattle.nf_known.proofs.uses.TopNames.uses_fault.Goals as goal

pub returns-in-Some : goal.returns-in-Some
returns-in-Some g c given k program knows =
    let ds = defined_in c.args.self.now.definitions in
    let r = reading_of c.args.reading in
    sym (c.loop-one.invariant given k program knows
    ∙ some_here c.args.uses.now c.loop-one.one-index c.one-item.result c.loop-one-test.true c.one-item.is (λ u. use_fault given ds k r u.kind u.place u.text) (uses_fault given ds k r) (λ u us. refl)
    c.in-Some.fault (sym (c.in-Some.ensures given k program knows)))

pub loop-one-preserved : goal.loop-one-preserved
loop-one-preserved g c given k program knows =
    let ds = defined_in c.args.self.now.definitions in
    let r = reading_of c.args.reading in
    c.loop-one.invariant given k program knows
    ∙ none_here c.args.uses.now c.loop-one.one-index c.one-item.result c.loop-one-test.true c.one-item.is (λ u. use_fault given ds k r u.kind u.place u.text) (uses_fault given ds k r) (λ u us. refl)
    (sym (c.in_default.ensures given k program knows))

pub returns : goal.returns
returns g c given k program knows =
    let ds = defined_in c.args.self.now.definitions in
    let r = reading_of c.args.reading in
    sym (c.loop-one.invariant given k program knows ∙ at_drop_all (uses_fault given ds k r) c.args.uses.now c.loop-one.one-index c.loop-one-test.false)
