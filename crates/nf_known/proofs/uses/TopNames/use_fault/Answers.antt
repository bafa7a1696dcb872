use Rattle.std.proofs.Common.{◌≡◌, subst, rules}
use Rattle.nf_meaning.specs.Names.{use_fault}
use Rattle.nf_callees.specs.Callee.{called_of}
use Rattle.nf_callees.specs.Found.{defined_in}
use Rattle.nf_known.specs.Reading.{reading_of}
use Rattle.nf_known.proofs.EachKind.{name_read, name_assigned, defined_again, function_called, pattern_used}
use Rattle.nf_known.proofs.uses.TopNames.use_fault.Goals as goal

pub returns-in-Name : goal.returns-in-Name
returns-in-Name g c given k program knows =
    let one = c.args.one.now in
    let ds = defined_in c.args.self.now.definitions in
    let r = reading_of c.args.reading in
    let same : c.as_str-text.result.now ≡ one.text = search rules in
    subst (λ n. c.name_fault.result ≡ use_fault given ds k r one.kind one.place n) same
    (name_read given ds k r one.place c.as_str-text.result.now (g.N.Natives.titles c.args.self.now.natives.now) program.titles one.kind c.in-Name.is c.name_fault.result (c.name_fault.ensures k knows))

pub returns-in-Assigned : goal.returns-in-Assigned
returns-in-Assigned g c given k program knows =
    let one = c.args.one.now in
    name_assigned given (defined_in c.args.self.now.definitions) k (reading_of c.args.reading) one.place one.text one.kind c.in-Assigned.is

pub returns-in-Again : goal.returns-in-Again
returns-in-Again g c given k program knows =
    let one = c.args.one.now in
    defined_again given (defined_in c.args.self.now.definitions) k (reading_of c.args.reading) one.place one.text one.kind c.in-Again.is

pub returns-in-Function : goal.returns-in-Function
returns-in-Function g c given k program knows =
    let one = c.args.one.now in
    let ds = defined_in c.args.self.now.definitions in
    let r = reading_of c.args.reading in
    let same : c.as_str-text.result.now ≡ one.text = search rules in
    subst (λ n. c.call_fault.result ≡ use_fault given ds k r one.kind one.place n) same
    (function_called given ds k r one.place c.as_str-text.result.now (g.N.Natives.titles c.args.self.now.natives.now) program.titles one.kind c.in-Function.is
    (called_of c.callee.result) c.callee.ensures c.call_fault.result c.call_fault.ensures)

pub returns-in-Pattern : goal.returns-in-Pattern
returns-in-Pattern g c given k program knows =
    let one = c.args.one.now in
    let ds = defined_in c.args.self.now.definitions in
    let r = reading_of c.args.reading in
    let same : c.as_str-text.result.now ≡ one.text = search rules in
    subst (λ n. c.fault.result ≡ use_fault given ds k r one.kind one.place n) same
    (pattern_used given ds k r one.place c.as_str-text.result.now one.kind c.in-Pattern.is c.fault.result (c.fault.ensures given program.patterns))
