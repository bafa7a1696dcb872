use Rattle.std.proofs.Common.{◌≡◌, ◌∷◌, [], Err, rules}
use Rattle.std.proofs.lemmas.List.{nil_from_length}
use Rattle.nf_walked.specs.Around.{Knows}
use Rattle.nf_walked.proofs.Binding.{binds_end, binds_fail, binds_go}
use Rattle.nf_walked.proofs.walker.Walker.bind_all.Goals as goal

pub returns-in_err-define : goal.returns-in_err-define
returns-in_err-define g c =
    let e = c.in_err-define.field-0.0 in
    let rest = c.loop-name.name-iterator.rest.items in
    let more = c.next.new.self.rest.items in
    let is : rest ≡ (c.in-Some.name, c.in-Some.value) ∷ more = search rules in
    let err : c.from_residual.result ≡ Err e = search rules in
    rw err (binds_fail (Knows g.N.Natives.titles g.N.Natives.answer c.args.self.now) c.args.parts.items c.args.state.now c.in-Some.name c.in-Some.value rest more c.loop-name.state c.define.new.state e is c.loop-name.invariant c.in_err-define.ensures)

pub loop-name-preserved : goal.loop-name-preserved
loop-name-preserved g c =
    let rest = c.loop-name.name-iterator.rest.items in
    let more = c.next.new.self.rest.items in
    let is : rest ≡ (c.in-Some.name, c.in-Some.value) ∷ more = search rules in
    binds_go (Knows g.N.Natives.titles g.N.Natives.answer c.args.self.now) c.args.parts.items c.args.state.now c.in-Some.name c.in-Some.value rest more c.loop-name.state c.define.new.state c.in_ok-define.field-0 is c.loop-name.invariant c.in_ok-define.ensures

pub returns : goal.returns
returns g c =
    let rest = c.loop-name.name-iterator.rest.items in
    let none : rest ≡ [] = nil_from_length rest (search rules) in
    binds_end (Knows g.N.Natives.titles g.N.Natives.answer c.args.self.now) c.args.parts.items c.args.state.now rest c.loop-name.state none c.loop-name.invariant
