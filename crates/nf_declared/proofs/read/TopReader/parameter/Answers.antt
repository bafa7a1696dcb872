use Rattle.std.proofs.Common.{◌≡◌, Err, false, rules}
use Rattle.std.specs.HashSet.{contains_text}
use Rattle.nf_ast.specs.View.{view}
use Rattle.nf_declared.proofs.Reading.{param_fails, param_set}
use Rattle.nf_declared.proofs.read.TopReader.parameter.Goals as goal

pub returns-in_err-value-clause-walk : goal.returns-in_err-value-clause-walk
returns-in_err-value-clause-walk g c =
    let x = c.args.self.now in
    let p = c.args.parameter.now in
    let e = c.in_err-value.field-0.0 in
    let is_not : contains_text x.names.set p.name ≡ false = search rules in
    let err : c.from_residual.result ≡ Err e = search rules in
    rw err (param_fails g.N.Natives.titles g.N.Natives.answer p.name_place p.name (view p.value) x e is_not c.in_err-value.ensures)

pub returns-clause-walk : goal.returns-clause-walk
returns-clause-walk g c =
    let x = c.args.self.now in
    let p = c.args.parameter.now in
    let is_not : contains_text x.names.set p.name ≡ false = search rules in
    param_set g.N.Natives.titles g.N.Natives.answer p.name_place p.name (view p.value) x c.set.new.self c.in_ok-value.value is_not c.in_ok-value.ensures c.in_ok-set.ensures.stands
