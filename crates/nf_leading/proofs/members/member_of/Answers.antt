use Rattle.std.proofs.Common.{◌∙◌, map, sym, ap}
use Rattle.nf_scopes.specs.Things.{output_of}
use Rattle.nf_leading.specs.Wanted.{port_named}
use Rattle.nf_leading.proofs.Outputs.{member_found, member_has, member_missed}
use Rattle.nf_leading.proofs.members.member_of.Goals as goal

pub returns-in-Some-clause-walk : goal.returns-in-Some-clause-walk
returns-in-Some-clause-walk c =
    member_found c.args.begin c.args.place c.args.name.now c.args.thing.now c.in-Outputs.outputs c.in-Outputs.is c.in-Some.port
    (ap (λ os. port_named c.args.name.now (map output_of os)) (sym c.deref.ensures.value) ∙ sym c.output_named.ensures ∙ c.in-Some.is)

pub returns-in-Some-clause-port : goal.returns-in-Some-clause-port
returns-in-Some-clause-port c =
    member_has c.args.begin c.args.place c.args.name.now c.args.thing.now c.in-Outputs.outputs c.in-Some.port c.in-Outputs.is
    (ap (λ os. port_named c.args.name.now (map output_of os)) (sym c.deref.ensures.value) ∙ sym c.output_named.ensures ∙ c.in-Some.is)

pub returns-in-None-clause-walk : goal.returns-in-None-clause-walk
returns-in-None-clause-walk c =
    member_missed c.args.begin c.args.place c.args.name.now c.args.thing.now c.in-Outputs.outputs c.in-Outputs.is
    (ap (λ os. port_named c.args.name.now (map output_of os)) (sym c.deref.ensures.value) ∙ sym c.output_named.ensures ∙ c.in-None.is)
