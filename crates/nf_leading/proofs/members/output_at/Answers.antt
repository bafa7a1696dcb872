use Rattle.std.proofs.Common.{◌≡◌, ◌∙◌, ℤ, map, sym, ap, rules}
use Rattle.std.proofs.lemmas.Int.{to_z-of_z}
use mir.Syntax.{w64}
use mir.Val.{SFits, of_z, to_z}
use Rattle.nf_value.specs.View.{plain_of}
use Rattle.nf_scopes.specs.Things.{output_of}
use Rattle.nf_leading.specs.Wanted.{port_at}
use Rattle.nf_leading.proofs.Outputs.{at_has, place_found, place_missed}
use Rattle.nf_leading.proofs.members.output_at.Goals as goal

pub returns-in-Some-clause-walk : goal.returns-in-Some-clause-walk
returns-in-Some-clause-walk c =
    let z = c.in-Int.number in
    let os = map output_of c.args.outputs.now in
    let fits : SFits w64 z = search rules in
    let back : to_z w64 (of_z w64 z) ≡ z = to_z-of_z w64 z fits in
    place_found c.args.place c.args.index c.args.outputs.now (plain_of c.args.at.now) z c.in-Some.port (ap plain_of c.in-Int.is)
    (ap (λ (n : ℤ). port_at n os) (sym back) ∙ sym c.port_of.ensures ∙ c.in-Some.is)

pub returns-in-Some-clause-port : goal.returns-in-Some-clause-port
returns-in-Some-clause-port c =
    let z = c.in-Int.number in
    let os = map output_of c.args.outputs.now in
    let fits : SFits w64 z = search rules in
    let back : to_z w64 (of_z w64 z) ≡ z = to_z-of_z w64 z fits in
    at_has z os c.in-Some.port (ap (λ (n : ℤ). port_at n os) (sym back) ∙ sym c.port_of.ensures ∙ c.in-Some.is)

pub returns-in-None-clause-walk : goal.returns-in-None-clause-walk
returns-in-None-clause-walk c =
    let z = c.in-Int.number in
    let os = map output_of c.args.outputs.now in
    let fits : SFits w64 z = search rules in
    let back : to_z w64 (of_z w64 z) ≡ z = to_z-of_z w64 z fits in
    place_missed c.args.place c.args.index c.args.outputs.now (plain_of c.args.at.now) z (ap plain_of c.in-Int.is)
    (ap (λ (n : ℤ). port_at n os) (sym back) ∙ sym c.port_of.ensures ∙ c.in-None.is)
