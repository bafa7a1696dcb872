use Rattle.std.proofs.Common.{◌≡◌, Err, Ok, ap, map, rules}
use Rattle.nf_ast.specs.View.{names}
use Rattle.nf_meaning.specs.Lowered.{known}
use Rattle.nf_meaning.specs.Workflow.{bind_all}
use Rattle.nf_placed.specs.Body.{names_in, split}
use Rattle.nf_value.specs.View.{pair_of, plain_of}
use Rattle.nf_walked.specs.Around.{Knows}
use Rattle.nf_walked.specs.Forms.{nothing, pairs}
use Rattle.nf_walked.specs.Steps.{due}
use Rattle.nf_walked.proofs.Binding.{known_still}
use Rattle.nf_walked.proofs.Joins.{fails_first, then_from}
use Rattle.nf_walked.proofs.Stills.{alike}
use Rattle.nf_walked.proofs.walker.Walker.bind_names.Goals as goal

pub returns-in_err-parts : goal.returns-in_err-parts
returns-in_err-parts g c =
    let e = c.in_err-parts.field-0.0 in
    let z = c.args.state.now in
    let x = known (split c.args.place (names_in (names c.args.names.now)) (plain_of c.args.value.now)) in
    let err : c.from_residual.result ≡ Err e = search rules in
    rw err (fails_first nothing bind_all c.requires (known_still (Knows g.N.Natives.titles g.N.Natives.answer c.args.self.now) pairs x z (Err e) c.requires (λ v. tt) (λ ps bs. map pair_of ps.items ≡ bs) (λ q v b h. h) c.in_err-parts.ensures))

pub returns : goal.returns
returns g c =
    let K = Knows g.N.Natives.titles g.N.Natives.answer c.args.self.now in
    let z = c.args.state.now in
    let ps = c.in_ok-parts.parts in
    let x = known (split c.args.place (names_in (names c.args.names.now)) (plain_of c.args.value.now)) in
    then_from c.requires (known_still K pairs x z (Ok ps) c.requires (λ v. tt) (λ qs bs. map pair_of qs.items ≡ bs) (λ q v b h. h) c.in_ok-parts.ensures)
    (alike K (due nothing (bind_all (map pair_of ps.items))) (λ p y bs. map pair_of ps.items ≡ bs) bind_all z c.bind_all.new.state c.bind_all.result c.bind_all.ensures
    (λ p y stands is. (tt, tt, ap (λ bs. bind_all bs p.around p.state) is)))
