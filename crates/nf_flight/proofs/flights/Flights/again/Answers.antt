use Rattle.std.proofs.Common.{◌≡◌, ◌+◌, ◌-◌, [], ◌∷◌, ◌++◌, suc, false, length, refl, ap, ◌∙◌, set, arith, length-append}
use Rattle.std.specs.declared.option.Option.TheVariants.{Some}
use Rattle.nf_flight.specs.declared.flight.Flight.{Flight}
use Rattle.nf_flight.proofs.Flying.{read, changed}
use Rattle.nf_flight.proofs.flights.Flights.again.Goals as goal

pub returns-clause-after : goal.returns-clause-after
returns-clause-after c next tickets k r h e =
    let takes = c.args.self.now.takes.items in
    let place = c.args.number - 1 in
    let more : suc (length k.told) + 1 ≡ suc (length (k.told ++ r ∷ [])) = (let a = length-append k.told (r ∷ []) in omega arith) in
    changed next c.args.number tickets k c.args.self.now h e _ (record k { told = k.told ++ r ∷ []; started = false }) refl refl
    (ap (λ (f : Flight). set takes place (Some (record { node = f.node; attempt = f.attempt + 1; is_started = false }))) (read next tickets c.args.self.now h c.args.number k _ _ e c.index.ensures c.in-Some.is)
    ∙ ap (λ n. set takes place (Some (record { node = k.node; attempt = n; is_started = false }))) more)
    refl refl
