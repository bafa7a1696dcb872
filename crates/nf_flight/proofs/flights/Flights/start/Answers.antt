use Rattle.std.proofs.Common.{◌-◌, true, refl, ap, set}
use Rattle.std.specs.declared.option.Option.TheVariants.{Some}
use Rattle.nf_flight.specs.declared.flight.Flight.{Flight}
use Rattle.nf_flight.proofs.Flying.{read, changed}
use Rattle.nf_flight.proofs.flights.Flights.start.Goals as goal

pub returns-clause-after : goal.returns-clause-after
returns-clause-after c next tickets k h e = changed next c.args.number tickets k c.args.self.now h e _ (record k { started = true }) refl refl
    (ap (λ (f : Flight). set c.args.self.now.takes.items (c.args.number - 1) (Some (record { node = f.node; attempt = f.attempt; is_started = true }))) (read next tickets c.args.self.now h c.args.number k _ _ e c.index.ensures c.in-Some.is))
    refl refl
