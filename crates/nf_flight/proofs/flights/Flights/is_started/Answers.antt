use Rattle.std.proofs.Common.{ap}
use Rattle.nf_flight.specs.declared.flight.Flight.{Flight}
use Rattle.nf_flight.proofs.Flying.{read}
use Rattle.nf_flight.proofs.flights.Flights.is_started.Goals as goal

pub returns : goal.returns
returns c next tickets k h e = ap (λ (f : Flight). f.is_started) (read next tickets c.args.self.now h c.args.number k _ _ e c.index.ensures c.in-Some.is)
