use Rattle.std.proofs.Common.{[], ◌∷◌, false, refl, sym, subst, arith, lit<}
use Rattle.nf_machine.specs.State.{Ticket}
use Rattle.nf_flight.specs.Flights.{IsFlights, FewAttempts}
use Rattle.tests_flow.proofs.Taken.{ticket, started, report, flying}
use Rattle.tests_flow.proofs.flights.flights_are_found_by_their_numbers.Goals as goal

pub add-requires-2-clause-shows : goal.add-requires-2-clause-shows
add-requires-2-clause-shows g c = record { next = 2; tickets = ticket 1 ∷ []; shows = c.in_ok-first.ensures.after 1 [] (ticket 1) c.in_ok-flights.ensures.flights refl refl refl refl }

pub add-requires-2-clause-number : goal.add-requires-2-clause-number
add-requires-2-clause-number g c =
    let one : IsFlights 2 (ticket 1 ∷ []) c.add.new.self = c.in_ok-first.ensures.after 1 [] (ticket 1) c.in_ok-flights.ensures.flights refl refl refl refl in
    let next = one.next_is in omega arith

pub start-requires : goal.start-requires
start-requires g c =
    let one : IsFlights 2 (ticket 1 ∷ []) c.add.new.self = c.in_ok-first.ensures.after 1 [] (ticket 1) c.in_ok-flights.ensures.flights refl refl refl refl in
    let two : IsFlights 3 (ticket 1 ∷ ticket 2 ∷ []) c.add-2.new.self = c.in_ok-second.ensures.after 2 (ticket 1 ∷ []) (ticket 2) one refl refl refl refl in
    flying c.add-2.new.self 3 2 (ticket 1 ∷ ticket 2 ∷ []) (ticket 2) two refl

pub is_started-requires : goal.is_started-requires
is_started-requires g c =
    let one : IsFlights 2 (ticket 1 ∷ []) c.add.new.self = c.in_ok-first.ensures.after 1 [] (ticket 1) c.in_ok-flights.ensures.flights refl refl refl refl in
    let two : IsFlights 3 (ticket 1 ∷ ticket 2 ∷ []) c.add-2.new.self = c.in_ok-second.ensures.after 2 (ticket 1 ∷ []) (ticket 2) one refl refl refl refl in
    let three : IsFlights 3 (ticket 1 ∷ started 2 ∷ []) c.start.new.self = c.start.ensures.after 3 (ticket 1 ∷ ticket 2 ∷ []) (ticket 2) two refl in
    flying c.start.new.self 3 2 (ticket 1 ∷ started 2 ∷ []) (started 2) three refl

pub again-requires-clause-flying : goal.again-requires-clause-flying
again-requires-clause-flying g c =
    let one : IsFlights 2 (ticket 1 ∷ []) c.add.new.self = c.in_ok-first.ensures.after 1 [] (ticket 1) c.in_ok-flights.ensures.flights refl refl refl refl in
    let two : IsFlights 3 (ticket 1 ∷ ticket 2 ∷ []) c.add-2.new.self = c.in_ok-second.ensures.after 2 (ticket 1 ∷ []) (ticket 2) one refl refl refl refl in
    let three : IsFlights 3 (ticket 1 ∷ started 2 ∷ []) c.start.new.self = c.start.ensures.after 3 (ticket 1 ∷ ticket 2 ∷ []) (ticket 2) two refl in
    flying c.start.new.self 3 2 (ticket 1 ∷ started 2 ∷ []) (started 2) three refl

pub again-requires-clause-attempt : goal.again-requires-clause-attempt
again-requires-clause-attempt g c =
    let one : IsFlights 2 (ticket 1 ∷ []) c.add.new.self = c.in_ok-first.ensures.after 1 [] (ticket 1) c.in_ok-flights.ensures.flights refl refl refl refl in
    let two : IsFlights 3 (ticket 1 ∷ ticket 2 ∷ []) c.add-2.new.self = c.in_ok-second.ensures.after 2 (ticket 1 ∷ []) (ticket 2) one refl refl refl refl in
    let three : IsFlights 3 (ticket 1 ∷ started 2 ∷ []) c.start.new.self = c.start.ensures.after 3 (ticket 1 ∷ ticket 2 ∷ []) (ticket 2) two refl in
    subst FewAttempts (sym (three.each 2)) (lit< tt)

pub is_started-requires-2 : goal.is_started-requires-2
is_started-requires-2 g c =
    let one : IsFlights 2 (ticket 1 ∷ []) c.add.new.self = c.in_ok-first.ensures.after 1 [] (ticket 1) c.in_ok-flights.ensures.flights refl refl refl refl in
    let two : IsFlights 3 (ticket 1 ∷ ticket 2 ∷ []) c.add-2.new.self = c.in_ok-second.ensures.after 2 (ticket 1 ∷ []) (ticket 2) one refl refl refl refl in
    let three : IsFlights 3 (ticket 1 ∷ started 2 ∷ []) c.start.new.self = c.start.ensures.after 3 (ticket 1 ∷ ticket 2 ∷ []) (ticket 2) two refl in
    let back : Ticket = record (ticket 2) { told = report ∷ []; started = false } in
    let four : IsFlights 3 (ticket 1 ∷ back ∷ []) c.again.new.self = c.again.ensures.after 3 (ticket 1 ∷ started 2 ∷ []) (started 2) report three refl in
    flying c.again.new.self 3 2 (ticket 1 ∷ back ∷ []) back four refl

pub leave-requires : goal.leave-requires
leave-requires g c =
    let one : IsFlights 2 (ticket 1 ∷ []) c.add.new.self = c.in_ok-first.ensures.after 1 [] (ticket 1) c.in_ok-flights.ensures.flights refl refl refl refl in
    let two : IsFlights 3 (ticket 1 ∷ ticket 2 ∷ []) c.add-2.new.self = c.in_ok-second.ensures.after 2 (ticket 1 ∷ []) (ticket 2) one refl refl refl refl in
    let three : IsFlights 3 (ticket 1 ∷ started 2 ∷ []) c.start.new.self = c.start.ensures.after 3 (ticket 1 ∷ ticket 2 ∷ []) (ticket 2) two refl in
    let back : Ticket = record (ticket 2) { told = report ∷ []; started = false } in
    let four : IsFlights 3 (ticket 1 ∷ back ∷ []) c.again.new.self = c.again.ensures.after 3 (ticket 1 ∷ started 2 ∷ []) (started 2) report three refl in
    flying c.again.new.self 3 1 (ticket 1 ∷ back ∷ []) (ticket 1) four refl
