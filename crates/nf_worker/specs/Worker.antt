-- What a worker brings into its next holding of the lock.
use Rattle.nf_flight.specs.declared.ticket.Ticket.{Ticket}
use Rattle.nf_core.specs.Opening.{Opening}
use Rattle.nf_locked.specs.Locked.{AnswersIt, IsItemOf}
use Rattle.nf_worker.specs.declared.items.Answered.{Answered}

abbrev pub ticket_of : Answered → Ticket
ticket_of x = x.ticket

-- the ticket is an operator's, with the rules' answer for its one item
abbrev pub HasAnswer : Opening → Answered → Type 0
HasAnswer F x = IsItemOf F x.ticket × AnswersIt F x.ticket x.answer
