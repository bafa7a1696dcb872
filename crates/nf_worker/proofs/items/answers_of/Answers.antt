use Rattle.std.proofs.Common.{refl, rules}
use Rattle.std.proofs.lemmas.List.{nil_from_length}
use Rattle.nf_locked.specs.Locked.{IsItemOf}
use Rattle.nf_worker.specs.Worker.{HasAnswer}
use Rattle.nf_worker.proofs.Answering.{all_more, all_rest, tickets_all, tickets_more}
use Rattle.nf_worker.proofs.items.answers_of.Goals as goal

pub answer_to-requires-clause-item : goal.answer_to-requires-clause-item
answer_to-requires-clause-item g c = (all_rest (IsItemOf g.J.Fixed.facts) c.in-Some.ticket c.next.new.self.rest.items c.loop-ticket.ticket-iterator.rest.items c.in-Some.ensures.steps.0 c.loop-ticket.invariant.left).0

pub loop-ticket-preserved : goal.loop-ticket-preserved
loop-ticket-preserved g c =
    let F = g.J.Fixed.facts in
    let rest = all_rest (IsItemOf F) c.in-Some.ticket c.next.new.self.rest.items c.loop-ticket.ticket-iterator.rest.items c.in-Some.ensures.steps.0 c.loop-ticket.invariant.left in
    record {
      tickets = tickets_more c.loop-ticket.answered.items c.push.new.self.items (record { ticket = c.in-Some.ticket; answer = c.in_ok-answer.answer }) c.in-Some.ticket c.next.new.self.rest.items c.loop-ticket.ticket-iterator.rest.items c.args.items.items
          c.in_ok-push.ensures.items refl c.in-Some.ensures.steps.0 c.loop-ticket.invariant.tickets;
      answers = all_more (HasAnswer F) c.loop-ticket.answered.items c.push.new.self.items (record { ticket = c.in-Some.ticket; answer = c.in_ok-answer.answer }) c.in_ok-push.ensures.items c.loop-ticket.invariant.answers (rest.0, c.in_ok-answer.ensures);
      left = rest.1;
    }

pub returns-clause-tickets : goal.returns-clause-tickets
returns-clause-tickets g c = tickets_all c.loop-ticket.answered.items c.loop-ticket.ticket-iterator.rest.items c.args.items.items (nil_from_length c.loop-ticket.ticket-iterator.rest.items (search rules)) c.loop-ticket.invariant.tickets

pub returns-clause-answers : goal.returns-clause-answers
returns-clause-answers g c = c.loop-ticket.invariant.answers
