use Rattle.std.proofs.Common.{◌≡◌, ◌++◌, map}
use Rattle.std.specs.List.{AllByRecursion}
use Rattle.nf_locked.specs.Locked.{IsItemOf}
use Rattle.nf_worker.specs.Worker.{HasAnswer, ticket_of}
use Rattle.nf_worker.proofs.items.answers_of.Given as goal

abbrev pub invariant-loop-ticket : goal.invariant-loop-ticket
invariant-loop-ticket g l = record {
  tickets : map ticket_of l.answered.items ++ l.ticket-iterator.rest.items ≡ l.fn.items.items;
  answers : AllByRecursion (HasAnswer g.J.Fixed.facts) l.answered.items;
  left : AllByRecursion (IsItemOf g.J.Fixed.facts) l.ticket-iterator.rest.items;
}
