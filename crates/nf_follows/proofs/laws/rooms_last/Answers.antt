use Rattle.nf_follows.proofs.Rooming.{keeps_same, keeps_again, counted_keeps, room_lasts, call_keeps}
use Rattle.nf_follows.proofs.laws.rooms_last.Goals as goal

pub returns-clause-same : goal.returns-clause-same
returns-clause-same c b = keeps_same b

pub returns-clause-again : goal.returns-clause-again
returns-clause-again c one two three g h = keeps_again one two three g h

pub returns-clause-counted : goal.returns-clause-counted
returns-clause-counted c old ports new g = counted_keeps old ports new g

pub returns-clause-room : goal.returns-clause-room
returns-clause-room c old new ports g room = room_lasts old new ports g room

pub returns-clause-call : goal.returns-clause-call
returns-clause-call c old counted ports before new node info g k adds l = call_keeps old counted ports before new node info g k adds l
