use Rattle.nf_operator.proofs.Rooms.{has_room}
use Rattle.nf_operator.proofs.laws.room.Goals as goal

pub returns : goal.returns
returns c = has_room (record { count = c.room.ensures.count; sum = c.room.ensures.sum; reduce = c.room.ensures.reduce })
