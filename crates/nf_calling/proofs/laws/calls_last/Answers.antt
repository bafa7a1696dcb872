use Rattle.nf_calling.proofs.Lasting.{closes_called, closes_entered, still_after, still_begun, still_path, still_room}
use Rattle.nf_calling.proofs.laws.calls_last.Goals as goal

pub returns : goal.returns
returns c = record {
  begun = still_begun c.paths_stay_apart.ensures.more c.paths_stay_apart.ensures.still;
  path = still_path c.paths_stay_apart.ensures.more;
  room = still_room c.rooms_last.ensures.same c.rooms_last.ensures.room;
  after = still_after;
  called = closes_called c.rooms_last.ensures.again;
  entered = closes_entered;
}
