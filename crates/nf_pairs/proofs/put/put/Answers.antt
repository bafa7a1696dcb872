use Rattle.nf_pairs.proofs.Putting.{put_over, put_between}
use Rattle.nf_pairs.proofs.put.put.Goals as goal

pub returns-in-Ok : goal.returns-in-Ok
returns-in-Ok c = put_over c.args.pairs.now.items c.deref.result.now c.in-Ok.place c.args.key c.as_str.result.now c.args.value c.deref.ensures.value c.as_str.ensures c.in-Ok.ensures.within c.in-Ok.ensures.place

pub returns-in_ok-insert-in-Err : goal.returns-in_ok-insert-in-Err
returns-in_ok-insert-in-Err c = put_between c.args.pairs.now.items c.deref.result.now c.insert.new.self.items c.in-Err.place c.args.key c.as_str.result.now c.args.value c.deref.ensures.value c.as_str.ensures c.in_ok-insert-in-Err.ensures.items c.in-Err.ensures.place
