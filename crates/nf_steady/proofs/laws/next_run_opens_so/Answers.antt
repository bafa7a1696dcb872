use Rattle.nf_steady.proofs.Resumed.{next_opens, stopped_opens}
use Rattle.nf_steady.proofs.laws.next_run_opens_so.Goals as goal

pub returns-clause-ended : goal.returns-clause-ended
returns-clause-ended g c = λ w F G z run lanes told next held. next_opens w F G z run lanes told next held

pub returns-clause-stopped : goal.returns-clause-stopped
returns-clause-stopped g c = λ w F G z run lanes told next left.
    stopped_opens w F G z run lanes told c.records_read_back.ensures c.no_front_is_a_record.ensures next left
