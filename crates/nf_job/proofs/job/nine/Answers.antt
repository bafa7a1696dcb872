use Rattle.std.proofs.Common.{ap, map}
use Rattle.nf_value.specs.View.{plain_of}
use Rattle.nf_job.specs.JobText.{nine_items, five_items}
use Rattle.nf_job.proofs.Pushes.{four_pushed}
use Rattle.nf_job.proofs.job.nine.Goals as goal

pub returns-clause-items : goal.returns-clause-items
unfolding nine_items five_items
returns-clause-items c =
    rw (← c.as_str.ensures, ← c.as_str-2.ensures, ← c.as_str-3.ensures) (four_pushed _ _ _ _ _ _ _ _ _ _ _ (ap (map plain_of) c.new-items.ensures.items) c.in_ok-push_text.ensures.items c.in_ok-push_text-2.ensures.items c.in_ok-push_text-3.ensures.items c.in_ok-push_text-4.ensures.items c.in_ok-push_others.ensures.items)
