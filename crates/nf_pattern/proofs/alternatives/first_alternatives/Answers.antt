use Rattle.nf_pattern.proofs.Spelling.{spelled_alone, spelled_plain, spelled_choices, after_falls}
use Rattle.nf_pattern.proofs.alternatives.first_alternatives.Goals as goal

pub returns-in-Some-parted-clause-spelled : goal.returns-in-Some-parted-clause-spelled
returns-in-Some-parted-clause-spelled c = spelled_choices _ _ _ _ _ c.in-Some.ensures c.in-Some-parted.ensures

pub returns-in-Some-parted-clause-shorter : goal.returns-in-Some-parted-clause-shorter
returns-in-Some-parted-clause-shorter c = after_falls _ _ _ _ _ c.in-Some.ensures c.in-Some-parted.ensures

pub returns-in-None-parted-clause-spelled : goal.returns-in-None-parted-clause-spelled
returns-in-None-parted-clause-spelled c = spelled_alone _ _ _ c.in-Some.ensures c.in-None-parted.ensures

pub returns-in-None-clause-spelled : goal.returns-in-None-clause-spelled
returns-in-None-clause-spelled c = spelled_plain _ c.in-None.ensures
