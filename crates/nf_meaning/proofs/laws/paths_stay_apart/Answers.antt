use Rattle.nf_meaning.proofs.Going.{more_called, goes_again, called_later, none_yet, none_still, path_is_new, process_goes, path_added, inside_called, workflow_goes}
use Rattle.nf_meaning.proofs.laws.paths_stay_apart.Goals as goal

pub returns-clause-more : goal.returns-clause-more
returns-clause-more c s t path paths called = more_called s t path paths called

pub returns-clause-again : goal.returns-clause-again
returns-clause-again c s t u g h = goes_again s t u g h

pub returns-clause-called : goal.returns-clause-called
returns-clause-called c s t g h = called_later s t g h

pub returns-clause-none : goal.returns-clause-none
returns-clause-none c s n h plain fresh = none_yet s n h plain fresh

pub returns-clause-still : goal.returns-clause-still
returns-clause-still c s t n g plain called h = none_still s t n g plain called h

pub returns-clause-new : goal.returns-clause-new
returns-clause-new c s n h = path_is_new s n h

pub returns-clause-process : goal.returns-clause-process
returns-clause-process c s t u n g plain fresh now path called paths = process_goes s t u n g plain fresh now path called paths

pub returns-clause-added : goal.returns-clause-added
returns-clause-added c s t n h plain now path called paths = path_added s t n h plain now path called paths

pub returns-clause-in_body : goal.returns-clause-in_body
returns-clause-in_body c s n h = inside_called s n h

pub returns-clause-workflow : goal.returns-clause-workflow
returns-clause-workflow c s t i u n g plain fresh now h path called paths = workflow_goes s t i u n g plain fresh now h path called paths
