use Rattle.serde_json.specs.View.{view, members_view}
use Rattle.nf_params.specs.Params.{members_in, params_of_data}
use Rattle.nf_params.proofs.Texts.{same_due, refused, object_given, no_object}
use Rattle.nf_params.proofs.read.params_of_json.Goals as goal

pub returns-in-Some : goal.returns-in-Some
returns-in-Some c = same_due (members_in 1 (members_view c.in-Some.members.now.entries)) (params_of_data (view c.args.json.now)) c.pairs_of.result (object_given (view c.args.json.now) (members_view c.in-Some.members.now.entries) c.in-Some.ensures) c.pairs_of.ensures

pub returns-in-None : goal.returns-in-None
returns-in-None c = refused (params_of_data (view c.args.json.now)) c.here.result (no_object (view c.args.json.now) c.in-None.ensures) c.here.ensures
