use Rattle.std.proofs.Common.{sym, ◌∙◌}
use Rattle.std.proofs.lemmas.Bool.{false≢true}
use Rattle.serde_json.specs.View.{view}
use Rattle.nf_params.specs.Params.{params_of_text as params_of_text_of, params_of_data}
use Rattle.nf_params.proofs.Texts.{same_due, refused, data_given, unread}
use Rattle.nf_params.proofs.read.params_of_text.Goals as goal

pub returns-in-Ok : goal.returns-in-Ok
returns-in-Ok c = same_due (params_of_data (view c.in-Ok.json)) (params_of_text_of c.args.text.now) c.params_of_json.result (data_given c.args.text.now (view c.in-Ok.json) c.in-Ok.ensures.ok) c.params_of_json.ensures

pub returns-else-is_memory : goal.returns-else-is_memory
returns-else-is_memory c = refused (params_of_text_of c.args.text.now) c.here.result (unread c.args.text.now (c.in-Err.ensures.err (λ m. false≢true (sym c.if-is_memory.false ∙ c.is_memory.ensures.1 m)))) c.here.ensures
