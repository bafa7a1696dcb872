use Rattle.nf_params.specs.Params.{params_of_text as params_of_text_of, params_in}
use Rattle.nf_params.proofs.Texts.{same_due, refused, text_given, no_text}
use Rattle.nf_params.proofs.read.params_of.Goals as goal

pub returns-in-Ok : goal.returns-in-Ok
returns-in-Ok c = same_due (params_of_text_of c.in-Ok.text.now) (params_in c.args.bytes.now) c.params_of_text.result (text_given c.args.bytes.now c.in-Ok.text.now c.in-Ok.ensures.cases.0 c.in-Ok.ensures.cases.1) c.params_of_text.ensures

pub returns-in-Err : goal.returns-in-Err
returns-in-Err c = refused (params_in c.args.bytes.now) c.here.result (no_text c.args.bytes.now c.in-Err.ensures.cases.0) c.here.ensures
