use Rattle.std.proofs.Common.{◌≡◌, Err, rules}
use Rattle.nf_meaning.specs.Names.{in_run, uses_fault}
use Rattle.nf_meaning.specs.Walk.{known_in}
use Rattle.nf_names_used.specs.Uses.{params_uses}
use Rattle.nf_around.specs.Labels.{params_in}
use Rattle.nf_around.proofs.Labelled.{no_labels, params_wrong, labels_by}
use Rattle.nf_around.proofs.Walks.{is_none}
use Rattle.nf_around.proofs.surroundings.Surroundings.with_labels.Goals as goal

pub returns-in-None : goal.returns-in-None
returns-in-None g c a s h = no_labels a s c.args.closure.now c.in-None.ensures

pub returns-in_err-check_params-in-Some : goal.returns-in_err-check_params-in-Some
returns-in_err-check_params-in-Some g c a s h =
    let err : c.from_residual.result ≡ Err c.in_err-check_params-in-Some.field-0.0 = search rules in
    rw err (params_wrong a s c.args.closure.now c.in-Some.ensures.some c.in_err-check_params-in-Some.field-0.0 (c.in_err-check_params-in-Some.ensures a s.scope h))

pub returns-in_ok-check_params-in-Some : goal.returns-in_ok-check_params-in-Some
returns-in_ok-check_params-in-Some g c a s h =
    let fine = is_none (uses_fault a.given a.definitions (known_in a s.scope) in_run (params_uses (params_in c.args.closure.now.params))) c.in_ok-check_params-in-Some.field-0 (c.in_ok-check_params-in-Some.ensures a s.scope h) in
    labels_by a s c.args.closure.now c.in-Some.ensures.some c.in-Some.labels.now c.in-Some.ensures.same fine c.each_label.result (c.each_label.ensures a s.scope h fine)
