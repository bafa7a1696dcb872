use Rattle.std.proofs.Common.{ap, sym, subst, ◌∙◌}
use Rattle.nf_pairs.specs.Pairs.{put_all}
use Rattle.nf_ends.specs.declared.end.End.TheVariants as end
use Rattle.nf_request.specs.Wishes.{wish_of_run}
use Rattle.nf_request.specs.Steps.{GivesParams}
use Rattle.nf_request.proofs.Refused.{err_is}
use Rattle.nf_request.proofs.Parameters.{no_memory}
use Rattle.nf_request.proofs.params.params_of_run.Goals as goal

pub returns-clause-gives : goal.returns-clause-gives
returns-clause-gives g c =
    let s = c.in_ok-in_file.ensures.gives in
    let in_file = c.in_ok-in_file.in_file in
    (s.0, s.1, (in_file, s.2, c.in_ok-params.ensures.pairs ∙ ap (λ ps. put_all ps in_file) c.in_ok-given.ensures))

pub returns-in_err-given-clause-gives : goal.returns-in_err-given-clause-gives
returns-in_err-given-clause-gives g c =
    let s = c.in_ok-in_file.ensures.gives in
    let file = c.args.words.now.params_file in
    (s.0, s.1, subst (GivesParams (wish_of_run c.args.words.now) s.0) (sym (err_is c.from_residual-in_err-given.result end.Mem c.from_residual-in_err-given.ensures.1)) (no_memory file s.0))

pub returns-in_err-params-clause-gives : goal.returns-in_err-params-clause-gives
returns-in_err-params-clause-gives g c =
    let s = c.in_ok-in_file.ensures.gives in
    let file = c.args.words.now.params_file in
    (s.0, s.1, subst (GivesParams (wish_of_run c.args.words.now) s.0) (sym (err_is c.from_residual-in_err-params.result end.Mem c.from_residual-in_err-params.ensures.1)) (no_memory file s.0))
