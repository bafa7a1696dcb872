use Rattle.std.proofs.Common.{sym, ◌∙◌}
use Rattle.nf_value.specs.View.{plain_of}
use Rattle.nf_opstream.specs.Push.{push_of}
use Rattle.nf_opstream.specs.Rows.{filter_row}
use Rattle.nf_opstream.proofs.Each.{filter_law, filtered_out, filtered_in}
use Rattle.nf_opstream.proofs.Promised.{answered, gives_silent, judged_alike}
use Rattle.nf_opstream.proofs.filter.FilterState.push.Goals as goal

pub returns-then-not-truth : goal.returns-then-not-truth
returns-then-not-truth c = λ p fine. (let x = push_of c.args.port (plain_of c.args.item) (plain_of c.args.answer) in
    gives_silent filter_row filter_law p fine x c.new.result.items c.new.ensures.items (filtered_out x (sym c.truth.ensures ∙ c.if-not-truth.true)))

pub returns : goal.returns
returns c = λ p fine. (let x = push_of c.args.port (plain_of c.args.item) (plain_of c.args.answer) in
    answered (λ v. v.items) filter_row filter_law p fine x c.one.result (judged_alike (λ v. v.items) (filtered_in x (sym c.truth.ensures ∙ c.if-not-truth.false)) c.one.result c.one.ensures))
