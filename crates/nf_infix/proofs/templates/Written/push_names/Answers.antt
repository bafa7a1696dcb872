use Rattle.std.proofs.Common.{◌++◌, ℕ, List, codes, subst}
use Rattle.nf_value.specs.Text.{value_text}
use Rattle.nf_value.specs.View.{plain_of}
use Rattle.nf_infix.specs.Template.{IsWritten}
use Rattle.nf_infix.proofs.Blanks.{one_more, all_written, first_written}
use Rattle.nf_infix.proofs.templates.Written.push_names.Goals as goal

pub loop-file-init : goal.loop-file-init
loop-file-init c = λ t w. (t ++ value_text (plain_of c.in-Some.first.now), (c.in_ok-push_value.ensures t w, first_written c.args.files.now c.in-Some.others.now c.in-Some.first.now t c.in-Some.ensures.cases.0))

pub loop-file-preserved : goal.loop-file-preserved
loop-file-preserved c = λ t w. (let r = c.loop-file.invariant t w in ((r.0 ++ codes " ") ++ value_text (plain_of c.file-item.result), (c.in_ok-push_value-2.ensures (r.0 ++ codes " ") (c.in_ok-push.ensures r.0 r.1.0), one_more c.in-Some.others.now c.loop-file.file-index c.file-item.result r.0 _ c.loop-file-test.true c.file-item.is r.1.1)))

pub returns : goal.returns
returns c = λ t w. (let r = c.loop-file.invariant t w in subst (λ (u : List ℕ). IsWritten u c.loop-file.self) (all_written c.in-Some.others.now c.loop-file.file-index r.0 _ c.loop-file-test.false r.1.1) r.1.0)
