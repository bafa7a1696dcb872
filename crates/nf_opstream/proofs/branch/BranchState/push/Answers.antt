use Rattle.std.proofs.Common.{sym, ap, ◌∙◌}
use Rattle.nf_value.specs.View.{plain_of}
use Rattle.nf_opstream.specs.Push.{push_of}
use Rattle.nf_opstream.specs.Alone.{judged}
use Rattle.nf_opstream.specs.Rows.{branch_row, branched}
use Rattle.nf_opstream.proofs.Each.{branch_law}
use Rattle.nf_opstream.proofs.Promised.{answered, gives_silent, judged_alike, fine_after}
use Rattle.nf_opstream.proofs.Outputs.{branch_more}
use Rattle.nf_opstream.proofs.branch.BranchState.push.Goals as goal

pub returns-in-Some : goal.returns-in-Some
returns-in-Some c =
    let x = push_of c.args.port (plain_of c.args.item) (plain_of c.args.answer) in
    let given = c.in-Some.ensures (plain_of c.args.item) in
    record {
      emits = λ outs p after. answered (λ v. v.items) (branch_row outs) (branch_law outs) p after.fine x c.one.result
          (judged_alike (λ v. v.items) (sym given ∙ ap (λ n. branched n (plain_of c.args.answer) (plain_of c.args.item)) after.outputs) c.one.result c.one.ensures);
      after = λ outs p after. branch_more outs p x c.args.self.now after c.one.result (fine_after (λ v. v.items) (branch_row outs) p x c.one.result (answered (λ v. v.items) (branch_row outs) (branch_law outs) p after.fine x c.one.result
          (judged_alike (λ v. v.items) (sym given ∙ ap (λ n. branched n (plain_of c.args.answer) (plain_of c.args.item)) after.outputs) c.one.result c.one.ensures)));
    }

pub returns-in-None : goal.returns-in-None
returns-in-None c =
    let x = push_of c.args.port (plain_of c.args.item) (plain_of c.args.answer) in
    let given = c.in-None.ensures (plain_of c.args.item) in
    record {
      emits = λ outs p after. gives_silent (branch_row outs) (branch_law outs) p after.fine x c.new.result.items c.new.ensures.items
          (ap judged (sym (ap (λ n. branched n (plain_of c.args.answer) (plain_of c.args.item)) after.outputs) ∙ given));
      after = λ outs p after. record {
        fine = (gives_silent (branch_row outs) (branch_law outs) p after.fine x c.new.result.items c.new.ensures.items
            (ap judged (sym (ap (λ n. branched n (plain_of c.args.answer) (plain_of c.args.item)) after.outputs) ∙ given))).fine;
        outputs = after.outputs;
      };
    }
