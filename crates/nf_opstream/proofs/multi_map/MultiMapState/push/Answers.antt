use Rattle.std.proofs.Common.{sym, ap, ◌∙◌, take}
use Rattle.std.specs.List.{enumerate_from}
use Rattle.nf_value.specs.View.{plain_of}
use Rattle.nf_opstream.specs.Push.{push_of}
use Rattle.nf_opstream.specs.Alone.{judged}
use Rattle.nf_opstream.specs.Rows.{multi_map_row, labelled}
use Rattle.nf_opstream.proofs.Each.{multi_map_law}
use Rattle.nf_opstream.proofs.Inner.{items_of-plains_of, not_labelled}
use Rattle.nf_opstream.proofs.Promised.{answered, gives_silent, judged_alike, fine_after}
use Rattle.nf_opstream.proofs.Outputs.{multi_map_more}
use Rattle.nf_opstream.proofs.multi_map.MultiMapState.push.Goals as goal

pub returns-in_default : goal.returns-in_default
returns-in_default c =
    let x = push_of c.args.port (plain_of c.args.item) (plain_of c.args.answer) in
    record {
      emits = λ outs p after. gives_silent (multi_map_row outs) (multi_map_law outs) p after.fine x c.new.result.items c.new.ensures.items (ap judged (not_labelled outs c.args.answer c.in_default.not-List));
      after = λ outs p after. record {
        fine = (gives_silent (multi_map_row outs) (multi_map_law outs) p after.fine x c.new.result.items c.new.ensures.items (ap judged (not_labelled outs c.args.answer c.in_default.not-List))).fine;
        outputs = after.outputs;
      };
    }

pub returns : goal.returns
returns c =
    let x = push_of c.args.port (plain_of c.args.item) (plain_of c.args.answer) in
    let outs = c.args.self.now.outs in
    let same = c.in_ok-emits.ensures ∙ ap (λ vs. enumerate_from 0 (take outs vs)) (sym (items_of-plains_of c.in-List.list)) ∙ ap (λ v. labelled outs (plain_of v)) (sym c.in-List.is) in
    record {
      emits = λ n p after. answered (λ v. v.items) (multi_map_row n) (multi_map_law n) p after.fine x c.judge.result
          (judged_alike (λ v. v.items) (same ∙ ap (λ m. labelled m (plain_of c.args.answer)) after.outputs) c.judge.result c.judge.ensures);
      after = λ n p after. multi_map_more n p x c.args.self.now after c.judge.result (fine_after (λ v. v.items) (multi_map_row n) p x c.judge.result (answered (λ v. v.items) (multi_map_row n) (multi_map_law n) p after.fine x c.judge.result
          (judged_alike (λ v. v.items) (same ∙ ap (λ m. labelled m (plain_of c.args.answer)) after.outputs) c.judge.result c.judge.ensures)));
    }
