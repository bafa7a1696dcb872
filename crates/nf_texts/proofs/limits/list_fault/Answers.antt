use Rattle.nf_texts.proofs.Weighing.{list_too_large, list_not_too_large}
use Rattle.nf_texts.proofs.limits.list_fault.Goals as goal

pub returns-then-head_len-weight-gt-MOST_WEIGHT : goal.returns-then-head_len-weight-gt-MOST_WEIGHT
returns-then-head_len-weight-gt-MOST_WEIGHT c = λ vs texts count weight. list_too_large vs c.args.count c.args.weight c.head_len.result texts count weight c.head_len.ensures.len c.if-head_len-weight-gt-MOST_WEIGHT.true

pub returns : goal.returns
returns c = λ vs texts count weight. list_not_too_large vs c.args.count c.args.weight c.head_len.result texts count weight c.head_len.ensures.len c.if-head_len-weight-gt-MOST_WEIGHT.false
