use Rattle.nf_texts.proofs.Weighing.{too_large, not_too_large}
use Rattle.nf_texts.proofs.limits.text_fault.Goals as goal

pub returns-then-head_len-len-gt-MOST_WEIGHT : goal.returns-then-head_len-len-gt-MOST_WEIGHT
returns-then-head_len-len-gt-MOST_WEIGHT c = λ t is. too_large t c.args.len c.head_len.result is c.head_len.ensures.len c.if-head_len-len-gt-MOST_WEIGHT.true

pub returns : goal.returns
returns c = λ t is. not_too_large t c.args.len c.head_len.result is c.head_len.ensures.len c.if-head_len-len-gt-MOST_WEIGHT.false
