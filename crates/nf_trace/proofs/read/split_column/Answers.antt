use Rattle.nf_trace.proofs.Splits.{column_split}
use Rattle.nf_trace.proofs.read.split_column.Goals as goal

pub returns : goal.returns
returns c = column_split c.args.text.now c.split_once.result c.split_once.ensures.cases
