use Rattle.std.proofs.Common.{◌∙◌, ap}
use Rattle.std.specs.Prelude.{is_some}
use Rattle.nf_pairs.specs.Pairs.{value_at}
use Rattle.nf_pairs.proofs.Values.{any-value_at}
use Rattle.nf_pairs.proofs.put.has_key.Goals as goal

pub returns : goal.returns
returns c = c.has_among.ensures ∙ any-value_at c.args.key.now c.items.result.now ∙ ap (λ ps. is_some (value_at c.args.key.now ps)) c.items.ensures.items
