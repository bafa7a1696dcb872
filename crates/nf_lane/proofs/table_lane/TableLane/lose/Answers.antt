use Rattle.std.proofs.Common.{rules}
use Rattle.std.proofs.lemmas.Fn.{filter_same}
use Rattle.nf_lane.specs.Store.{is_other}
use Rattle.nf_lane.proofs.table_lane.TableLane.lose.Goals as goal

pub returns-clause-stored : goal.returns-clause-stored
returns-clause-stored c = filter_same _ (is_other c.args.digest.now) _ (λ x b g k. search rules) _ _ c.retain.ensures.filtered
