use Rattle.nf_placed.proofs.Finding.{none_named, one_named}
use Rattle.nf_placed.proofs.rows.row_named.Goals as goal

pub returns-in-Some : goal.returns-in-Some
returns-in-Some c = one_named c.rows.result.now _ c.args.name.now c.in-Some.row _ c.rows.ensures.rows c.in_ok-table.ensures c.rows.ensures.count c.in-Some.ensures

pub returns : goal.returns
returns c = none_named _ c.args.name.now c.in_ok-table.ensures c.in-None.ensures
