use Rattle.std.proofs.Common.{◌≡◌}
use Rattle.nf_table.proofs.Names.{found_at, same_name, other_name, still_none, none_at_all}
use Rattle.nf_table.proofs.table.Table.find.Goals as goal

pub returns-then-eq : goal.returns-then-eq
returns-then-eq g c =
    let same : c.deref-row-items.result.now ≡ c.args.self.now = cc in
    found_at g.R.Named.label c.deref-row-items.result.now c.args.self.now c.loop-i.i c.row-item.result c.name.result.now c.args.name.now same c.loop-i-test.true c.row-item.is c.name.ensures (same_name c.name.result.now c.args.name.now c.eq.result c.eq.ensures c.if-eq.true)

pub loop-i-preserved : goal.loop-i-preserved
loop-i-preserved g c =
    still_none g.R.Named.label c.deref-row-items.result.now c.loop-i.i c.row-item.result c.name.result.now c.args.name.now c.loop-i-test.true c.row-item.is c.name.ensures (other_name c.name.result.now c.args.name.now c.eq.result c.eq.ensures c.if-eq.false) c.loop-i.invariant

pub returns : goal.returns
returns g c =
    let same : c.deref-row-items.result.now ≡ c.args.self.now = cc in
    none_at_all g.R.Named.label c.deref-row-items.result.now c.args.self.now c.loop-i.i c.args.name.now same c.loop-i-test.false c.loop-i.invariant
