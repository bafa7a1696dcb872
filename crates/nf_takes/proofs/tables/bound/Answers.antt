use Rattle.std.proofs.Common.{◌<◌, ◌≤◌, length, rules}
use Rattle.nf_graph.specs.Node.{port_in}
use Rattle.nf_scopes.specs.Tables.{Puts}
use Rattle.nf_scopes.specs.declared.things.Thing.TheVariants as thing
use Rattle.nf_takes.proofs.Binding.{binds_all, binds_none, binds_past, binds_port}
use Rattle.nf_takes.proofs.tables.bound.Goals.{in-Some+in_ok-put_port, in_default}
use Rattle.nf_takes.proofs.tables.bound.Goals as goal

pub loop-at-init : goal.loop-at-init
loop-at-init c = binds_none c.args.names.now c.args.ports.now _ (search rules)

pub loop-at-preserved : goal.loop-at-preserved
loop-at-preserved c =
    elim c.match-get.branch [
      | in-Some+in_ok-put_port w ↦
          let within : c.loop-at.at < length c.args.ports.now = search rules in
          let puts : Puts c.index-names-at.result.1 (thing.Channel (port_in c.args.ports.now c.loop-at.at)) c.loop-at.table.entries w.put_port.new.table.entries = search rules in
          rw w.table-is (binds_port c.args.names.now c.args.ports.now c.loop-at.at c.index-names-at.result c.loop-at-test.true c.index-names-at.is c.loop-at.table.entries w.put_port.new.table.entries within puts c.loop-at.invariant)
      | in_default w ↦
          let past : length c.args.ports.now ≤ c.loop-at.at = search rules in
          rw w.table-is (binds_past c.args.names.now c.args.ports.now c.loop-at.at c.index-names-at.result c.loop-at-test.true c.index-names-at.is c.loop-at.table.entries past c.loop-at.invariant)
    ]

pub returns-clause-stands : goal.returns-clause-stands
returns-clause-stands c = binds_all c.args.names.now c.args.ports.now c.loop-at.at c.loop-at.table.entries c.loop-at-test.false c.loop-at.invariant
