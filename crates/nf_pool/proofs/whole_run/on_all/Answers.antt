use Rattle.std.proofs.Common.{◌≡◌, arith, length, refl}
use Rattle.nf_serial.proofs.Whole.{idle_first}
use Rattle.nf_pool.proofs.Ends.{none_worked}
use Rattle.nf_pool.proofs.Wholes.{lanes_are, lanes_len, no_failures, no_starts}
use Rattle.nf_pool.specs.Pool.{told}
use Rattle.nf_pool.proofs.whole_run.on_all.Goals as goal

pub returns-in_default-clause-idle : goal.returns-in_default-clause-idle
returns-in_default-clause-idle g c = idle_first c.args.run c.args.run refl c.requires.empty

pub returns-in_default-clause-runs : goal.returns-in_default-clause-runs
returns-in_default-clause-runs g c = let a = no_starts c.args.run c.args.run refl c.requires.empty in omega (arith, a)

pub returns-in_default-clause-rose : goal.returns-in_default-clause-rose
returns-in_default-clause-rose g c = λ h. absurd (let a = no_failures c.args.run c.args.run refl c.requires.empty in omega (arith, a, h))

pub returns-in_default-clause-worked : goal.returns-in_default-clause-worked
returns-in_default-clause-worked g c = none_worked _

pub new-requires-clause-idle : goal.new-requires-clause-idle
new-requires-clause-idle g c = idle_first c.args.run c.args.run refl c.requires.empty

pub new-requires-clause-starts : goal.new-requires-clause-starts
new-requires-clause-starts g c = no_starts c.args.run c.args.run refl c.requires.empty

pub new-requires-clause-failures : goal.new-requires-clause-failures
new-requires-clause-failures g c = no_failures c.args.run c.args.run refl c.requires.empty

pub new-requires-clause-lanes : goal.new-requires-clause-lanes
new-requires-clause-lanes g c =
    let len : c.len.result ≡ length c.args.lanes.items = omega (arith, c.len.ensures) in
    lanes_len (λ l. told (g.L.Lane.world l) (g.L.Lane.store l)) c.args.lanes.items g.J.Fixed.facts.lanes _ c.len.result c.requires.lanes c.in-Ok.ensures.lanes len

pub fork-lanes-requires-clause-lanes : goal.fork-lanes-requires-clause-lanes
fork-lanes-requires-clause-lanes g c κs within = lanes_are (λ l. told (g.L.Lane.world l) (g.L.Lane.store l)) c.args.lanes.items g.J.Fixed.facts.lanes c.requires.lanes

pub sweep-requires : goal.sweep-requires
sweep-requires g c = c.into_parts-run.ensures.free.out

pub returns-clause-runs : goal.returns-clause-runs
returns-clause-runs g c = let a = c.fork-lanes.ensures.runs in let b = c.into_parts-run.ensures.free.begun in let d = c.sweep.ensures.starts in omega (arith, a, b, d)

pub returns-clause-rose : goal.returns-clause-rose
returns-clause-rose g c = λ h. c.fork-lanes.ensures.rose (let b = c.into_parts-run.ensures.free.failed in let d = c.sweep.ensures.failures in omega (arith, b, d, h))
