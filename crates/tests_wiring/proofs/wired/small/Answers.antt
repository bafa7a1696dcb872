use Rattle.std.proofs.Common.{rules, ◌≡◌}
use Rattle.tests_wiring.proofs.Small.{both, well_made}
use Rattle.tests_wiring.proofs.wired.small.Goals as goal

pub new-requires-3 : goal.new-requires-3
new-requires-3 c = well_made _ (search rules)
