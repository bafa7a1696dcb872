use Rattle.tests_serial.specs.Small.{small_rules}
use Rattle.tests_serial.proofs.Small.{path, small_names}
use Rattle.tests_serial.proofs.rules.small_tells_apart.Goals as goal

pub returns : goal.returns
returns c = c.texts_tell_apart.ensures small_rules path small_names
