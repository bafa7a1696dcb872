use Rattle.nf_builtins.proofs.ReadRows.{read_as_said}
use Rattle.nf_builtins.proofs.laws.rows_are_read_as_said.Goals as goal

pub returns : goal.returns
returns c = read_as_said
