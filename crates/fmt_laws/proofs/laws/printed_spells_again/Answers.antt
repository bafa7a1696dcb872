use Rattle.fmt_laws.proofs.Printed.{is_spelled_again, is_spelled_again_at_length}
use Rattle.fmt_laws.proofs.laws.printed_spells_again.Goals as goal

pub returns : goal.returns
returns c = record { read_back = is_spelled_again; at_length = is_spelled_again_at_length }
