use Rattle.nf_pattern.proofs.Spelling.{piece_of, piece_falls}
use Rattle.nf_pattern.proofs.alternatives.first_piece.Goals as goal

pub returns-clause-pieces : goal.returns-clause-pieces
returns-clause-pieces c = piece_of c.args.within.now c.parted.result c.parted.ensures

pub returns-clause-shorter : goal.returns-clause-shorter
returns-clause-shorter c = piece_falls c.args.within.now c.parted.result c.parted.ensures
