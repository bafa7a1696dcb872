use Rattle.std.proofs.Common.{◌∙◌, ap, option_map, take}
use Rattle.nf_lane.proofs.Reading.{read_more, read_none}
use Rattle.nf_lane.proofs.child.read_within.Goals as goal
use Rattle.nf_lane.proofs.child.read_within.Goals.{in-Ok+in_ok-kept-in-Ok, in-Err}

pub pieces-preserved : goal.pieces-preserved
pieces-preserved g c =
    let bytes = option_map (λ v. v.items) in
    let start = g.S.Read.remaining c.args.from.now in
    let before = g.S.Read.remaining c.pieces.from in
    let after = g.S.Read.remaining c.read.new.self in
    elim c.match-read.branch [
      | in-Ok+in_ok-kept-in-Ok w ↦
          read_more start before after (bytes c.pieces.kept) (bytes c.match-read.kept) (take w.in-Ok.len c.read.new.buf)
          c.pieces.invariant w.in-Ok.ensures.bytes.0 (ap bytes w.kept-is ∙ w.in_ok-kept-in-Ok.ensures)
      | in-Err w ↦ read_none start before after (bytes c.pieces.kept) (bytes c.match-read.kept) c.pieces.invariant w.in-Err.ensures.bytes (ap bytes w.kept-is)
    ]
