use Rattle.std.proofs.Common.{append_assoc, ◌∙◌, sym, codes}
use Rattle.nf_value.specs.Place.{place_text}
use Rattle.nf_ends.proofs.lines.at_place.Goals as goal

pub returns : goal.returns
returns c = c.in_ok-format.ensures.ok ∙ sym (append_assoc (place_text c.args.place.line c.args.place.col) (codes ": ") c.args.text.now)
