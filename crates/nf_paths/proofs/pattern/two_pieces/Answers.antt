use Rattle.std.proofs.Common.{◌∙◌, sym, ap, option_map}
use Rattle.std.specs.Str.{chars}
use Rattle.nf_pattern.specs.Glob.{comma}
use Rattle.nf_paths.specs.Texts.{parts_of}
use Rattle.nf_paths.proofs.Components.{one_piece, two_pieces, many_pieces}
use Rattle.nf_paths.proofs.Patterns.{found, nothing_found}
use Rattle.nf_paths.proofs.pattern.two_pieces.Goals as goal

pub returns-in_err-first : goal.returns-in_err-first
returns-in_err-first c =
    ap (option_map parts_of) c.from_residual.ensures ∙ sym (one_piece (chars c.args.within.now) (nothing_found comma (chars c.args.within.now) c.parted.result c.parted.ensures (c.in_err-first.was)))

pub returns-in-Some : goal.returns-in-Some
returns-in-Some c =
    sym (many_pieces (chars c.args.within.now) (parts_of (c.in_ok-first.first, c.in_ok-first.second)) (parts_of c.in-Some.field-0)
    (found comma (chars c.args.within.now) c.parted.result _ c.parted.ensures (c.in_ok-first.was))
    (found comma (chars c.in_ok-first.second.now) c.parted-2.result _ c.parted-2.ensures c.in-Some.is))

pub returns-in-None : goal.returns-in-None
returns-in-None c =
    sym (two_pieces (chars c.args.within.now) (parts_of (c.in_ok-first.first, c.in_ok-first.second))
    (found comma (chars c.args.within.now) c.parted.result _ c.parted.ensures (c.in_ok-first.was))
    (nothing_found comma (chars c.in_ok-first.second.now) c.parted-2.result c.parted-2.ensures c.in-None.is))
