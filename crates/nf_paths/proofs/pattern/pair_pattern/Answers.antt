use Rattle.std.proofs.Common.{◌∙◌, sym, ap, option_map, Some, None}
use Rattle.std.specs.Str.{chars}
use Rattle.nf_pattern.specs.Glob.{star, opening, closing}
use Rattle.nf_paths.specs.Texts.{parts_of, pattern_of}
use Rattle.nf_paths.proofs.Patterns.{found, pattern_by, checked_is, unchecked_is}
use Rattle.nf_paths.proofs.pattern.pair_pattern.Goals as goal

pub returns-in_err-first : goal.returns-in_err-first
returns-in_err-first c =
    ap (option_map pattern_of) c.from_residual-in_err-first.ensures ∙ sym (pattern_by (chars c.args.component.now) _ _ _ None
    (found star (chars c.args.component.now) c.parted.result (c.in_ok-front.front, c.in_ok-front.rest) c.parted.ensures (c.in_ok-front.was))
    (found opening (chars c.in_ok-front.rest.now) c.parted-2.result (c.in_ok-between.between, c.in_ok-between.rest) c.parted-2.ensures (c.in_ok-between.was))
    (found closing (chars c.in_ok-between.rest.now) c.parted-3.result (c.in_ok-within.within, c.in_ok-within.back) c.parted-3.ensures (c.in_ok-within.was))
    (sym c.two_pieces.ensures ∙ ap (option_map parts_of) (c.in_err-first.was)))

pub returns-then-has_one_glob : goal.returns-then-has_one_glob
returns-then-has_one_glob c =
    sym (pattern_by (chars c.args.component.now) _ _ _ (Some (parts_of (c.in_ok-first.first, c.in_ok-first.second)))
    (found star (chars c.args.component.now) c.parted.result (c.in_ok-front.front, c.in_ok-front.rest) c.parted.ensures (c.in_ok-front.was))
    (found opening (chars c.in_ok-front.rest.now) c.parted-2.result (c.in_ok-between.between, c.in_ok-between.rest) c.parted-2.ensures (c.in_ok-between.was))
    (found closing (chars c.in_ok-between.rest.now) c.parted-3.result (c.in_ok-within.within, c.in_ok-within.back) c.parted-3.ensures (c.in_ok-within.was))
    (sym c.two_pieces.ensures ∙ ap (option_map parts_of) (c.in_ok-first.was))
    ∙ checked_is _ (sym c.has_one_glob.ensures ∙ c.if-has_one_glob.true))

pub returns-else-has_one_glob : goal.returns-else-has_one_glob
returns-else-has_one_glob c =
    sym (pattern_by (chars c.args.component.now) _ _ _ (Some (parts_of (c.in_ok-first.first, c.in_ok-first.second)))
    (found star (chars c.args.component.now) c.parted.result (c.in_ok-front.front, c.in_ok-front.rest) c.parted.ensures (c.in_ok-front.was))
    (found opening (chars c.in_ok-front.rest.now) c.parted-2.result (c.in_ok-between.between, c.in_ok-between.rest) c.parted-2.ensures (c.in_ok-between.was))
    (found closing (chars c.in_ok-between.rest.now) c.parted-3.result (c.in_ok-within.within, c.in_ok-within.back) c.parted-3.ensures (c.in_ok-within.was))
    (sym c.two_pieces.ensures ∙ ap (option_map parts_of) (c.in_ok-first.was))
    ∙ unchecked_is (record { front = chars c.in_ok-front.front.now; between = chars c.in_ok-between.between.now; first = chars c.in_ok-first.first.now; second = chars c.in_ok-first.second.now; back = chars c.in_ok-within.back.now }) (sym c.has_one_glob.ensures ∙ c.if-has_one_glob.false))
