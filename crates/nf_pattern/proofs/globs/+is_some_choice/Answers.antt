use Rattle.std.proofs.Common.{◌∙◌, None, rules}
use Rattle.std.specs.Str.{chars}
use Rattle.nf_pattern.specs.Glob.{spelled, pieces}
use Rattle.nf_pattern.specs.Parts.{chosen_characters}
use Rattle.nf_pattern.specs.declared.parts.Parts.{Part}
use Rattle.nf_pattern.proofs.Choosing.{alone, by_pieces, found_piece, next_piece, last_piece, chosen-Part, characters-Part, characters-End}
use Rattle.nf_pattern.proofs.globs.+is_some_choice.Goals as goal

pub returns-in_default : goal.returns-in_default
returns-in_default t c = alone (chosen_characters c.args.chosen.now) (chars c.args.rest.now) (chars c.args.name.now) c.is_match_of_all.result c.in_default.ensures.spelled (rw (characters-Part, characters-End) at c.is_match_of_all.ensures)

pub returns-then-is_some_choice : goal.returns-then-is_some_choice
returns-then-is_some_choice t c =
    let b = chosen_characters (Part c.in-Some.found.before c.args.chosen) in
    let whole = by_pieces (chosen_characters c.args.chosen.now) b (chars c.in-Some.found.before.now) (chars c.in-Some.found.within.now) (chars c.in-Some.found.after.now) (chars c.args.name.now) (chars c.args.rest.now) (chosen-Part c.in-Some.found.before c.args.chosen) c.in-Some.ensures.spelled in
    found_piece _ b (chars c.in-Some-first_piece.piece.now) (chars c.args.name.now) _ _ (spelled None (chars c.in-Some.found.after.now)) (whole ∙ c.loop-piece.invariant.same) c.in-Some-first_piece.ensures.pieces (rw chosen-Part at c.if-is_some_choice.ensures)

pub loop-piece-preserved : goal.loop-piece-preserved
loop-piece-preserved t c =
    let b = chosen_characters (Part c.in-Some.found.before c.args.chosen) in
    record {
      is_text = search rules;
      same = next_piece _ b (chars c.in-Some-first_piece.piece.now) (chars c.args.name.now) _ (pieces (chars c.in-Some-first_piece.others.now)) (spelled None (chars c.in-Some.found.after.now)) c.loop-piece.invariant.same c.in-Some-first_piece.ensures.pieces (rw chosen-Part at c.if-is_some_choice.ensures);
    }

pub returns : goal.returns
returns t c =
    let b = chosen_characters (Part c.in-Some.found.before c.args.chosen) in
    let whole = by_pieces (chosen_characters c.args.chosen.now) b (chars c.in-Some.found.before.now) (chars c.in-Some.found.within.now) (chars c.in-Some.found.after.now) (chars c.args.name.now) (chars c.args.rest.now) (chosen-Part c.in-Some.found.before c.args.chosen) c.in-Some.ensures.spelled in
    last_piece _ c.is_some_choice-2.result b (chars c.loop-piece.left.now) (chars c.args.name.now) _ (spelled None (chars c.in-Some.found.after.now)) (whole ∙ c.loop-piece.invariant.same) c.in_default-first_piece.ensures.pieces (rw chosen-Part at c.is_some_choice-2.ensures)
