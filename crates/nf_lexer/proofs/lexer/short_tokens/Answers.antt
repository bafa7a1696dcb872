use Rattle.std.proofs.Common.{sym, subst, arith}
use Rattle.nf_lexer.specs.Front.{passes}
use Rattle.nf_lexer.specs.Tokens.{IsTokensOf}
use Rattle.nf_lexer.specs.View.{part_view}
use Rattle.nf_lexer.proofs.Steps.{steps_of, less_after}
use Rattle.nf_lexer.proofs.Loop.{front_small, starts, moves, reading_starts, reading_goes, finishes, stops, refuses}
use Rattle.nf_lexer.proofs.lexer.short_tokens.Goals as goal

pub loop-joiner-init : goal.loop-joiner-init
loop-joiner-init c = record {
  reading = reading_starts c.args.text.now c.new-joiner.result c.in_ok-opened.opened c.in_ok-opened.ensures c.new-joiner.ensures;
  stands = starts c.args.text.now;
}

pub first-requires : goal.first-requires
first-requires c =
    omega (arith, front_small c.args.text.now c.loop-joiner.place c.loop-joiner.rest.now c.loop-joiner.invariant.stands, c.requires)

pub returns-in-Finished : goal.returns-in-Finished
returns-in-Finished c =
    let j = c.loop-joiner in
    subst (IsTokensOf c.args.text.now) (sym c.of.ensures)
    (finishes c.args.text.now j.joiner j.place j.opened j.rest.now c.in_ok-finish-in-Finished.field-0.items c.requires j.invariant.reading j.invariant.stands c.in-Finished.ensures c.in_ok-finish-in-Finished.ensures)

pub returns-in-Broken : goal.returns-in-Broken
returns-in-Broken c =
    let j = c.loop-joiner in
    refuses c.args.text.now c.in-Broken.fault (stops c.args.text.now j.joiner j.place j.opened j.rest.now c.in-Broken.fault c.requires j.invariant.reading j.invariant.stands c.in-Broken.ensures)

pub split_at-requires : goal.split_at-requires
split_at-requires c =
    let j = c.loop-joiner in
    (steps_of j.opened j.place j.rest.now (passes (part_view c.in-Passes.part) c.in-Passes.change c.in-Passes.bytes) c.in-Passes.ensures).0

pub past-place-requires-clause-line : goal.past-place-requires-clause-line
past-place-requires-clause-line c =
    let j = c.loop-joiner in
    let s = (steps_of j.opened j.place j.rest.now (passes (part_view c.in-Passes.part) c.in-Passes.change c.in-Passes.bytes) c.in-Passes.ensures).0 in
    omega (arith, front_small c.args.text.now j.place j.rest.now j.invariant.stands, s, c.split_at.ensures.front_len, c.requires)

pub past-place-requires-clause-col : goal.past-place-requires-clause-col
past-place-requires-clause-col c =
    let j = c.loop-joiner in
    let s = (steps_of j.opened j.place j.rest.now (passes (part_view c.in-Passes.part) c.in-Passes.change c.in-Passes.bytes) c.in-Passes.ensures).0 in
    omega (arith, front_small c.args.text.now j.place j.rest.now j.invariant.stands, s, c.split_at.ensures.front_len, c.requires)

pub loop-joiner-smaller : goal.loop-joiner-smaller
loop-joiner-smaller c =
    let j = c.loop-joiner in
    let s = steps_of j.opened j.place j.rest.now (passes (part_view c.in-Passes.part) c.in-Passes.change c.in-Passes.bytes) c.in-Passes.ensures in
    less_after j.opened c.change.new.self j.rest.now c.split_at.result.1.now (part_view c.in-Passes.part) c.in-Passes.change c.in-Passes.bytes s c.in_ok-change-in-Passes.ensures c.split_at.ensures.back

pub loop-joiner-preserved : goal.loop-joiner-preserved
loop-joiner-preserved c =
    let j = c.loop-joiner in
    let text = c.args.text.now in
    let after = c.split_at.result.1.now in
    record {
      reading = reading_goes text j.joiner c.part.new.self j.place j.opened c.change.new.self j.rest.now after (part_view c.in-Passes.part) c.in-Passes.change c.in-Passes.bytes j.invariant.reading j.invariant.stands c.in-Passes.ensures c.in_ok-change-in-Passes.ensures c.split_at.ensures.back c.in_ok-part-in-Passes.ensures;
      stands = moves text j.place c.past-place.result j.rest.now c.split_at.result.0.now after c.in-Passes.bytes j.invariant.stands c.split_at.ensures.front c.split_at.ensures.back c.past-place.ensures;
    }
