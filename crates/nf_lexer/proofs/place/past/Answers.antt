use Rattle.std.proofs.Common.{◌≡◌, ◌+◌, [], ◌∷◌, ◌++◌, get_or, take, sym, ap, ◌∙◌, arith}
use Rattle.std.proofs.lemmas.List.{append-nil, take_more}
use Rattle.nf_lexer.specs.Place.{place_after}
use Rattle.nf_lexer.proofs.Places.{along}
use Rattle.nf_lexer.proofs.place.past.Goals as goal

pub loop-b-init : goal.loop-b-init
loop-b-init c = record {
  line = omega arith;
  col = omega arith;
  placed = λ front h. h ∙ ap place_after (sym (append-nil front));
}

pub loop-b-preserved : goal.loop-b-preserved
loop-b-preserved c =
    let i = c.loop-b.b-index in
    let bs = c.args.bytes.now in
    let e : take (i + 1) bs ≡ take i bs ++ get_or bs i 0 ∷ [] = take_more bs i 0 (omega arith) in
    record {
      line = omega (arith, c.loop-b.invariant.line, c.past_byte-here.ensures.line);
      col = omega (arith, c.loop-b.invariant.col, c.past_byte-here.ensures.col);
      placed = λ front h. along front (take i bs) (take (i + 1) bs) (get_or bs i 0) c.past_byte-here.result e (c.past_byte-here.ensures.after (front ++ take i bs) (c.loop-b.invariant.placed front h));
    }
