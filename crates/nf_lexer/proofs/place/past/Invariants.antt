use Rattle.std.proofs.Common.{◌≡◌, ◌+◌, ◌≤◌, ℕ, List, ◌++◌, take}
use Rattle.nf_lexer.specs.Place.{place_after}
use Rattle.nf_lexer.proofs.place.past.Given as goal

abbrev pub invariant-loop-b : goal.invariant-loop-b
invariant-loop-b l = record {
  line : l.here.line ≤ l.fn.place.line + l.b-index;
  col : l.here.col ≤ l.fn.place.col + l.b-index;
  placed : (front : List ℕ) → l.fn.place ≡ place_after front → l.here ≡ place_after (front ++ take l.b-index l.bytes);
}
