use Rattle.std.proofs.Common.{◌≡◌, ℕ, ◌+◌, ◌*◌, List, [], ◌++◌, length, Option}
use Rattle.nf_lexer.specs.declared.fault.LexFault.{LexFault}
use Rattle.nf_lexer.specs.Joined.{Placed, nothing, joined}
use Rattle.nf_lexer.specs.Place.{place_after}
use Rattle.nf_lexer.specs.Separators.{settled}
use Rattle.nf_lexer.specs.Tokens.{Reads, at_start}
use Rattle.nf_lexer.specs.View.{joined_outcome}
use Rattle.nf_lexer.proofs.lexer.short_tokens.Given as goal

-- whatever the rest is read as, the whole is read as something of the same outcome
abbrev pub invariant-loop-joiner : goal.invariant-loop-joiner
invariant-loop-joiner l = record {
  reading : (v : List Placed) (e : Option LexFault) → Reads l.fn.text l.opened l.rest v e → (w : List Placed) × Reads l.fn.text (at_start l.fn.text) l.fn.text w e × (joined_outcome l.joiner v ≡ settled [] (joined nothing w));
  stands : (front : List ℕ) × (l.fn.text ≡ front ++ l.rest) × (l.place ≡ place_after front);
}

abbrev pub decreases-loop-joiner : goal.decreases-loop-joiner
decreases-loop-joiner l = 2 * length l.rest + length l.opened
