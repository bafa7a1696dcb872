use Rattle.std.proofs.Common.{refl, eq-eqb, arith}
use Rattle.std.proofs.lemmas.Bool.{ne_eqb}
use Rattle.nf_lexer.proofs.Places.{next_line_after, further_after}
use Rattle.nf_lexer.proofs.place.past_byte.Goals as goal

pub returns-then-b-eq10-clause-after : goal.returns-then-b-eq10-clause-after
returns-then-b-eq10-clause-after c = λ front h. next_line_after front c.args.b c.args.place _ (eq-eqb c.args.b 10 (omega arith)) h refl refl

pub returns-else-b-eq10-clause-after : goal.returns-else-b-eq10-clause-after
returns-else-b-eq10-clause-after c = λ front h. further_after front c.args.b c.args.place c.further.result (ne_eqb c.args.b 10 c.if-b-eq10.false) h c.further.ensures
