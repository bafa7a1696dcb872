use Rattle.std.proofs.Common.{sym, rules, arith}
use Rattle.std.proofs.lemmas.Bool.Decides.{nat_tests}
use Rattle.nf_pattern.proofs.Taking.{reaches_star, follows_one}
use Rattle.nf_pattern.proofs.plain.next_star.Goals as goal

pub returns-then-symbol-eq42 : goal.returns-then-symbol-eq42
returns-then-symbol-eq42 c = reaches_star _ _ _ _ _ c.in-Some.symbol c.loop-symbol.invariant.followed c.in-Some.ensures c.if-symbol-eq42.true

pub loop-symbol-preserved : goal.loop-symbol-preserved
loop-symbol-preserved c = record {
  is_text = search rules;
  followed = follows_one _ _ _ _ _ _ c.in-Some.symbol c.in-Some-first_char.first c.loop-symbol.invariant.followed c.in-Some.ensures c.in-Some-first_char.ensures (grind (arith, nat_tests)) (sym c.if-accepts.ensures);
}
