use Rattle.std.proofs.Common.{refl, subst, sym}
use Rattle.nf_taken.specs.declared.wanted.Wanted.TheVariants as wanted
use Rattle.nf_taken.specs.Wanted.{IsLastOrPlain}
use Rattle.nf_taken.proofs.wanted.last_or_plain.Goals as goal

pub returns-then-is_last : goal.returns-then-is_last
returns-then-is_last c = subst (λ b. IsLastOrPlain b c.args.last c.args.args (wanted.Alone c.args.last)) (sym c.if-is_last.true) refl

pub returns-else-is_last : goal.returns-else-is_last
returns-else-is_last c = subst (λ b. IsLastOrPlain b c.args.last c.args.args c.plain.result) (sym c.if-is_last.false) c.plain.ensures
