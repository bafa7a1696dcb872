use Rattle.std.proofs.Common.{arith}
use Rattle.nf_lexer.specs.Tokens.{too_long}
use Rattle.nf_lexer.proofs.OneAnswer.{refused_long}
use Rattle.nf_lexer.proofs.lexer.tokens.Goals as goal

pub returns-then-text-gt-MOST_BYTES-clause-gives : goal.returns-then-text-gt-MOST_BYTES-clause-gives
returns-then-text-gt-MOST_BYTES-clause-gives c = too_long (omega (arith, c.if-text-gt-MOST_BYTES.true))

pub returns-clause-long : goal.returns-clause-long
returns-clause-long c = (refused_long c.args.text.now c.short_tokens.result c.short_tokens.ensures, λ h. absurd (omega (arith, c.if-text-gt-MOST_BYTES.false, h)))
