use Rattle.std.proofs.Common.{ap, ◌∙◌, is_some, arith}
use Rattle.regex.specs.Patterns.{find_str}
use Rattle.nf_pattern.specs.Wrapped.{wrapped}
use Rattle.nf_pattern.proofs.Wholes.{found_of_regex}
use Rattle.nf_pattern.proofs.whole.WholeRe.matches_whole.Goals as goal

pub returns : goal.returns
returns c =
    found_of_regex c.self.inside.regex (wrapped c.args.self.now) c.args.text.now c.is_match.result (c.self.invariant.0 ∙ ap wrapped c.self.view_is) c.self.invariant.1 c.self.invariant.2 (λ k. omega (arith, c.type_inv.text k))
    (c.is_match.ensures.found ∙ ap (λ p. is_some (find_str p c.args.text.now 0)) c.in_ok-matcher.ensures.pattern)
