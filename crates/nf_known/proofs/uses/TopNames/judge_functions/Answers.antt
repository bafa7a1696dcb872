use Rattle.std.proofs.Common.{◌≡◌, ◌∙◌, true, sym, ap, subst, rules}
use Rattle.std.proofs.lemmas.Option.{none-some}
use Rattle.nf_callees.specs.Found.{defined_in, held}
use Rattle.nf_known.specs.Judged.{IsMore}
use Rattle.nf_known.proofs.uses.TopNames.judge_functions.Goals as goal

pub loop-at-init : goal.loop-at-init
loop-at-init g c given program n fault here = absurd (none-some fault (sym (ap (held n) c.new-judged.ensures.empty) ∙ here))

pub loop-at-preserved : goal.loop-at-preserved
loop-at-preserved g c given program = c.in_ok-judge_at.ensures.judged given program (c.loop-at.invariant given program)

pub rounds-preserved : goal.rounds-preserved
rounds-preserved g c given program = c.in_ok-judge_all.ensures.judged given program (c.rounds.invariant given program)

pub rounds-smaller : goal.rounds-smaller
rounds-smaller g c =
    let yes : c.in_ok-judge_all.field-0 ≡ true = search rules in
    subst (λ b. IsMore (defined_in c.args.self.now.definitions) b c.rounds.judged.entries c.judge_all.new.judged.entries) yes c.in_ok-judge_all.ensures.more
