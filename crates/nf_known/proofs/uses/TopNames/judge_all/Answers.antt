use Rattle.std.proofs.Common.{◌≤◌, ◌+◌, length, sym, subst, arith}
use Rattle.nf_callees.specs.Found.{defined_in}
use Rattle.nf_known.specs.Judged.{IsMore, JudgesAt}
use Rattle.nf_known.proofs.Rounds.{Goes, goes_first, goes_more, goes_on, round_ends}
use Rattle.nf_known.proofs.uses.TopNames.judge_all.Goals as goal
use Rattle.nf_known.proofs.uses.TopNames.judge_all.Goals.{then-branch, else-branch}

pub loop-at-init : goal.loop-at-init
loop-at-init g c = (λ given program h. h, goes_first (defined_in c.args.self.now.definitions) c.args.functions.now.entries c.args.judged.now.entries)

pub loop-at-preserved : goal.loop-at-preserved
loop-at-preserved g c =
    let ds = defined_in c.args.self.now.definitions in
    let fs = c.args.functions.now.entries in
    let old = c.args.judged.now.entries in
    let mid = c.loop-at.judged.entries in
    let new = c.judge_at.new.judged.entries in
    let at = c.loop-at.at in
    let more = c.loop-at.more in (
      λ given program h. c.in_ok-judge_at.ensures.judged given program (c.loop-at.invariant.0 given program h),
      elim c.if-branch.branch [
        | then-branch w ↦ subst (λ b. Goes ds fs (at + 1) b old new) (sym w.more-is)
            (goes_more ds fs at more old mid new c.loop-at.invariant.1 (subst (λ b. IsMore ds b mid new) w.if-branch.true c.in_ok-judge_at.ensures.more))
        | else-branch w ↦ subst (λ b. Goes ds fs (at + 1) b old new) (sym w.more-is)
            (goes_on ds fs at more old mid new c.loop-at.invariant.1 (subst (λ b. IsMore ds b mid new) w.if-branch.false c.in_ok-judge_at.ensures.more)
            (subst (λ b. JudgesAt ds fs at new b) w.if-branch.false c.in_ok-judge_at.ensures.settled))
      ],
    )

pub returns-clause-whole : goal.returns-clause-whole
returns-clause-whole g c =
    let fs = c.args.functions.now.entries in
    let all : length fs ≤ c.loop-at.at = omega (arith, c.len-at-end.ensures.len, c.loop-at-test.false) in
    round_ends (defined_in c.args.self.now.definitions) fs c.loop-at.at c.loop-at.more c.args.judged.now.entries c.loop-at.judged.entries c.requires all c.loop-at.invariant.1
