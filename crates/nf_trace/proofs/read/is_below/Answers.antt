use Rattle.std.proofs.Common.{◌≡◌, ◌∙◌, rules}
use Rattle.std.specs.Ordering.{nat_cmp, is_lt}
use Rattle.std.specs.Cmp.Lexicographic.{slice_cmp}
use Rattle.nf_trace.proofs.Numbers.{below_by_length, below_by_bytes}
use Rattle.nf_trace.proofs.read.is_below.Goals as goal

pub returns-then-a-b : goal.returns-then-a-b
returns-then-a-b c =
    let e : c.lt.result ≡ is_lt (slice_cmp nat_cmp c.args.a.now c.args.b.now) = search rules in
    e ∙ below_by_bytes c.args.a.now c.args.b.now c.requires.a c.requires.b c.if-a-b.true

pub returns-else-a-b : goal.returns-else-a-b
returns-else-a-b c = below_by_length c.args.a.now c.args.b.now c.requires.a c.requires.b c.if-a-b.false
