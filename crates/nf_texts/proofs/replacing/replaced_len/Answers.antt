use Rattle.std.proofs.Common.{ap, arith, rules, length}
use Rattle.nf_texts.proofs.Rewriting.{replaced_none, replaced_falls, len_more}
use Rattle.nf_texts.proofs.replacing.replaced_len.Goals as goal

pub loop-front-preserved : goal.loop-front-preserved
loop-front-preserved c = record {
  is_text = search rules;
  small = omega (arith, c.capped_len-len.ensures);
  same = len_more c.args.from.now c.args.to.now c.loop-front.left.now c.in-Some.front.now c.in-Some.rest.now c.loop-front.len c.capped_len-before.result c.capped_len-len.result _ c.requires c.in-Some.ensures.cases c.capped_len-before.ensures c.capped_len-len.ensures c.loop-front.invariant.same;
}

pub loop-front-smaller : goal.loop-front-smaller
loop-front-smaller c = replaced_falls c.args.from.now c.loop-front.left.now c.in-Some.front.now c.in-Some.rest.now c.requires c.in-Some.ensures.cases

pub returns : goal.returns
returns c = omega (arith, c.capped_len.ensures, ap length (replaced_none c.args.from.now c.args.to.now c.loop-front.left.now c.in_default.ensures.cases), c.loop-front.invariant.same)
