use Rattle.std.proofs.Common.{◌∙◌, sym, ap, rules, ◌++◌}
use Rattle.std.specs.Prelude.{string_bytes}
use Rattle.nf_texts.proofs.Rewriting.{replaced_none, replaced_falls, out_more}
use Rattle.nf_texts.proofs.replacing.replaced.Goals as goal

pub loop-front-preserved : goal.loop-front-preserved
loop-front-preserved c = record {
  is_text = search rules;
  same = out_more c.args.from.now c.args.to.now c.loop-front.left.now c.in-Some.front.now c.in-Some.rest.now (string_bytes c.loop-front.out) (string_bytes c.push_str.new.self) (string_bytes c.push_str-in-Some.new.self) _ c.requires c.in-Some.ensures.cases c.in_ok-push_str.ensures.bytes c.in_ok-push_str-2.ensures.bytes c.loop-front.invariant.same;
}

pub loop-front-smaller : goal.loop-front-smaller
loop-front-smaller c = replaced_falls c.args.from.now c.loop-front.left.now c.in-Some.front.now c.in-Some.rest.now c.requires c.in-Some.ensures.cases

pub returns : goal.returns
returns c = c.in_ok-push_str-3.ensures.bytes ∙ ap (λ l. string_bytes c.loop-front.out ++ l) (sym (replaced_none c.args.from.now c.args.to.now c.loop-front.left.now c.in_default.ensures.cases)) ∙ c.loop-front.invariant.same
