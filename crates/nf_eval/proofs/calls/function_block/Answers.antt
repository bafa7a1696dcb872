use Rattle.std.proofs.Common.{◌≡◌, ◌∙◌, length, ap, arith}
use Rattle.std.specs.Prelude.{◌==◌, if◌then◌else◌}
use Rattle.nf_value.specs.declared.fault.EvalKind.TheVariants.{WrongKind, Arity}
use Rattle.nf_eval.specs.Memory.{seen}
use Rattle.nf_eval.proofs.Blocking.{unfit_script, unfit_native}
use Rattle.nf_eval.proofs.calls.function_block.Goals as goal

pub returns-in-Some : goal.returns-in-Some
returns-in-Some g c =
    let titles = g.N.Natives.titles c.args.natives.now in
    let answer = g.N.Natives.answer c.args.natives.now in
    let env = seen c.args.around.now titles answer in
    let f = c.in-Some.function.now in
    let params : c.len.result ≡ length f.params.items = omega (arith, c.len.ensures) in
    unfit_script c.args.place c.args.name.now env c.args.count f c.in-Some.field-0-1.now env.patterns titles answer c.kind_among.result c.fault_at.result (c.in-Some.ensures.found titles answer) (c.kind_among.ensures ∙ ap (λ k. if c.args.count == k then WrongKind else Arity) params) c.fault_at.ensures

pub returns-in-None : goal.returns-in-None
returns-in-None g c =
    let titles = g.N.Natives.titles c.args.natives.now in
    let answer = g.N.Natives.answer c.args.natives.now in
    unfit_native c.args.place c.args.name.now (seen c.args.around.now titles answer) c.args.count titles answer c.native_block.result (c.in-None.ensures.found titles answer) (c.handed_in.ensures titles answer) c.native_block.ensures
