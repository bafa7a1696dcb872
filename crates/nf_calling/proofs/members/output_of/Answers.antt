use Rattle.std.proofs.Common.{◌≡◌, Err, IfOk, List, map, rules, subst}
use Rattle.nf_ast.specs.View.{view}
use Rattle.nf_value.specs.View.{plain_of}
use Rattle.nf_scopes.specs.declared.things.CallOutput.{CallOutput}
use Rattle.nf_scopes.specs.declared.things.Thing.{Thing}
use Rattle.nf_scopes.specs.Things.{output_of, thing_of}
use Rattle.nf_follows.specs.Things.{ThingReads}
use Rattle.nf_leading.specs.Wanted.{IsOutputAt, IsPortOf}
use Rattle.nf_walked.specs.Around.{Knows}
use Rattle.nf_calling.proofs.Places.{index_fails, index_given, index_of_channel, index_of_value}
use Rattle.nf_calling.proofs.members.output_of.Goals as goal

pub returns : goal.returns
returns g c =
    index_of_value (Knows g.N.Natives.titles g.N.Natives.answer c.args.walker.now) c.args.begin c.args.place (view c.args.index.now) c.args.state.now c.requires.before.lowering c.args.thing c.in-Known.field-0 c.bad_option-in-Known.result c.in-Known.is c.bad_option-in-Known.ensures

pub returns-in-Channel : goal.returns-in-Channel
returns-in-Channel g c =
    index_of_channel (Knows g.N.Natives.titles g.N.Natives.answer c.args.walker.now) c.args.begin c.args.place (view c.args.index.now) c.args.state.now c.requires.before.lowering c.args.thing c.in-Channel.field-0 c.bad_option.result c.in-Channel.is c.bad_option.ensures

pub returns-in_err-at-in-Outputs : goal.returns-in_err-at-in-Outputs
returns-in_err-at-in-Outputs g c =
    let e = c.in_err-at-in-Outputs.field-0.0 in
    let err : c.from_residual.result ≡ Err e = search rules in
    rw err (index_fails (Knows g.N.Natives.titles g.N.Natives.answer c.args.walker.now) c.args.begin c.args.place (view c.args.index.now) c.args.state.now c.requires.before.lowering c.args.thing c.in-Outputs.outputs c.in-Outputs.is e c.in_err-at-in-Outputs.ensures)

pub returns-in-Outputs : goal.returns-in-Outputs
returns-in-Outputs g c =
    let at = c.in_ok-at-in-Outputs.at in
    let os = c.in-Outputs.outputs in
    let r = c.output_at.result in
    let same : c.deref.result.now ≡ os.items = search rules in
    let P : Thing → Type 0 = λ t. ThingReads c.args.state.now.plan (thing_of t) in
    let W : List CallOutput → Type 0 = λ xs. IsOutputAt c.args.place c.begins_at.result (plain_of at) xs r in
    let Q : List CallOutput → Type 0 = λ xs. IfOk r (λ t. IsPortOf (map output_of xs) (thing_of t)) in
    index_given (Knows g.N.Natives.titles g.N.Natives.answer c.args.walker.now) c.args.begin c.args.place (view c.args.index.now) c.args.state.now c.requires.before.lowering c.args.thing os c.in-Outputs.is at c.begins_at.result r
    c.begins_at.ensures c.in_ok-at-in-Outputs.ensures (subst W same c.output_at.ensures.walk) (subst Q same c.output_at.ensures.port) (subst P c.in-Outputs.is c.requires.reads)
