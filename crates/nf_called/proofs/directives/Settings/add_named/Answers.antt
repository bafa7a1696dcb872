use Rattle.std.proofs.Common.{◌≡◌, Err, map, rules}
use Rattle.nf_ast.specs.View.{trees, view_arg}
use Rattle.nf_meaning.specs.Directives.{publish}
use Rattle.nf_lowered.proofs.Joining.{fault_on}
use Rattle.nf_called.specs.declared.directives.DirectiveKind.TheVariants as kind
use Rattle.nf_called.specs.Directives.{kind_of, only_expression, retries_arg, strategy_arg}
use Rattle.nf_called.proofs.ByName.{kind_is}
use Rattle.nf_called.proofs.Settled.{cpus_step, tag_step, strategy_step, retries_step, publish_step, same_step}
use Rattle.nf_called.proofs.Steps.{fault_as}
use Rattle.nf_called.proofs.directives.Settings.add_named.Goals as goal

pub returns-in_err-only_expression-in-Cpus : goal.returns-in_err-only_expression-in-Cpus
returns-in_err-only_expression-in-Cpus g c = λ m are.
    let x = g.F.Formulas.inside c.args.formulas.now in
    let p = c.args.place in
    let n = c.args.name.now in
    let xs = trees (map view_arg c.args.args.now) in
    let e = c.in_err-only_expression-in-Cpus.field-0.0 in
    let err : c.from_residual.result ≡ Err e = search rules in
    let is : kind_of n ≡ kind.Cpus = search rules in
    rw err (fault_as _ _ e (kind_is x p n xs m kind.Cpus is) (fault_on (only_expression x p xs) _ e c.in_err-only_expression-in-Cpus.ensures))

pub returns-in_err-only_expression-in-Tag : goal.returns-in_err-only_expression-in-Tag
returns-in_err-only_expression-in-Tag g c = λ m are.
    let x = g.F.Formulas.inside c.args.formulas.now in
    let p = c.args.place in
    let n = c.args.name.now in
    let xs = trees (map view_arg c.args.args.now) in
    let e = c.in_err-only_expression-in-Tag.field-0.0 in
    let err : c.from_residual-in_err-only_expression-in-Tag.result ≡ Err e = search rules in
    let is : kind_of n ≡ kind.Tag = search rules in
    rw err (fault_as _ _ e (kind_is x p n xs m kind.Tag is) (fault_on (only_expression x p xs) _ e c.in_err-only_expression-in-Tag.ensures))

pub returns-in_err-word-in-Strategy : goal.returns-in_err-word-in-Strategy
returns-in_err-word-in-Strategy g c = λ m are.
    let x = g.F.Formulas.inside c.args.formulas.now in
    let p = c.args.place in
    let n = c.args.name.now in
    let xs = trees (map view_arg c.args.args.now) in
    let e = c.in_err-word-in-Strategy.field-0.0 in
    let err : c.from_residual-in_err-word-in-Strategy.result ≡ Err e = search rules in
    let is : kind_of n ≡ kind.Strategy = search rules in
    rw err (fault_as _ _ e (kind_is x p n xs m kind.Strategy is) (fault_on (strategy_arg p xs) _ e c.in_err-word-in-Strategy.ensures))

pub returns-in_err-times-in-Retries : goal.returns-in_err-times-in-Retries
returns-in_err-times-in-Retries g c = λ m are.
    let x = g.F.Formulas.inside c.args.formulas.now in
    let p = c.args.place in
    let n = c.args.name.now in
    let xs = trees (map view_arg c.args.args.now) in
    let e = c.in_err-times-in-Retries.field-0.0 in
    let err : c.from_residual-in_err-times-in-Retries.result ≡ Err e = search rules in
    let is : kind_of n ≡ kind.Retries = search rules in
    rw err (fault_as _ _ e (kind_is x p n xs m kind.Retries is) (fault_on (retries_arg p xs) _ e c.in_err-times-in-Retries.ensures))

pub returns-in_err-publish-in-Publish : goal.returns-in_err-publish-in-Publish
returns-in_err-publish-in-Publish g c = λ m are.
    let x = g.F.Formulas.inside c.args.formulas.now in
    let p = c.args.place in
    let n = c.args.name.now in
    let xs = trees (map view_arg c.args.args.now) in
    let e = c.in_err-publish-in-Publish.field-0.0 in
    let err : c.from_residual-in_err-publish-in-Publish.result ≡ Err e = search rules in
    let is : kind_of n ≡ kind.Publish = search rules in
    rw err (fault_as _ _ e (kind_is x p n xs m kind.Publish is) (fault_on (publish x p xs) _ e c.in_err-publish-in-Publish.ensures))

pub returns-in_ok-only_expression-in-Cpus : goal.returns-in_ok-only_expression-in-Cpus
returns-in_ok-only_expression-in-Cpus g c = λ m are.
    let x = g.F.Formulas.inside c.args.formulas.now in
    let p = c.args.place in
    let n = c.args.name.now in
    let xs = trees (map view_arg c.args.args.now) in
    let gp = g.F.Formulas.program c.args.formulas.now in
    let is : kind_of n ≡ kind.Cpus = search rules in
    cpus_step x p n xs m gp c.args.self.now are is c.in_ok-only_expression-in-Cpus.field-0 c.in_ok-only_expression-in-Cpus.ensures

pub returns-in_ok-only_expression-in-Tag : goal.returns-in_ok-only_expression-in-Tag
returns-in_ok-only_expression-in-Tag g c = λ m are.
    let x = g.F.Formulas.inside c.args.formulas.now in
    let p = c.args.place in
    let n = c.args.name.now in
    let xs = trees (map view_arg c.args.args.now) in
    let gp = g.F.Formulas.program c.args.formulas.now in
    let is : kind_of n ≡ kind.Tag = search rules in
    tag_step x p n xs m gp c.args.self.now are is c.in_ok-only_expression-in-Tag.field-0 c.in_ok-only_expression-in-Tag.ensures

pub returns-in_ok-word-in-Strategy : goal.returns-in_ok-word-in-Strategy
returns-in_ok-word-in-Strategy g c = λ m are.
    let x = g.F.Formulas.inside c.args.formulas.now in
    let p = c.args.place in
    let n = c.args.name.now in
    let xs = trees (map view_arg c.args.args.now) in
    let gp = g.F.Formulas.program c.args.formulas.now in
    let is : kind_of n ≡ kind.Strategy = search rules in
    strategy_step x p n xs m gp c.args.self.now are is c.in_ok-word-in-Strategy.word c.in_ok-word-in-Strategy.ensures

pub returns-in_ok-times-in-Retries : goal.returns-in_ok-times-in-Retries
returns-in_ok-times-in-Retries g c = λ m are.
    let x = g.F.Formulas.inside c.args.formulas.now in
    let p = c.args.place in
    let n = c.args.name.now in
    let xs = trees (map view_arg c.args.args.now) in
    let gp = g.F.Formulas.program c.args.formulas.now in
    let is : kind_of n ≡ kind.Retries = search rules in
    retries_step x p n xs m gp c.args.self.now are is c.in_ok-times-in-Retries.times c.in_ok-times-in-Retries.ensures

pub returns-in_ok-push-in-Publish : goal.returns-in_ok-push-in-Publish
returns-in_ok-push-in-Publish g c = λ m are.
    let x = g.F.Formulas.inside c.args.formulas.now in
    let p = c.args.place in
    let n = c.args.name.now in
    let xs = trees (map view_arg c.args.args.now) in
    let gp = g.F.Formulas.program c.args.formulas.now in
    let is : kind_of n ≡ kind.Publish = search rules in
    publish_step x p n xs m gp c.args.self.now are is c.in_ok-publish-in-Publish.publish c.push.new.self (search rules) c.in_ok-publish-in-Publish.ensures

pub returns-in-WithoutEffect : goal.returns-in-WithoutEffect
returns-in-WithoutEffect g c = λ m are.
    let x = g.F.Formulas.inside c.args.formulas.now in
    let p = c.args.place in
    let n = c.args.name.now in
    let xs = trees (map view_arg c.args.args.now) in
    let gp = g.F.Formulas.program c.args.formulas.now in
    let is : kind_of n ≡ kind.WithoutEffect = search rules in
    same_step x p n xs m gp c.args.self.now are is

pub returns-in-Unknown : goal.returns-in-Unknown
returns-in-Unknown g c = λ m are.
    let x = g.F.Formulas.inside c.args.formulas.now in
    let p = c.args.place in
    let n = c.args.name.now in
    let xs = trees (map view_arg c.args.args.now) in
    let is : kind_of n ≡ kind.Unknown = search rules in
    kind_is x p n xs m kind.Unknown is
