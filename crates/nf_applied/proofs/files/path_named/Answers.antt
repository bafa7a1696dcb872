use Rattle.std.proofs.Common.{[], refl, subst, sym}
use Rattle.nf_arguments.specs.Args.{IsOne, written_arg}
use Rattle.nf_arguments.specs.declared.one.One.{One}
use Rattle.nf_meaning.specs.Sources as meaning
use Rattle.nf_meaning.specs.declared.fault.LowerFault.TheVariants.{BadOption}
use Rattle.nf_walked.specs.Around.{Knows}
use Rattle.nf_applied.proofs.Looking.{never_read, no_label_before, written_read}
use Rattle.nf_applied.proofs.files.path_named.Goals as goal

pub path_written-requires-clause-label : goal.path_written-requires-clause-label
path_written-requires-clause-label g c =
    let P : One → Type 0 = λ o. IsOne (λ i out. []) o (written_arg c.in-Written.arg) in
    c.requires.label (λ i out. []) (written_arg c.in-Written.arg) (subst P (sym c.in-Written.is) refl)

pub returns-in-Written : goal.returns-in-Written
returns-in-Written g c =
    written_read (Knows g.N.Natives.titles g.N.Natives.answer c.args.walker.now) c.args.arg c.args.given (meaning.must_exist (c.args.place, c.args.name.now)) c.args.state.now c.path_written.result c.in-Written.arg c.in-Written.is
    c.path_written.ensures

pub returns-in-Before : goal.returns-in-Before
returns-in-Before g c =
    let K = Knows g.N.Natives.titles g.N.Natives.answer c.args.walker.now in
    let u = meaning.must_exist (c.args.place, c.args.name.now) in
    rw c.bad_option.ensures
    (never_read K c.args.arg c.args.given u c.args.state.now c.bad_option.result
    (no_label_before K c.args.arg c.args.given u c.args.state.now c.bad_option.result c.in-Before.before c.args.place c.args.name.now c.in-Before.is c.requires.label) (BadOption c.in-Before.before.place))
