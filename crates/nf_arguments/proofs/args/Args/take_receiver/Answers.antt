use Rattle.std.proofs.Common.{◌≡◌, ◌∙◌, rules, List, [], None, Some, refl, sym, ap}
use Rattle.nf_ast.specs.declared.expr.Arg.{Arg}
use Rattle.nf_arguments.specs.Written.{AreNamed, IsAroundFirst}
use Rattle.nf_arguments.proofs.Splits.{in_row, receives_arg, receives_before, receives_closure, receives_none}
use Rattle.nf_arguments.proofs.args.Args.take_receiver.Goals as goal

pub returns-in-Some : goal.returns-in-Some
returns-in-Some c =
    receives_before c.args.self.now (record c.args.self.now { before = c.take.new.self }) c.take.ensures.after c.in-Some.before (sym c.take.ensures.value ∙ c.in-Some.is) refl

pub returns-in-Some-around_unnamed : goal.returns-in-Some-around_unnamed
returns-in-Some-around_unnamed c =
    let x = c.args.self.now in
    let at = c.in-Some-around_unnamed in
    let none : x.before ≡ None = search rules in
    let split : IsAroundFirst x.args.now at.options.now at.first.now at.args.now = search rules in
    receives_arg x (record x { before = c.take.new.self; options = at.options; args = at.args }) c.take.ensures.after at.first x.closure x.args.now at.options.now at.args.now none split
    (ap (λ (os : List Arg). in_row os x.args.now x.closure) c.requires) refl

pub returns-in-Some-take : goal.returns-in-Some-take
returns-in-Some-take c =
    let x = c.args.self.now in
    let none : x.before ≡ None = search rules in
    let named : AreNamed x.args.now = search rules in
    let was : x.closure ≡ Some c.in-Some-take.closure = sym c.take-2.ensures.value ∙ c.in-Some-take.is in
    receives_closure x (record x { before = c.take.new.self; closure = c.take-2.new.self }) c.take.ensures.after c.in-Some-take.closure x.args.now none named
    (ap (λ (os : List Arg). in_row os x.args.now x.closure) c.requires ∙ ap (λ o. in_row [] x.args.now o) was)
    (ap (λ (os : List Arg). in_row os x.args.now c.take-2.new.self) c.requires ∙ ap (λ o. in_row [] x.args.now o) c.take-2.ensures.after)

pub returns-in-None : goal.returns-in-None
returns-in-None c =
    let x = c.args.self.now in
    let none : x.before ≡ None = search rules in
    let named : AreNamed x.args.now = search rules in
    let was : x.closure ≡ None = sym c.take-2.ensures.value ∙ c.in-None.is in
    receives_none x x.args.now none named (ap (λ (os : List Arg). in_row os x.args.now x.closure) c.requires ∙ ap (λ o. in_row [] x.args.now o) was)
