use Rattle.nf_applied.proofs.Arguments.{keeps_same}
use Rattle.std.proofs.Common.{◌≡◌, ℕ, List, rules, subst}
use Rattle.nf_walked.specs.Gives.{Reads}
use Rattle.nf_meaning.specs.Sources as meaning
use Rattle.nf_taken.specs.Bodies.{IsPathArgs, path_args_of}
use Rattle.nf_applied.proofs.Looking.{option_read}
use Rattle.nf_applied.proofs.files.path_option.Goals as goal

pub path_option-requires : goal.path_option-requires
path_option-requires g c = keeps_same g.N.Natives.keeps c.body_at.result.around.now c.args.walker.now.around.now c.body_at.ensures.around c.requires.natives

pub returns : goal.returns
returns g c x is =
    let name : c.as_str.result.now ≡ c.args.name.now = search rules in
    option_read g.N.Natives.titles g.N.Natives.answer c.args.walker.now c.body_at.result c.args.state.now (c.args.place, c.args.name.now) c.args.given c.path_option.result x c.requires.lowering c.body_at.ensures.same
    (λ a s h.
    (let P : List ℕ → Type 0 = λ n. Reads IsPathArgs (meaning.must_exist (c.args.place, n) x (path_args_of c.args.given)) a s c.path_option.result in
    subst P name (c.path_option.ensures a s x h is)))
