use Rattle.nf_bag.specs.declared.rows.Row.TheVariants as row
use Rattle.std.proofs.Common.{◌≡◌, ℕ, List, rules, subst}
use Rattle.nf_taken.specs.Bodies.{IsIn, Takes, option_walk}
use Rattle.nf_applied.proofs.Arguments.{fits_kept, keeps_same, ports_kept, taken_here}
use Rattle.nf_applied.proofs.taking.take_option.Goals as goal

pub take_option-requires : goal.take_option-requires
take_option-requires g c = keeps_same g.N.Natives.keeps c.body_at.result.around.now c.args.walker.now.around.now c.body_at.ensures.around c.requires.natives

pub returns-clause-walk : goal.returns-clause-walk
returns-clause-walk g c r x is fits =
    let name : c.as_str.result.now ≡ c.args.name.now = search rules in
    let P : List ℕ → Type 0 = λ n. Takes (IsIn g.N.Natives.titles g.N.Natives.answer c.body_at.result) c.args.taken (option_walk c.args.options (c.args.place, n) x) c.take_option.result in
    let takes = subst P name (c.take_option.ensures.takes x is) in
    taken_here g.N.Natives.titles g.N.Natives.answer c.args.walker.now c.body_at.result c.args.state.now c.requires.lowering c.body_at.ensures.same r c.args.taken (option_walk c.args.options (c.args.place, c.args.name.now) x) c.take_option.result
    (fits_kept r c.args.state.now.plan c.args.taken c.take_option.result fits (c.take_option.ensures.keeps r)) takes

pub returns-clause-ports : goal.returns-clause-ports
returns-clause-ports g c = ports_kept row.View c.args.taken c.take_option.result (c.take_option.ensures.keeps row.View)
