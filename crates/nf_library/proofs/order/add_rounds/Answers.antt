use Rattle.std.proofs.Common.{◌≡◌, ◌∙◌, [], ap, refl, subst, rules}
use Rattle.std.proofs.lemmas.List.{nil_from_length}
use Rattle.nf_library.specs.Stages.{GoesOn, defined_by}
use Rattle.nf_library.proofs.Staged.{first_stage, last_stage}
use Rattle.nf_library.proofs.order.add_rounds.Goals as goal

pub rounds-init : goal.rounds-init
rounds-init c = (
  first_stage (defined_by c.args.left.items) c.args.names.now.keys c.new-placed.result.keys (defined_by c.args.left.items) c.args.library.now c.requires.names c.new-placed.ensures.empty refl c.requires.none,
  refl,
)

pub rounds-preserved : goal.rounds-preserved
rounds-preserved c =
    let ds = defined_by c.args.left.items in (
      subst (λ more. GoesOn more ds c.args.names.now.keys c.round.new.placed.keys (defined_by c.round.new.left.items) c.round.new.library) c.if-not-had_one.false (c.in_ok-had_one.ensures.goes ds c.rounds.invariant.0),
      c.in_ok-had_one.ensures.patterns ∙ c.rounds.invariant.1,
    )

pub returns-then-not-had_one-clause-functions : goal.returns-then-not-had_one-clause-functions
returns-then-not-had_one-clause-functions c =
    let ds = defined_by c.args.left.items in
    subst (λ more. GoesOn more ds c.args.names.now.keys c.round.new.placed.keys (defined_by c.round.new.left.items) c.round.new.library) c.if-not-had_one.true (c.in_ok-had_one.ensures.goes ds c.rounds.invariant.0)

pub returns-clause-functions : goal.returns-clause-functions
returns-clause-functions c =
    let none : defined_by c.rounds.left.items ≡ [] = ap defined_by (nil_from_length c.rounds.left.items (search rules)) in
    last_stage (defined_by c.args.left.items) c.args.names.now.keys c.rounds.placed.keys (defined_by c.rounds.left.items) c.rounds.library none c.rounds.invariant.0
