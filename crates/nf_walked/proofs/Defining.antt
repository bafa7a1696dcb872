-- `def`, of one name and of several.
use Rattle.std.proofs.Common.{◌≡◌, ℕ, Bool, true, false, Result, Err, List, sym, ap, subst, ◌∙◌}
use Rattle.nf_value.specs.declared.place.Place.{Place}
use Rattle.nf_ast.specs.Tree as tree
use Rattle.nf_ast.specs.Tree.{Tree}
use Rattle.nf_builtins.specs.Natives.{is_among}
use Rattle.nf_meaning.specs.declared.fault.LowerFault.{LowerFault}
use Rattle.nf_meaning.specs.declared.fault.LowerFault.TheVariants.{TwiceDefined}
use Rattle.nf_meaning.specs.Lowered.{fault_if}
use Rattle.nf_meaning.specs.Things as meaning
use Rattle.nf_meaning.specs.Walk.{◌>>=◌, Walk, defining, unless_fault, with_scope}
use Rattle.nf_meaning.specs.Workflow.{define_one}
use Rattle.nf_scopes.specs.Standing.{NamesStand, TellsDefined}
use Rattle.nf_scopes.specs.declared.names.BodyNames.{BodyNames}
use Rattle.nf_plan.specs.Runs.{bags_of}
use Rattle.nf_lowering.specs.declared.state.Lowering.{Lowering}
use Rattle.nf_lowering.specs.State.{IsLowering}
use Rattle.nf_walked.specs.Forms.{nothing}
use Rattle.nf_walked.specs.Steps.{Known, Point, StandsAt, Walked, due}
use Rattle.nf_walked.proofs.Stills.{alike, refused_here}

-- ---- one name

-- whether the name is bound between the innermost braces, as the names in memory tell it
abbrev pub Tells : BodyNames → Lowering → List ℕ → Bool → Type 0
Tells names z n b = (names ≡ z.names) × TellsDefined names n b

told : (K : Known) (names : BodyNames) (z : Lowering) (n : List ℕ) (b : Bool) → Tells names z n b → (p : Point) → StandsAt K p z → b ≡ is_among n p.state.scope.defined
told K names z n b tells p stands =
    tells.1 (bags_of p.run z.plan) p.braces p.state.scope
    (let P : BodyNames → Type 0 = λ x. NamesStand (bags_of p.run z.plan) p.braces x p.state.scope in subst P (sym tells.0) stands.body.names)

module _ (K : Known) (n : List ℕ) (q : Place) (w : Walk meaning.Thing) where
  -- what is left once it is known whether the name is bound
  abbrev after : Bool → Walk (Unit {0})
  after b = unless_fault (fault_if b (TwiceDefined q)) >>= λ v. w >>= λ t. with_scope (defining n t)

  by_test : (p : Point) (b : Bool) → b ≡ is_among n p.state.scope.defined → define_one (tree.name q n) w p.around p.state ≡ after b p.around p.state
  by_test p b e = ap (λ c. after c p.around p.state) (sym e)

  pub defined_twice : (names : BodyNames) (z : Lowering) (b : Bool) → IsLowering z → Tells names z n b → b ≡ true → Walked K (due nothing (define_one (tree.name q n) w)) z z (Err (TwiceDefined q))
  defined_twice names z b keeps tells is_so =
      refused_here K (due nothing (define_one (tree.name q n) w)) z (TwiceDefined q) keeps
      (λ p y stands is. by_test p true (sym is_so ∙ told K names z n b tells p stands))

  pub defined_anew : (names : BodyNames) (z new : Lowering) (b : Bool) (r : Result (Unit {0}) LowerFault) → Tells names z n b → b ≡ false
      → Walked K (due nothing (w >>= λ t. with_scope (defining n t))) z new r → Walked K (due nothing (define_one (tree.name q n) w)) z new r
  defined_anew names z new b r tells is_not h =
      alike K (due nothing (w >>= λ t. with_scope (defining n t))) (λ p z y. Unit {0}) (λ y. define_one (tree.name q n) w) z new r h
      (λ p y stands is. (tt, tt, sym (by_test p false (sym is_not ∙ told K names z n b tells p stands))))
