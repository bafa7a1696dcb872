-- What expressions stand for, by what stands last in them.
use Rattle.std.proofs.Common.{◌≡◌, List, Bool, true, false, Result, ◌∷◌, [], refl, sym, ap, subst, ◌∙◌}
use Rattle.std.specs.Prelude.{map, if◌then◌else◌}
use Rattle.nf_ast.specs.declared.operators.InfixOperator.{InfixOperator}
use Rattle.nf_ast.specs.declared.operators.InfixOperator.TheVariants as infix_operator
use Rattle.nf_ast.specs.Tree as tree
use Rattle.nf_ast.specs.Tree.{Tree}
use Rattle.nf_ast.specs.View.{trees, view, view_arg, view_closure, views}
use Rattle.nf_value.specs.Plain.{null}
use Rattle.nf_value.specs.declared.place.Place.{Place}
use Rattle.nf_eval.specs.Evaluation.{opening}
use Rattle.nf_meaning.specs.declared.fault.LowerFault.{LowerFault}
use Rattle.nf_meaning.specs.Expressions.{is_leading, leads_in, value_of}
use Rattle.nf_meaning.specs.Things as meaning
use Rattle.nf_meaning.specs.Walk.{Around, State, Walk, gives}
use Rattle.nf_meaning.specs.Places.{begins_at}
use Rattle.nf_meaning.specs.Workflow.{by_kind, done_with, part_of}
use Rattle.nf_fronts.specs.declared.last.Last.{Last}
use Rattle.nf_fronts.specs.declared.last.Last.TheVariants as last
use Rattle.nf_fronts.specs.Fronts.{tree_of}
use Rattle.nf_fronts.specs.Lasts.{IsLast, is_other, maybe_tree}
use Rattle.nf_scopes.specs.declared.things.Thing.{Thing}
use Rattle.nf_lowering.specs.declared.state.Lowering.{Lowering}
use Rattle.nf_leading.proofs.Arms.{other_never}
use Rattle.nf_arguments.specs.declared.args.Args.{Args}
use Rattle.nf_arguments.specs.Args.{AreArgs}
use Rattle.nf_graph.specs.Meaning.{Bags}
use Rattle.nf_meaning.specs.Arguments as arguments
use Rattle.nf_plan.specs.Runs.{bags_of}
use Rattle.nf_walked.specs.Forms.{a_thing}
use Rattle.nf_walked.specs.Parts.{as_known, index_at, leading_at, leading_to, list_at, name_thing_at, of_args, pipe_of, turn_of}
use Rattle.nf_walked.specs.Steps.{Here, Known, Walked, due}
use Rattle.nf_walked.proofs.Stills.{alike}

-- ---- by kind

led : (e : Tree) (w : Walk meaning.Thing) (a : Around) (s : State) → is_leading a s.scope e ≡ true → by_kind e w a s ≡ w a s
led e w a s h = ap (λ b. if b then w a s else as_known (value_of e) a s) h

unled : (e : Tree) (w : Walk meaning.Thing) (a : Around) (s : State) → is_leading a s.scope e ≡ false → by_kind e w a s ≡ as_known (value_of e) a s
unled e w a s h = ap (λ b. if b then w a s else as_known (value_of e) a s) h

-- an expression is a value, or what it leads to
abbrev pub IsKinded : Tree → Type 0
IsKinded t = (w : Walk meaning.Thing) × ((part_of t).thing ≡ by_kind t w)

-- null stands where an expression leads nowhere
abbrev nowhere : Walk meaning.Thing
nowhere = gives (meaning.a_value null)

binary_kinded : (p : Place) (k : InfixOperator) (a b : Tree) → is_other (tree.binary p k a b) ≡ true → IsKinded (tree.binary p k a b)
binary_kinded p infix_operator.Pipe a b h = absurd (let e : false ≡ true = h in cc)
binary_kinded p _ a b h = (nowhere, refl)

other_kinded : (t : Tree) → is_other t ≡ true → IsKinded t
other_kinded (tree.number p z) h = (nowhere, refl)
other_kinded (tree.text p k s) h = (nowhere, refl)
other_kinded (tree.pattern p s) h = (nowhere, refl)
other_kinded (tree.template p k xs) h = (nowhere, refl)
other_kinded (tree.truth p b) h = (nowhere, refl)
other_kinded (tree.null p) h = (nowhere, refl)
other_kinded (tree.map p xs) h = (nowhere, refl)
other_kinded (tree.closure p ps b) h = (nowhere, refl)
other_kinded (tree.prefix p k e) h = (nowhere, refl)
other_kinded (tree.binary p k a b) h = binary_kinded p k a b h
other_kinded (tree.elvis p a b) h = (nowhere, refl)
other_kinded (tree.safe_property e n) h = (nowhere, refl)
other_kinded _ h = absurd (let e : false ≡ true = h in cc)

pub kinded : (t : Tree) (l : Last) → IsLast t l → IsKinded t
kinded t (last.Name p n) h = subst IsKinded (sym h) (name_thing_at n.now p, refl)
kinded t (last.List p xs) h = subst IsKinded (sym h) (list_at p (views xs.now), refl)
kinded t (last.Property f p n) h = subst IsKinded (sym h) ((part_of (tree_of f)).member p n.now, refl)
kinded t (last.Index f p i) h = subst IsKinded (sym h) (index_at (tree_of f) p (view i.now), refl)
kinded t (last.Call f p xs) h = subst IsKinded (sym h) ((part_of (tree_of f)).called p (part_of (trees (map view_arg xs.now))).arguments, refl)
kinded t (last.With f c) h =
    (let u = view_closure c.now in subst IsKinded (sym h) ((part_of (tree_of f)).closed (opening u) ((part_of u).argument ∷ []), refl))
kinded t (last.Pipe f p e) h = subst IsKinded (sym h) (pipe_of (tree_of f) (view e.now), refl)
kinded t (last.Conditional p c a b) h = subst IsKinded (sym h) (turn_of (view c.now) (tree_of a) (maybe_tree b), refl)
kinded t last.Other h = other_kinded t h

-- ---- alone, as statements

-- an expression that stands alone is gone through for what it stands for
abbrev pub IsAlone : Tree → Type 0
IsAlone t = (part_of t).done ≡ done_with (begins_at t) (part_of t).thing

binary_alone : (p : Place) (k : InfixOperator) (a b : Tree) → is_other (tree.binary p k a b) ≡ true → IsAlone (tree.binary p k a b)
binary_alone p infix_operator.Pipe a b h = absurd (let e : false ≡ true = h in cc)
binary_alone p _ a b h = refl

other_alone : (t : Tree) → is_other t ≡ true → IsAlone t
other_alone (tree.number p z) h = refl
other_alone (tree.text p k s) h = refl
other_alone (tree.pattern p s) h = refl
other_alone (tree.template p k xs) h = refl
other_alone (tree.truth p b) h = refl
other_alone (tree.null p) h = refl
other_alone (tree.map p xs) h = refl
other_alone (tree.closure p ps b) h = refl
other_alone (tree.prefix p k e) h = refl
other_alone (tree.binary p k a b) h = binary_alone p k a b h
other_alone (tree.elvis p a b) h = refl
other_alone (tree.safe_property e n) h = refl
other_alone _ h = absurd (let e : false ≡ true = h in cc)

pub alone_done : (t : Tree) (l : Last) → IsLast t l → IsAlone t
alone_done t (last.Name p n) h = subst IsAlone (sym h) refl
alone_done t (last.List p xs) h = subst IsAlone (sym h) refl
alone_done t (last.Property f p n) h = subst IsAlone (sym h) refl
alone_done t (last.Index f p i) h = subst IsAlone (sym h) refl
alone_done t (last.Call f p xs) h = subst IsAlone (sym h) refl
alone_done t (last.With f c) h = subst IsAlone (sym h) refl
alone_done t (last.Pipe f p e) h = subst IsAlone (sym h) refl
alone_done t (last.Conditional p c a b) h = subst IsAlone (sym h) refl
alone_done t last.Other h = other_alone t h

-- one that leads nowhere is a value
value_alone : (t : Tree) (l : Last) → IsLast t l → (a : Around) (s : State) → is_leading a s.scope t ≡ false → (part_of t).thing a s ≡ as_known (value_of t) a s
value_alone t l h a s still = let k = kinded t l h in ap (λ w. w a s) k.1 ∙ unled t k.0 a s still

pub when_alone : (K : Known) (t : Tree) (l : Last) (b : Bool) (z new : Lowering) (r : Result Thing LowerFault) → IsLast t l → b ≡ false → Here K z (λ p. b ≡ (leading_at p t).alone)
    → Walked K (due a_thing (as_known (value_of t))) z new r → Walked K (due a_thing (part_of t).thing) z new r
when_alone K t l b z new r last is_not leads h =
    alike K (due a_thing (as_known (value_of t))) (λ p z y. Unit {0}) (λ y. (part_of t).thing) z new r h
    (λ p y stands is. (tt, tt, sym (value_alone t l last p.around p.state (sym (leads p stands) ∙ is_not))))

pub when_led : (K : Known) (t : Tree) (b : Bool) (z new : Lowering) (r : Result Thing LowerFault) → b ≡ true → Here K z (λ p. b ≡ (leading_at p t).alone)
    → Walked K (leading_to t a_thing (part_of t).thing) z new r → Walked K (due a_thing (part_of t).thing) z new r
when_led K t b z new r is_so leads h =
    alike K (leading_to t a_thing (part_of t).thing) (λ p z y. Unit {0}) (λ y. (part_of t).thing) z new r h
    (λ p y stands is. (tt, sym (leads p stands) ∙ is_so, refl))

-- one that leads there is what it leads to
pub led_to : (K : Known) (t u : Tree) (w : Walk meaning.Thing) (old new : Lowering) (r : Result Thing LowerFault) → t ≡ u → (part_of u).thing ≡ by_kind u w
    → Walked K (due a_thing w) old new r → Walked K (leading_to t a_thing (part_of t).thing) old new r
led_to K t u w old new r is kind h =
    alike K (due a_thing w) (λ p z y. (leading_at p t).alone ≡ true) (λ y. (part_of t).thing) old new r h
    (λ p y stands leads. (
      tt,
      tt,
      (let Q : Tree → Type 0 = λ v. is_leading p.around p.state.scope v ≡ true in
          sym (led u w p.around p.state (subst Q is leads)) ∙ ap (λ v. v p.around p.state) (sym kind) ∙ ap (λ v. (part_of v).thing p.around p.state) (sym is)),
    ))

-- anything else leads nowhere
pub led_nowhere : (K : Known) (t : Tree) (old new : Lowering) (r : Result Thing LowerFault) → is_other t ≡ true → Walked K (due a_thing (as_known (value_of t))) old new r
    → Walked K (leading_to t a_thing (part_of t).thing) old new r
led_nowhere K t old new r other h =
    alike K (due a_thing (as_known (value_of t))) (λ p z y. (leading_at p t).alone ≡ true) (λ y. (part_of t).thing) old new r h
    (λ p y stands leads. absurd (let e : false ≡ true = ap (λ l. l.alone) (sym (other_never (leads_in p.around p.state.scope) t other)) ∙ leads in cc))

-- the arguments of a call that stand in the text
pub of_args_here : (K : Known) (args : Args) (ys : List arguments.Arg) (w : List arguments.Arg → Walk meaning.Thing) (old new : Lowering) (r : Result Thing LowerFault)
    → ((bags : Bags) → AreArgs bags args ys) → Walked K (of_args args a_thing w) old new r → Walked K (due a_thing (w ys)) old new r
of_args_here K args ys w old new r are h =
    alike K (of_args args a_thing w) (λ p z y. Unit {0}) (λ y. w ys) old new r h (λ p y stands is. (ys, are (bags_of p.run old.plan), refl))
