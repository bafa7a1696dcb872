-- The names of a body at a point, and what is answered of them.
use Rattle.std.proofs.Common.{◌≡◌, Bool, true, false, ℕ, List, Option, Some, None, Result, Ok, Err, refl, sym, ap, subst, ◌∙◌}
use Rattle.std.specs.Prelude.{bytes_eq, codes, if◌then◌else◌}
use Rattle.nf_value.specs.Plain.{Plain}
use Rattle.nf_value.specs.declared.place.Place.{Place}
use Rattle.nf_value.specs.declared.value.Value.{Value}
use Rattle.nf_ast.specs.Tree.{Tree}
use Rattle.nf_graph.specs.Meaning.{Bags}
use Rattle.nf_meaning.specs.declared.fault.LowerFault.{LowerFault}
use Rattle.nf_meaning.specs.declared.fault.LowerFault.TheVariants.{BadOption}
use Rattle.nf_meaning.specs.Expressions.{leading, leads_in, only_read, value_of}
use Rattle.nf_meaning.specs.Stands.{ThingStands}
use Rattle.nf_meaning.specs.Things as meaning
use Rattle.nf_meaning.specs.Things.{thing_named}
use Rattle.nf_meaning.specs.Walk.{Around, Scope, State, refused, things_in}
use Rattle.nf_meaning.specs.Workflow.{logged, name_thing}
use Rattle.nf_scopes.specs.Standing.{Finds, NamesStand}
use Rattle.nf_scopes.specs.Tables.{FoundStands}
use Rattle.nf_scopes.specs.Things.{thing_of}
use Rattle.nf_scopes.specs.declared.names.BodyNames.{BodyNames}
use Rattle.nf_scopes.specs.declared.things.Thing.{Thing}
use Rattle.nf_plan.specs.Runs.{bags_of}
use Rattle.nf_follows.specs.Things.{ThingReads}
use Rattle.nf_around.specs.Around.{IsBody}
use Rattle.nf_around.specs.Gives.{IsUnit, IsValue, Reads}
use Rattle.nf_callees.specs.Found.{defined_in}
use Rattle.nf_leading.specs.Bodies as leading_bodies
use Rattle.nf_leading.specs.Bodies.{leading_of}
use Rattle.nf_leading.specs.declared.leading.InBody.{InBody}
use Rattle.nf_leading.specs.declared.leading.Leading.{Leading}
use Rattle.nf_lowering.specs.declared.state.Lowering.{Lowering}
use Rattle.nf_lowering.specs.State.{IsLowering}
use Rattle.nf_walked.specs.declared.walker.Walker.{Walker}
use Rattle.nf_walked.specs.Around.{Knows}
use Rattle.nf_walked.specs.Forms.{a_thing, a_value, nothing}
use Rattle.nf_walked.specs.Parts.{leading_at, name_thing_at}
use Rattle.nf_walked.specs.Steps.{Here, Known, Point, StandsAt, Walked, due}
use Rattle.nf_walked.proofs.Goings.{anything}
use Rattle.nf_walked.proofs.Stills.{as_walk, given, refused_here, still}

-- ---- the body at a point

module _ {N : Type 0} (titles_of : N → List (List ℕ)) (answer_of : N → ℕ → List Plain → Option Plain) (x : Walker N) where
  pub body_at : (names : BodyNames) (z : Lowering) (p : Point) → names ≡ z.names → StandsAt (Knows titles_of answer_of x) p z
      → IsBody titles_of answer_of x.around.now names p.around p.state.scope
  body_at names z p same h = record {
    around = h.around.around;
    seen = record {
      bags = bags_of p.run z.plan;
      braces = p.braces;
      stand = (let P : BodyNames → Type 0 = λ n. NamesStand (bags_of p.run z.plan) p.braces n p.state.scope in subst P (sym same) h.body.names);
    };
  }

  -- the value of an expression, of the tree t
  pub value_still : (t u : Tree) (names : BodyNames) (z : Lowering) (r : Result Value LowerFault) → t ≡ u → names ≡ z.names → IsLowering z
      → ((a : Around) (s : State) → IsBody titles_of answer_of x.around.now names a s.scope → Reads IsValue (value_of u) a s r)
      → Walked (Knows titles_of answer_of x) (due a_value (value_of t)) z z r
  value_still t u names z r is same keeps reads =
      still (Knows titles_of answer_of x) a_value (value_of t) z r keeps (anything r)
      (λ p h. subst (λ v. Reads IsValue (value_of v) p.around p.state r) (sym is) (reads p.around p.state (body_at names z p same h)))

  -- an expression that is only read
  pub read_still : (t : Tree) (names : BodyNames) (z : Lowering) (r : Result (Unit {0}) LowerFault) → names ≡ z.names → IsLowering z
      → ((a : Around) (s : State) → IsBody titles_of answer_of x.around.now names a s.scope → Reads IsUnit (only_read t) a s r)
      → Walked (Knows titles_of answer_of x) (due nothing (only_read t)) z z r
  read_still t names z r same keeps reads =
      still (Knows titles_of answer_of x) nothing (only_read t) z r keeps (anything r) (λ p h. reads p.around p.state (body_at names z p same h))

  -- the body in which it is asked what leads to channels
  pub asked_at : (b : InBody N) (z : Lowering) (p : Point) → b.names.now ≡ z.names → b.definitions.now ≡ x.definitions.now → b.natives.now ≡ x.around.now.natives.now
      → StandsAt (Knows titles_of answer_of x) p z → leading_bodies.IsBody titles_of b p.around p.state.scope
  asked_at b z p names definitions natives h = record {
    bags = bags_of p.run z.plan;
    braces = p.braces;
    names = (let P : BodyNames → Type 0 = λ n. NamesStand (bags_of p.run z.plan) p.braces n p.state.scope in subst P (sym names) h.body.names);
    definitions = h.around.definitions ∙ ap (λ d. defined_in d) (sym definitions);
    titles = ap (λ n. n.titles) h.around.around.everywhere.program ∙ ap titles_of (sym natives);
  }

  pub leads_here : (b : InBody N) (z : Lowering) (t : Tree) (l : Leading) (r : Bool) → ((a : Around) (s : Scope) → leading_bodies.IsBody titles_of b a s → leading_of l ≡ leading (leads_in a s) t)
      → b.names.now ≡ z.names → b.definitions.now ≡ x.definitions.now → b.natives.now ≡ x.around.now.natives.now → r ≡ l.alone → Here (Knows titles_of answer_of x) z (λ p. r ≡ (leading_at p t).alone)
  leads_here b z t l r leads names definitions natives is p h = is ∙ ap (λ k. k.alone) (leads p.around p.state.scope (asked_at b z p names definitions natives h))

-- ---- `log`

pub logged_info : (K : Known) (q : Place) (n : List ℕ) (t : Tree) (z : Lowering) (r : Result (Unit {0}) LowerFault) → bytes_eq n (codes "info") ≡ true → Walked K (due nothing (only_read t)) z z r
    → Walked K (due nothing (logged q n t)) z z r
logged_info K q n t z r is h = as_walk h (sym (ap (λ b. if b then only_read t else refused (BadOption q)) is))

pub logged_other : (K : Known) (q : Place) (n : List ℕ) (t : Tree) (z : Lowering) (r : Result (Unit {0}) LowerFault) → IsLowering z → bytes_eq n (codes "info") ≡ false → r ≡ Err (BadOption q)
    → Walked K (due nothing (logged q n t)) z z r
logged_other K q n t z r keeps is_not fault =
    let P : Result (Unit {0}) LowerFault → Type 0 = λ v. Walked K (due nothing (logged q n t)) z z v in
    subst P (sym fault)
    (refused_here K (due nothing (logged q n t)) z (BadOption q) keeps (λ p y stands is. ap (λ b. (if b then only_read t else refused (BadOption q)) p.around p.state) is_not))

-- ---- a name

pub found_some : (bags : Bags) (t : Thing) (o : Option meaning.Thing) → FoundStands bags (Some t) o → (u : meaning.Thing) × (o ≡ Some u) × ThingStands bags (thing_of t) u
found_some bags t (Some u) h = (u, refl, h)
found_some bags t None h = absurd h

pub found_none : (bags : Bags) (o : Option meaning.Thing) → FoundStands bags None o → o ≡ None
found_none bags (Some u) h = absurd h
found_none bags None h = refl

-- what is found at each point
abbrev pub IsFound : Known → Lowering → List ℕ → Option Thing → Type 0
IsFound K z n o = (p : Point) → StandsAt K p z → FoundStands (bags_of p.run z.plan) o (thing_named n (things_in p.state.scope))

pub is_found : (K : Known) (names : BodyNames) (z : Lowering) (n : List ℕ) (o : Option Thing) → names ≡ z.names → Finds names n o → IsFound K z n o
is_found K names z n o same finds p stands =
    let P : BodyNames → Type 0 = λ x. NamesStand (bags_of p.run z.plan) p.braces x p.state.scope in
    finds (bags_of p.run z.plan) p.braces p.state.scope (subst P (sym same) stands.body.names)

pub named_given : (K : Known) (z : Lowering) (n : List ℕ) (q : Place) (t copy : Thing) → IsLowering z → IsFound K z n (Some t) → ThingReads z.plan (thing_of t) → thing_of copy ≡ thing_of t
    → Walked K (due a_thing (name_thing_at n q)) z z (Ok copy)
named_given K z n q t copy keeps found reads same =
    given K (due a_thing (name_thing_at n q)) z copy keeps (subst (λ v. ThingReads z.plan v) (sym same) reads)
    (λ p y h is.
    (let it = found_some (bags_of p.run z.plan) t (thing_named n (things_in p.state.scope)) (found p h) in
    (it.0, ap (λ o. name_thing o q p.around p.state) it.1, subst (λ v. ThingStands (bags_of p.run z.plan) v it.0) (sym same) it.2)))

pub unnamed_fault : (K : Known) (z : Lowering) (n : List ℕ) (q : Place) → IsLowering z → IsFound K z n None → Walked K (due a_thing (name_thing_at n q)) z z (Err (BadOption q))
unnamed_fault K z n q keeps found =
    refused_here K (due a_thing (name_thing_at n q)) z (BadOption q) keeps
    (λ p y h is. ap (λ o. name_thing o q p.around p.state) (found_none (bags_of p.run z.plan) (thing_named n (things_in p.state.scope)) (found p h)))
