-- What stands after a pipe, and before it, by what stands last in it.
use Rattle.std.proofs.Common.{◌≡◌, ◌∙◌, ℕ, Bool, true, false, List, [], ◌∷◌, Result, Ok, Err, Option, Some, None, refl, sym, ap, subst}
use Rattle.std.proofs.lemmas.Bool.{false≢true, true≢false}
use Rattle.nf_ast.specs.declared.operators.InfixOperator.{InfixOperator}
use Rattle.nf_ast.specs.declared.operators.InfixOperator.TheVariants as infix_operator
use Rattle.nf_ast.specs.Tree as tree
use Rattle.nf_ast.specs.Tree.{Tree}
use Rattle.nf_value.specs.declared.place.Place.{Place}
use Rattle.nf_fronts.specs.declared.last.Last.{Last}
use Rattle.nf_fronts.specs.declared.last.Last.TheVariants as last
use Rattle.nf_fronts.specs.Lasts.{IsLast, is_other}
use Rattle.nf_graph.specs.Meaning.{Bags}
use Rattle.nf_meaning.specs.declared.fault.LowerFault.{LowerFault}
use Rattle.nf_meaning.specs.declared.fault.LowerFault.TheVariants.{BadOption}
use Rattle.nf_meaning.specs.Arguments.{Arg, is_closure}
use Rattle.nf_meaning.specs.Calls.{named_call}
use Rattle.nf_meaning.specs.Lowered.{Lowered}
use Rattle.nf_meaning.specs.Names.{Called, a_file, a_function, a_process, a_workflow, an_operator, called_by, unknown}
use Rattle.nf_meaning.specs.Places.{begins_at}
use Rattle.nf_meaning.specs.Things as meaning
use Rattle.nf_meaning.specs.Things.{thing_named}
use Rattle.nf_meaning.specs.Walk.{Around, State, Walk, ◌>>=◌, refused, then_by, things_in}
use Rattle.nf_meaning.specs.Workflow.{Part, already, flowing, name_head, of_binary, part_of}
use Rattle.nf_scopes.specs.declared.things.Thing.{Thing}
use Rattle.nf_plan.specs.Runs.{bags_of}
use Rattle.nf_lowering.specs.declared.state.Lowering.{Lowering}
use Rattle.nf_lowering.specs.State.{IsLowering}
use Rattle.nf_arguments.specs.declared.args.Args.{Args}
use Rattle.nf_arguments.specs.declared.args.Before.{Before}
use Rattle.nf_arguments.specs.Args.{AreArgs, IsBefore}
use Rattle.nf_walked.specs.Forms.{a_thing}
use Rattle.nf_walked.specs.Parts.{is_call, is_called_alone, of_args, of_before, of_thing, pipe_of, unless_bound}
use Rattle.nf_walked.specs.Steps.{Here, Known, Point, Walked, due}
use Rattle.nf_walked.proofs.Leads.{Ins, Leads, begins, ends, fails, goes_further, is_refused}
use Rattle.nf_walked.proofs.Stills.{alike}
use Rattle.nf_lower.proofs.Chaining.{is_call as is_call_last, is_name}

-- ---- what is no name

-- what a part is that is called by no name
pub record IsNameless (t : Tree) (part : Part) : Type 0 where
  pub named : part.named ≡ λ xs. refused (BadOption (begins_at t))
  pub head : part.head ≡ part.thing

abbrev Nameless : Tree → Type 0
Nameless t = IsNameless t (part_of t)

binary_nameless : (p : Place) (k : InfixOperator) (a b : Tree) (x y : Part) → IsNameless (tree.binary p k a b) (of_binary k (tree.binary p k a b) a x y)
binary_nameless p infix_operator.Pipe a b x y = record { named = refl; head = refl }
binary_nameless p _ a b x y = record { named = refl; head = refl }

other_nameless : (t : Tree) → is_other t ≡ true → Nameless t
other_nameless (tree.number p z) h = record { named = refl; head = refl }
other_nameless (tree.text p k s) h = record { named = refl; head = refl }
other_nameless (tree.pattern p s) h = record { named = refl; head = refl }
other_nameless (tree.template p k xs) h = record { named = refl; head = refl }
other_nameless (tree.truth p b) h = record { named = refl; head = refl }
other_nameless (tree.null p) h = record { named = refl; head = refl }
other_nameless (tree.map p xs) h = record { named = refl; head = refl }
other_nameless (tree.closure p ps b) h = record { named = refl; head = refl }
other_nameless (tree.prefix p k e) h = record { named = refl; head = refl }
other_nameless (tree.binary p k a b) h = binary_nameless p k a b (part_of a) (part_of b)
other_nameless (tree.elvis p a b) h = record { named = refl; head = refl }
other_nameless (tree.safe_property e n) h = record { named = refl; head = refl }
other_nameless _ h = absurd (false≢true h)

pub nameless : (t : Tree) (l : Last) → IsLast t l → is_name l ≡ false → Nameless t
nameless t (last.Name p n) h isnt = absurd (true≢false isnt)
nameless t (last.Property f p n) h isnt = subst Nameless (sym h) (record { named = refl; head = refl })
nameless t (last.List p xs) h isnt = subst Nameless (sym h) (record { named = refl; head = refl })
nameless t (last.Index f p i) h isnt = subst Nameless (sym h) (record { named = refl; head = refl })
nameless t (last.Call f p xs) h isnt = subst Nameless (sym h) (record { named = refl; head = refl })
nameless t (last.With f c) h isnt = subst Nameless (sym h) (record { named = refl; head = refl })
nameless t (last.Pipe f p e) h isnt = subst Nameless (sym h) (record { named = refl; head = refl })
nameless t (last.Conditional p c a b) h isnt = subst Nameless (sym h) (record { named = refl; head = refl })
nameless t last.Other h isnt = other_nameless t h

module _ (K : Known) (x : Args) (t : Tree) (old : Lowering) (r : Result Thing LowerFault) where
  pub named_refused : (l : Last) (q : Place) → IsLast t l → is_name l ≡ false → IsLowering old → q ≡ begins_at t → r ≡ Err (BadOption q) → Walked K (of_args x a_thing (part_of t).named) old old r
  named_refused l q last isnt keeps place fault =
      let In = λ (p : Point) (z : Lowering) (ys : List Arg). AreArgs (bags_of p.run z.plan) x ys in
      let w = (part_of t).named in
      let P : Result Thing LowerFault → Type 0 = λ v. Walked K (of_args x a_thing w) old old v in
      subst P (sym (fault ∙ ap (λ (y : Place). Err (BadOption y)) place))
      (is_refused K In w In w old old a_thing (BadOption (begins_at t)) (begins K In w old keeps)
      (λ p ys here h. ap (λ (f : List Arg → Walk meaning.Thing). f ys p.around p.state) (nameless t l last isnt).named))

module _ (K : Known) (t : Tree) (old new : Lowering) (r : Result Thing LowerFault) where
  pub head_of_thing : (l : Last) → IsLast t l → is_name l ≡ false → Walked K (due a_thing (part_of t).thing) old new r → Walked K (due a_thing (part_of t).head) old new r
  head_of_thing l last isnt h = subst (λ (w : Walk meaning.Thing). Walked K (due a_thing w) old new r) (sym (nameless t l last isnt).head) h

-- ---- what stands after a pipe

-- it is called with the closure alone, or with nothing
abbrev IsNamed : Tree → Type 0
IsNamed t = (x : Arg) (xs : List Arg) → (part_of t).piped_closed x xs ≡ (part_of t).named (x ∷ xs)

abbrev IsNamedAlone : Tree → Type 0
IsNamedAlone t = (x : Arg) → (part_of t).piped x ≡ (part_of t).named (x ∷ [])

binary_named : (p : Place) (k : InfixOperator) (a b : Tree) (f g : Part) (x : Arg) (xs : List Arg)
    → (of_binary k (tree.binary p k a b) a f g).piped_closed x xs ≡ (of_binary k (tree.binary p k a b) a f g).named (x ∷ xs)
binary_named p infix_operator.Pipe a b f g x xs = refl
binary_named p _ a b f g x xs = refl

binary_alone : (p : Place) (k : InfixOperator) (a b : Tree) (f g : Part) (x : Arg)
    → (of_binary k (tree.binary p k a b) a f g).piped x ≡ (of_binary k (tree.binary p k a b) a f g).named (x ∷ [])
binary_alone p infix_operator.Pipe a b f g x = refl
binary_alone p _ a b f g x = refl

other_named : (t : Tree) → is_other t ≡ true → IsNamed t
other_named (tree.number p z) h x xs = refl
other_named (tree.text p k s) h x xs = refl
other_named (tree.pattern p s) h x xs = refl
other_named (tree.template p k ys) h x xs = refl
other_named (tree.truth p b) h x xs = refl
other_named (tree.null p) h x xs = refl
other_named (tree.map p ys) h x xs = refl
other_named (tree.closure p ps b) h x xs = refl
other_named (tree.prefix p k e) h x xs = refl
other_named (tree.binary p k a b) h x xs = binary_named p k a b (part_of a) (part_of b) x xs
other_named (tree.elvis p a b) h x xs = refl
other_named (tree.safe_property e n) h x xs = refl
other_named _ h x xs = absurd (false≢true h)

other_alone : (t : Tree) → is_other t ≡ true → IsNamedAlone t
other_alone (tree.number p z) h x = refl
other_alone (tree.text p k s) h x = refl
other_alone (tree.pattern p s) h x = refl
other_alone (tree.template p k ys) h x = refl
other_alone (tree.truth p b) h x = refl
other_alone (tree.null p) h x = refl
other_alone (tree.map p ys) h x = refl
other_alone (tree.closure p ps b) h x = refl
other_alone (tree.prefix p k e) h x = refl
other_alone (tree.binary p k a b) h x = binary_alone p k a b (part_of a) (part_of b) x
other_alone (tree.elvis p a b) h x = refl
other_alone (tree.safe_property e n) h x = refl
other_alone _ h x = absurd (false≢true h)

pub is_named : (t : Tree) (l : Last) → IsLast t l → is_call_last l ≡ false → IsNamed t
is_named t (last.Name p n) h isnt = subst IsNamed (sym h) (λ x xs. refl)
is_named t (last.Property f p n) h isnt = subst IsNamed (sym h) (λ x xs. refl)
is_named t (last.List p ys) h isnt = subst IsNamed (sym h) (λ x xs. refl)
is_named t (last.Index f p i) h isnt = subst IsNamed (sym h) (λ x xs. refl)
is_named t (last.Call f p ys) h isnt = absurd (true≢false isnt)
is_named t (last.With f c) h isnt = subst IsNamed (sym h) (λ x xs. refl)
is_named t (last.Pipe f p e) h isnt = subst IsNamed (sym h) (λ x xs. refl)
is_named t (last.Conditional p c a b) h isnt = subst IsNamed (sym h) (λ x xs. refl)
is_named t last.Other h isnt = other_named t h

-- no brackets and no closure behind it
abbrev pub has_args : Last → Bool
has_args (last.Call f p xs) = true
has_args (last.With f c) = true
has_args _ = false

pub is_named_alone : (t : Tree) (l : Last) → IsLast t l → has_args l ≡ false → IsNamedAlone t
is_named_alone t (last.Name p n) h isnt = subst IsNamedAlone (sym h) (λ x. refl)
is_named_alone t (last.Property f p n) h isnt = subst IsNamedAlone (sym h) (λ x. refl)
is_named_alone t (last.List p ys) h isnt = subst IsNamedAlone (sym h) (λ x. refl)
is_named_alone t (last.Index f p i) h isnt = subst IsNamedAlone (sym h) (λ x. refl)
is_named_alone t (last.Call f p ys) h isnt = absurd (true≢false isnt)
is_named_alone t (last.With f c) h isnt = absurd (true≢false isnt)
is_named_alone t (last.Pipe f p e) h isnt = subst IsNamedAlone (sym h) (λ x. refl)
is_named_alone t (last.Conditional p c a b) h isnt = subst IsNamedAlone (sym h) (λ x. refl)
is_named_alone t last.Other h isnt = other_alone t h

-- what stands before the pipe is the first argument of these
module _ (K : Known) (b : Before) (x : Args) (xs : List Arg) (w : List Arg → Walk meaning.Thing) (old new : Lowering) (r : Result Thing LowerFault) (keeps : IsLowering old)
    (are : (bags : Bags) (y : Arg) → IsBefore bags b y → AreArgs bags x (y ∷ xs)) where
  abbrev Before_in : Ins Arg
  Before_in p z y = IsBefore (bags_of p.run z.plan) b y

  pub first_before : (u : Arg → Walk meaning.Thing) → ((y : Arg) → u y ≡ w (y ∷ xs)) → Walked K (of_args x a_thing w) old new r → Walked K (of_before b a_thing u) old new r
  first_before u same h =
      ends K Before_in u Before_in u old old (of_args x a_thing w) new r (begins K Before_in u old keeps) h
      (λ p y here is. record { first = y ∷ xs; stands = are (bags_of p.run old.plan) y is; same = ap (λ (v : Walk meaning.Thing). v p.around p.state) (same y) })

-- ---- a name at the head of a pipe

called_alone : (o : Option meaning.Thing) (c : Called) (p : Place) (n : List ℕ) (w : Walk meaning.Thing) → unless_bound o (is_call c) ≡ true → name_head o c p n w ≡ named_call p n []
called_alone (Some t) c p n w h = absurd (false≢true h)
called_alone None (a_process t) p n w h = refl
called_alone None (a_workflow t) p n w h = refl
called_alone None a_function p n w h = absurd (false≢true h)
called_alone None a_file p n w h = absurd (false≢true h)
called_alone None (an_operator k) p n w h = absurd (false≢true h)
called_alone None unknown p n w h = absurd (false≢true h)

not_alone : (o : Option meaning.Thing) (c : Called) (p : Place) (n : List ℕ) (w : Walk meaning.Thing) → unless_bound o (is_call c) ≡ false → name_head o c p n w ≡ w
not_alone (Some t) c p n w h = refl
not_alone None (a_process t) p n w h = absurd (true≢false h)
not_alone None (a_workflow t) p n w h = absurd (true≢false h)
not_alone None a_function p n w h = refl
not_alone None a_file p n w h = refl
not_alone None (an_operator k) p n w h = refl
not_alone None unknown p n w h = refl

module _ (K : Known) (t : Tree) (p : Place) (n : List ℕ) (old new : Lowering) (r : Result Thing LowerFault) (is : t ≡ tree.name p n) (b : Bool) (alone : Here K old (λ q. b ≡ is_called_alone q n)) where
  abbrev HeadOf : Tree → Type 0
  HeadOf u = Walked K (due a_thing (part_of u).head) old new r

  pub head_called : (x : Args) → b ≡ true → ((bags : Bags) → AreArgs bags x []) → Walked K (of_args x a_thing (named_call p n)) old new r → HeadOf t
  head_called x so are h =
      subst HeadOf (sym is)
      (alike K (of_args x a_thing (named_call p n)) (λ q z y. Unit {0}) (λ y. (part_of (tree.name p n)).head) old new r h
      (λ q y stands i. (
        [],
        are (bags_of q.run old.plan),
        sym (ap (λ (w : Walk meaning.Thing). w q.around q.state)
            (called_alone (thing_named n (things_in q.state.scope)) (called_by q.around.definitions q.around.given.program.titles n) p n _ (sym (alone q stands) ∙ so))),
      )))

  pub head_named : b ≡ false → Walked K (due a_thing (part_of t).thing) old new r → HeadOf t
  head_named isnt h =
      subst HeadOf (sym is)
      (alike K (due a_thing (part_of (tree.name p n)).thing) (λ q z y. Unit {0}) (λ y. (part_of (tree.name p n)).head) old new r
      (subst (λ (u : Tree). Walked K (due a_thing (part_of u).thing) old new r) is h)
      (λ q y stands i. (
        tt,
        tt,
        sym (ap (λ (w : Walk meaning.Thing). w q.around q.state)
            (not_alone (thing_named n (things_in q.state.scope)) (called_by q.around.definitions q.around.given.program.titles n) p n _ (sym (alone q stands) ∙ isnt))),
      )))

-- ---- `a | f`

-- a closure has no value, so none stands before a pipe
not_closure : (e : Tree) (a : Around) (s t : State) (y : meaning.Thing) → (part_of e).head a s ≡ Ok (y, t) → is_closure e ≡ false
not_closure (tree.closure p ps b) a s t y h = absurd (let q : ◌≡◌ {A = Lowered (meaning.Thing × State)} (Err (BadOption p)) (Ok (y, t)) = h in cc)
not_closure _ a s t y h = refl

in_a_row : {A B C : Type 0} (a : Around) (f : A → Walk B) (g : B → Walk C) (v : Lowered (A × State)) → then_by a g (then_by a f v) ≡ then_by a (λ x. f x >>= g) v
in_a_row a f g (Ok y) = refl
in_a_row a f g (Err e) = refl

module _ (K : Known) (e f : Tree) (q : Place) (place : q ≡ begins_at e) (old : Lowering) where
  abbrev None_in : Ins (Unit {0})
  None_in p z j = Unit {0}

  abbrev whole : Unit {0} → Walk meaning.Thing
  whole j = pipe_of e f

  abbrev last_of : meaning.Thing → Walk meaning.Thing
  last_of t = (part_of f).piped (already e t)

  abbrev flow_left : meaning.Thing → Walk meaning.Thing
  flow_left t = flowing (begins_at e) t >>= last_of

  abbrev Before_is : Thing → Ins meaning.Thing
  Before_is t p z y = a_thing.Stands p.run z.plan t y × (is_closure e ≡ false)

  pub pipe_fails_head : (mid : Lowering) (x : LowerFault) → IsLowering old → Walked K (due a_thing (part_of e).head) old mid (Err x) → Walked K (due a_thing (pipe_of e f)) old mid (Err x)
  pipe_fails_head mid x keeps step =
      fails K None_in whole None_in whole old old (due a_thing (part_of e).head) a_thing mid x (begins K None_in whole old keeps) step
      (λ p j here k. record { first = tt; stands = tt; rest = flow_left; same = in_a_row p.around (flowing (begins_at e)) last_of ((part_of e).head p.around p.state) })

  pub pipe_headed : (mid : Lowering) (t : Thing) → IsLowering old → Walked K (due a_thing (part_of e).head) old mid (Ok t) → Leads K None_in whole (Before_is t) flow_left old mid
  pipe_headed mid t keeps step =
      goes_further K None_in whole None_in whole old old (due a_thing (part_of e).head) (Before_is t) flow_left mid t (begins K None_in whole old keeps) step
      (λ p j here k.
      record {
        first = tt;
        stands = tt;
        goes = λ y s there out came. (
          y,
          (out, not_closure e p.around p.state s y came),
          in_a_row p.around (flowing (begins_at e)) last_of ((part_of e).head p.around p.state) ∙ ap (then_by p.around flow_left) came,
        );
      })

  -- a channel flows
  module _ (mid : Lowering) (t : Thing) (so_far : Leads K None_in whole (Before_is t) flow_left old mid) where
    pub pipe_fails_flowing : (two : Lowering) (x : LowerFault) → Walked K (of_thing t a_thing (flowing q)) mid two (Err x) → Walked K (due a_thing (pipe_of e f)) old two (Err x)
    pipe_fails_flowing two x step =
        fails K None_in whole (Before_is t) flow_left old mid (of_thing t a_thing (flowing q)) a_thing two x so_far step
        (λ p y here k. record { first = y; stands = k.0; rest = last_of; same = ap (λ (z : Place). (flowing z y >>= last_of) p.around p.state) (sym place) })

    pub pipe_ends : (two new : Lowering) (b : Before) (r : Result Thing LowerFault) → b.place ≡ q → Walked K (of_thing t a_thing (flowing q)) mid two (Ok b.thing)
        → Walked K (of_before b a_thing (part_of f).piped) two new r → Walked K (due a_thing (pipe_of e f)) old new r
    pipe_ends two new b r at_place one last =
        ends K None_in whole (Before_is b.thing) last_of old two (of_before b a_thing (part_of f).piped) new r
        (goes_further K None_in whole (Before_is t) flow_left old mid (of_thing t a_thing (flowing q)) (Before_is b.thing) last_of two b.thing so_far one
        (λ p y here k.
        record {
          first = y;
          stands = k.0;
          goes = λ z s there out came. (z, (out, k.1), ap (λ (w : Place). (flowing w y >>= last_of) p.around p.state) (sym place) ∙ ap (then_by p.around last_of) came);
        }))
        last
        (λ p y here k.
        record {
          first = already e y;
          stands = record { label = refl; place = sym (at_place ∙ place); value = k.1; thing = y; gives_it = refl; stands = k.0 };
          same = refl;
        })
