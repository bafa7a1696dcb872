-- Calls at the end of an expression, and outputs of calls, as steps.
use Rattle.std.proofs.Common.{◌≡◌, ℕ, false, List, Result, Ok, Err, refl, sym, ap, subst}
use Rattle.std.specs.Prelude.{None}
use Rattle.nf_ast.specs.Tree as tree
use Rattle.nf_ast.specs.Tree.{Tree}
use Rattle.nf_value.specs.declared.place.Place.{Place}
use Rattle.nf_graph.specs.Meaning.{Bags}
use Rattle.nf_fronts.specs.declared.last.Last.{Last}
use Rattle.nf_fronts.specs.Lasts.{IsLast}
use Rattle.nf_meaning.specs.declared.fault.LowerFault.{LowerFault}
use Rattle.nf_meaning.specs.declared.fault.LowerFault.TheVariants.{BadOption}
use Rattle.nf_meaning.specs.Arguments.{Arg}
use Rattle.nf_meaning.specs.Calls.{named_call}
use Rattle.nf_meaning.specs.Things.{Thing}
use Rattle.nf_meaning.specs.Walk.{Walk, ◌>>=◌, then_by}
use Rattle.nf_meaning.specs.Workflow.{part_of}
use Rattle.nf_scopes.specs.declared.things.Thing as memory
use Rattle.nf_plan.specs.Runs.{bags_of}
use Rattle.nf_lowering.specs.declared.state.Lowering.{Lowering}
use Rattle.nf_lowering.specs.State.{IsLowering}
use Rattle.nf_arguments.specs.declared.args.Args.{Args}
use Rattle.nf_arguments.specs.Args.{AreArgs}
use Rattle.nf_walked.specs.Forms.{a_thing}
use Rattle.nf_walked.specs.Members.{member_at, thing_method_at}
use Rattle.nf_walked.specs.Parts.{of_args, of_call}
use Rattle.nf_walked.specs.Steps.{Known, Point, Walked, due, from}
use Rattle.nf_walked.proofs.ArgLoops.{moved}
use Rattle.nf_lower.proofs.Chaining.{closes_as_called, has_member, has_method, is_call, is_callable, is_name, not_called}
use Rattle.nf_walked.proofs.Leads.{Ins, begins, ends, fails, goes_further, is_refused}
use Rattle.nf_walked.proofs.Still.{by_walk}

-- ---- `e(..)`

module _ (K : Known) (x : Args) (t : Tree) (q : Place) (old new : Lowering) (r : Result memory.Thing LowerFault) where
  abbrev IsCall : Tree → Type 0
  IsCall u = Walked K (of_args x a_thing ((part_of u).called q)) old new r

  pub called_name : (p : Place) (n : List ℕ) → t ≡ tree.name p n → Walked K (of_args x a_thing (named_call p n)) old new r → IsCall t
  called_name p n is h = subst IsCall (sym is) h

  pub called_property : (e : Tree) (p : Place) (n : List ℕ) → t ≡ tree.property e (tree.name p n) → Walked K (of_args x a_thing ((part_of e).method p n)) old new r → IsCall t
  called_property e p n is h = subst IsCall (sym is) h

-- what can't be called
module _ (K : Known) (x : Args) (t : Tree) (q : Place) (old : Lowering) (r : Result memory.Thing LowerFault) where
  pub called_refused : (l : Last) → IsLast t l → is_callable l ≡ false → IsLowering old → r ≡ Err (BadOption q) → Walked K (of_args x a_thing ((part_of t).called q)) old old r
  called_refused l last plain keeps refused =
      let In = λ (p : Point) (z : Lowering) (ys : List Arg). AreArgs (bags_of p.run z.plan) x ys in
      let w = (part_of t).called q in
      let P : Result memory.Thing LowerFault → Type 0 = λ v. Walked K (of_args x a_thing w) old old v in
      subst P (sym refused)
      (is_refused K In w In w old old a_thing (BadOption q) (begins K In w old keeps)
      (λ p ys here h. ap (λ (v : Walk Thing). v p.around p.state) (not_called t l q ys last plain)))

-- ---- `e { .. }`

module _ (K : Known) (x : Args) (t : Tree) (q : Place) (old new : Lowering) (r : Result memory.Thing LowerFault) (xs : List Arg)
    (are : (bags : Bags) → AreArgs bags x xs) (keeps : IsLowering old) where
  -- the arguments in memory are these
  pub with_these : (w : List Arg → Walk Thing) → Walked K (of_args x a_thing w) old new r → Walked K (due a_thing (w xs)) old new r
  with_these w h =
      let In = λ (p : Point) (z : Lowering) (j : Unit {0}). Unit {0} in
      ends K In (λ j. w xs) In (λ j. w xs) old old (of_args x a_thing w) new r (begins K In (λ j. w xs) old keeps) h
      (λ p j here k. record { first = xs; stands = are (bags_of p.run old.plan); same = refl })

  pub closed_alone : (l : Last) → IsLast t l → is_call l ≡ false → Walked K (of_args x a_thing ((part_of t).called q)) old new r
      → Walked K (due a_thing ((part_of t).closed q xs)) old new r
  closed_alone l last other h =
      by_walk K a_thing (λ p z j. Unit {0}) (λ j. (part_of t).called q xs) (λ j. (part_of t).closed q xs) old new r
      (λ j a s. ap (λ (v : Walk Thing). v a s) (closes_as_called t l last other q xs)) (with_these ((part_of t).called q) h)

-- ---- `e.name(..)`

module _ (K : Known) (x : Args) (t : Tree) (q : Place) (n : List ℕ) (old new : Lowering) (r : Result memory.Thing LowerFault) where
  pub method_of_thing : (l : Last) → IsLast t l → is_name l ≡ false → Walked K (of_args x a_thing (thing_method_at t q n)) old new r
      → Walked K (of_args x a_thing ((part_of t).method q n)) old new r
  method_of_thing l last other h =
      by_walk K a_thing (λ p z ys. AreArgs (bags_of p.run z.plan) x ys) (thing_method_at t q n) ((part_of t).method q n) old new r
      (λ ys a s. ap (λ (v : Walk Thing). v a s) (has_method t l last other q n ys)) h

module _ (K : Known) (t : Tree) (q : Place) (n : List ℕ) (old new : Lowering) (r : Result memory.Thing LowerFault) where
  pub member_of_thing : (l : Last) → IsLast t l → is_name l ≡ false → Walked K (due a_thing (member_at t q n)) old new r
      → Walked K (due a_thing ((part_of t).member q n)) old new r
  member_of_thing l last other h =
      by_walk K a_thing (λ p z j. Unit {0}) (λ j. member_at t q n) (λ j. (part_of t).member q n) old new r
      (λ j a s. ap (λ (v : Walk Thing). v a s) (has_member t l last other q n)) h

-- ---- what comes after the thing that an expression stands for

module _ (K : Known) (w : Walk Thing) (u : Thing → Walk Thing) (old mid : Lowering) (keeps : IsLowering old) where
  abbrev None_in : Ins (Unit {0})
  None_in p z j = Unit {0}

  pub thing_fails : (e : LowerFault) → Walked K (due a_thing w) old mid (Err e) → Walked K (due a_thing (w >>= u)) old mid (Err e)
  thing_fails e h =
      fails K None_in (λ j. w >>= u) None_in (λ j. w >>= u) old old (due a_thing w) a_thing mid e (begins K None_in (λ j. w >>= u) old keeps) h
      (λ p j here k. record { first = tt; stands = tt; rest = u; same = refl })

  pub thing_then : (new : Lowering) (t : memory.Thing) (r : Result memory.Thing LowerFault) → Walked K (due a_thing w) old mid (Ok t) → Walked K (from a_thing t a_thing u) mid new r
      → Walked K (due a_thing (w >>= u)) old new r
  thing_then new t r one two =
      let U = λ (p : Point) (z : Lowering) (y : Thing). a_thing.Stands p.run z.plan t y in
      ends K None_in (λ j. w >>= u) U u old mid (from a_thing t a_thing u) new r
      (goes_further K None_in (λ j. w >>= u) None_in (λ j. w >>= u) old old (due a_thing w) U u mid t (begins K None_in (λ j. w >>= u) old keeps) one
      (λ p j here k. record { first = tt; stands = tt; goes = λ y s there out came. (y, out, ap (then_by p.around u) came) }))
      two (λ p y here h. record { first = y; stands = h; same = refl })

-- the same with arguments, all of which are written
module _ (K : Known) (x : Args) (w : Walk Thing) (u : Thing → List Arg → Walk Thing) (old mid : Lowering) (keeps : IsLowering old) (none : x.before ≡ None) where
  abbrev In_args : Ins (List Arg)
  In_args p z ys = AreArgs (bags_of p.run z.plan) x ys

  abbrev whole : List Arg → Walk Thing
  whole ys = w >>= λ y. u y ys

  pub args_fail : (e : LowerFault) → Walked K (due a_thing w) old mid (Err e) → Walked K (of_args x a_thing whole) old mid (Err e)
  args_fail e h =
      fails K In_args whole In_args whole old old (due a_thing w) a_thing mid e (begins K In_args whole old keeps) h
      (λ p ys here k. record { first = tt; stands = tt; rest = λ y. u y ys; same = refl })

  pub args_then : (new : Lowering) (t : memory.Thing) (r : Result memory.Thing LowerFault) → Walked K (due a_thing w) old mid (Ok t) → Walked K (of_call t x a_thing u) mid new r
      → Walked K (of_args x a_thing whole) old new r
  args_then new t r one two =
      let U = λ (p : Point) (z : Lowering) (j : Thing × List Arg). a_thing.Stands p.run z.plan t j.0 × AreArgs (bags_of p.run z.plan) x j.1 in
      ends K In_args whole U (λ j. u j.0 j.1) old mid (of_call t x a_thing u) new r
      (goes_further K In_args whole In_args whole old old (due a_thing w) U (λ j. u j.0 j.1) mid t (begins K In_args whole old keeps) one
      (λ p ys here k.
      record {
        first = tt;
        stands = tt;
        goes = λ y s there out came. (
          (y, ys),
          (out, moved (bags_of p.run old.plan) (bags_of p.run mid.plan) x ys none k),
          ap (then_by p.around (λ z. u z ys)) came,
        );
      }))
      two (λ p j here h. record { first = j; stands = h; same = refl })
