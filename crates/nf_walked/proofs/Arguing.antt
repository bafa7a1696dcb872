-- What one argument of a call stands for.
use Rattle.std.proofs.Common.{◌≡◌, ◌∙◌, ℕ, Bool, true, false, List, Result, Ok, Err, refl, sym, ap, subst}
use Rattle.std.specs.Prelude.{Some, None}
use Rattle.nf_value.specs.declared.place.Place.{Place}
use Rattle.nf_graph.specs.declared.port.Port.{Port}
use Rattle.nf_graph.specs.Meaning.{Bags}
use Rattle.nf_meaning.specs.declared.fault.LowerFault.{LowerFault}
use Rattle.nf_meaning.specs.declared.fault.LowerFault.TheVariants.{BadOption}
use Rattle.nf_meaning.specs.Arguments.{Arg, channel_arg, is_closure, unless_closure, unnamed_channel}
use Rattle.nf_meaning.specs.Places.{begins_at}
use Rattle.nf_meaning.specs.Things.{Channel, Thing}
use Rattle.nf_meaning.specs.Walk.{Around, State, Walk, ◌>>=◌, then_by}
use Rattle.nf_scopes.specs.declared.things.Thing as memory
use Rattle.nf_scopes.specs.Things.{thing_of}
use Rattle.nf_plan.specs.Runs.{bags_of}
use Rattle.nf_follows.specs.Things.{ThingReads}
use Rattle.nf_lowering.specs.declared.state.Lowering.{Lowering}
use Rattle.nf_lowering.specs.State.{IsLowering}
use Rattle.nf_arguments.specs.declared.args.Before.{Before}
use Rattle.nf_arguments.specs.declared.one.One.{One}
use Rattle.nf_arguments.specs.declared.one.One.TheVariants as one
use Rattle.nf_arguments.specs.declared.written.Written.{Written}
use Rattle.nf_arguments.specs.Args.{IsBefore, IsOne, written_arg}
use Rattle.nf_walked.specs.Forms.{a_port, a_thing}
use Rattle.nf_walked.specs.Parts.{of_one, thing_arg}
use Rattle.nf_walked.specs.Steps.{Form, Known, Point, Walked, due, from}
use Rattle.nf_walked.proofs.Leads.{begins, ends, fails, goes_further, is_given, is_refused}

-- ---- what an argument stands for

-- what stands before a pipe is given at once
before_is : (bags : Bags) (b : Before) (y : Arg) (h : IsBefore bags b y) (a : Around) (s : State) → thing_arg y a s ≡ Ok (h.thing, s)
before_is bags b y h a s = ap (λ k. unless_closure k (begins_at y.tree) y.thing a s) h.value ∙ ap (λ (w : Walk Thing). w a s) h.gives_it

module _ (K : Known) where
  abbrev IsThingOf : One → Lowering → Lowering → Result memory.Thing LowerFault → Type 0
  IsThingOf x old new r = Walked K (of_one x a_thing thing_arg) old new r

  pub before_given : (x : One) (b : Before) (z : Lowering) → x ≡ one.Before b → IsLowering z → ThingReads z.plan (thing_of b.thing) → IsThingOf x z z (Ok b.thing)
  before_given x b z is keeps reads =
      let In = λ (p : Point) (y : Lowering) (j : Arg). IsOne (bags_of p.run y.plan) (one.Before b) j in
      let P : One → Type 0 = λ o. IsThingOf o z z (Ok b.thing) in
      subst P (sym is)
      (is_given K In thing_arg In thing_arg z z a_thing b.thing reads (begins K In thing_arg z keeps)
      (λ p y here h. (h.thing, h.stands, before_is (bags_of p.run z.plan) b y h p.around p.state)))

  pub written_given : (x : One) (w : Written) (old new : Lowering) (r : Result memory.Thing LowerFault) → x ≡ one.Written w → IsLowering old
      → Walked K (due a_thing (thing_arg (written_arg w))) old new r → IsThingOf x old new r
  written_given x w old new r is keeps step =
      let In = λ (p : Point) (y : Lowering) (j : Arg). IsOne (bags_of p.run y.plan) (one.Written w) j in
      let P : One → Type 0 = λ o. IsThingOf o old new r in
      subst P (sym is)
      (ends K In thing_arg In thing_arg old old (due a_thing (thing_arg (written_arg w))) new r (begins K In thing_arg old keeps) step
      (λ p y here h. record { first = tt; stands = tt; same = ap (λ z. thing_arg z p.around p.state) h }))

  -- ---- one that is written

  pub closure_refused : (y : Arg) (p : Place) (z : Lowering) (r : Result memory.Thing LowerFault) → is_closure y.tree ≡ true → begins_at y.tree ≡ p → IsLowering z → r ≡ Err (BadOption p)
      → Walked K (due a_thing (thing_arg y)) z z r
  closure_refused y p z r closure place keeps fault =
      let P : Result memory.Thing LowerFault → Type 0 = λ v. Walked K (due a_thing (thing_arg y)) z z v in
      let In = λ (q : Point) (u : Lowering) (j : Unit {0}). Unit {0} in
      subst P (sym fault)
      (is_refused K In (λ j. thing_arg y) In (λ j. thing_arg y) z z a_thing (BadOption p) (begins K In (λ j. thing_arg y) z keeps)
      (λ q j here h. ap (λ k. unless_closure k (begins_at y.tree) y.thing q.around q.state) closure ∙ ap (λ x. Err (BadOption x)) place))

  pub plain_given : (y : Arg) (old new : Lowering) (r : Result memory.Thing LowerFault) → is_closure y.tree ≡ false → IsLowering old
      → Walked K (due a_thing y.thing) old new r → Walked K (due a_thing (thing_arg y)) old new r
  plain_given y old new r plain keeps step =
      let In = λ (q : Point) (u : Lowering) (j : Unit {0}). Unit {0} in
      ends K In (λ j. thing_arg y) In (λ j. thing_arg y) old old (due a_thing y.thing) new r (begins K In (λ j. thing_arg y) old keeps) step
      (λ q j here h. record { first = tt; stands = tt; same = ap (λ k. unless_closure k (begins_at y.tree) y.thing q.around q.state) plain })

-- ---- what is wanted of it

unless_then : {B : Type 0} (k : Bool) (p : Place) (w : Walk Thing) (f : Thing → Walk B) (a : Around) (s : State) → unless_closure k p (w >>= f) a s ≡ then_by a f (unless_closure k p w a s)
unless_then true p w f a s = refl
unless_then false p w f a s = refl

-- a value or a channel, by what its expression's place says
module _ {C D : Type 0} (K : Known) (f : Form C D) (want : Place → Thing → Walk D) where
  abbrev pub wanted_arg : Arg → Walk D
  wanted_arg x = unless_closure (is_closure x.tree) (begins_at x.tree) (x.thing >>= want (begins_at x.tree))

  is_then : (y : Arg) (a : Around) (s : State) → wanted_arg y a s ≡ then_by a (want (begins_at y.tree)) (thing_arg y a s)
  is_then y a s = unless_then (is_closure y.tree) (begins_at y.tree) y.thing (want (begins_at y.tree)) a s

  module _ (x : One) (old mid : Lowering) (keeps : IsLowering old) where
    abbrev In : Point → Lowering → Arg → Type 0
    In p z j = IsOne (bags_of p.run z.plan) x j

    pub arg_fails : (e : LowerFault) → Walked K (of_one x a_thing thing_arg) old mid (Err e) → Walked K (of_one x f wanted_arg) old mid (Err e)
    arg_fails e step =
        fails K In wanted_arg In wanted_arg old old (of_one x a_thing thing_arg) f mid e (begins K In wanted_arg old keeps) step
        (λ p j here h. record { first = j; stands = h; rest = want (begins_at j.tree); same = is_then j p.around p.state })

    pub arg_wanted : (new : Lowering) (t : memory.Thing) (q : Place) (r : Result C LowerFault) → ((bags : Bags) (y : Arg) → IsOne bags x y → q ≡ begins_at y.tree)
        → Walked K (of_one x a_thing thing_arg) old mid (Ok t) → Walked K (from a_thing t f (want q)) mid new r → Walked K (of_one x f wanted_arg) old new r
    arg_wanted new t q r place one two =
        let U = λ (p : Point) (z : Lowering) (y : Thing). a_thing.Stands p.run z.plan t y in
        ends K In wanted_arg U (want q) old mid (from a_thing t f (want q)) new r
        (goes_further K In wanted_arg In wanted_arg old old (of_one x a_thing thing_arg) U (want q) mid t (begins K In wanted_arg old keeps) one
        (λ p j here h.
        record {
          first = j;
          stands = h;
          goes = λ y s there out came. (
            y,
            out,
            is_then j p.around p.state ∙ ap (then_by p.around (want (begins_at j.tree))) came ∙ ap (λ (z : Place). want z y p.around s) (sym (place (bags_of p.run old.plan) j h)),
          );
        }))
        two (λ p y here h. record { first = y; stands = h; same = refl })

-- ---- a channel of what has no name

module _ (K : Known) (x : One) (old : Lowering) where
  abbrev Of : Point → Lowering → Arg → Type 0
  Of p z j = IsOne (bags_of p.run z.plan) x j

  abbrev unnamed : Arg → Walk Channel
  unnamed y = unnamed_channel y.label y

  pub no_label_given : (new : Lowering) (r : Result Port LowerFault) → IsLowering old → ((bags : Bags) (y : Arg) → IsOne bags x y → y.label ≡ None)
      → Walked K (of_one x a_port channel_arg) old new r → Walked K (of_one x a_port unnamed) old new r
  no_label_given new r keeps none h =
      ends K Of unnamed Of unnamed old old (of_one x a_port channel_arg) new r (begins K Of unnamed old keeps) h
      (λ p y here k. record { first = y; stands = k; same = ap (λ l. unnamed_channel l y p.around p.state) (none (bags_of p.run old.plan) y k) })

  pub label_refused : (q : Place) (n : List ℕ) (r : Result Port LowerFault) → IsLowering old → ((bags : Bags) (y : Arg) → IsOne bags x y → y.label ≡ Some (q, n)) → r ≡ Err (BadOption q)
      → Walked K (of_one x a_port unnamed) old old r
  label_refused q n r keeps label fault =
      let P : Result Port LowerFault → Type 0 = λ v. Walked K (of_one x a_port unnamed) old old v in
      subst P (sym fault)
      (is_refused K Of unnamed Of unnamed old old a_port (BadOption q) (begins K Of unnamed old keeps)
      (λ p y here k. ap (λ l. unnamed_channel l y p.around p.state) (label (bags_of p.run old.plan) y k)))
