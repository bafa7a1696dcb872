-- Calls that are counted.
use Rattle.std.proofs.Common.{◌≡◌, ◌≤◌, ◌<◌, ◌+◌, ◌++◌, ℕ, List, [], ◌∷◌, length, map, Result, Ok, Err, OnOk, refl, sym, ap, subst, arith}
use Rattle.std.proofs.lemmas.List.{length-append, length-map}
use Rattle.std.specs.Borrow.{Bor}
use Rattle.std.specs.Prelude.{Option, None}
use Rattle.nf_ast.specs.declared.expr.ClosureExpr.{ClosureExpr}
use Rattle.nf_arguments.specs.Written.{arg_of}
use Rattle.nf_value.specs.declared.place.Place.{Place}
use Rattle.nf_graph.specs.Meaning.{Bags}
use Rattle.nf_graph.specs.declared.port.Port.{Port}
use Rattle.nf_arguments.specs.declared.args.Args.{Args}
use Rattle.nf_arguments.specs.declared.args.Before.{Before}
use Rattle.nf_arguments.specs.Args.{AreArgs, AreBefore, closure_args, written_args}
use Rattle.nf_meaning.specs.declared.fault.LowerFault.{LowerFault}
use Rattle.nf_meaning.specs.Arguments.{Arg, is_unnamed, unnamed}
use Rattle.nf_meaning.specs.Expressions.{channel_wanted}
use Rattle.nf_meaning.specs.Operators.{counted_all}
use Rattle.nf_meaning.specs.Sizes.{counted}
use Rattle.nf_meaning.specs.Stands.{read}
use Rattle.nf_meaning.specs.Things as meaning
use Rattle.nf_meaning.specs.Things.{Channel, Output}
use Rattle.nf_meaning.specs.Walk.{Walk, ◌>>=◌, gives, then_by}
use Rattle.nf_scopes.specs.declared.things.Thing.{Thing}
use Rattle.nf_scopes.specs.Things.{thing_of}
use Rattle.nf_plan.specs.Counts.{Grows}
use Rattle.nf_follows.specs.Things.{ThingReads}
use Rattle.nf_lowering.specs.declared.state.Lowering.{Lowering}
use Rattle.nf_lowering.specs.State.{IsLowering}
use Rattle.nf_walked.specs.Forms.{a_port, a_thing, nothing}
use Rattle.nf_walked.specs.Steps.{Form, Goes, Known, Point, Walked, due, from}
use Rattle.nf_walked.proofs.Leads.{Head, Ins, Leads, Turn, begins, ends, fails, goes_further, is_given}
use Rattle.nf_applied.specs.Applied.{of_count}
use Rattle.nf_applied.specs.Rooms.{LeavesRoom}
use Rattle.nf_applied.proofs.Rooms.{goes_keeps, leaves_after, leaves_counted, leaves_more, leaves_none, leaves_on}

-- ---- how many arguments

pub alone : (bags : Bags) (x : Args) → x.before ≡ None → AreArgs bags x (written_args x)
alone bags x none =
    let P : Option Before → Type 0 = λ o. AreBefore bags o [] in
    record { before = []; flows = subst P (sym none) refl; all = refl }

pub no_more_than : (xs : List Arg) → unnamed xs ≤ length xs
no_more_than [] = omega arith
no_more_than (x ∷ xs) = let more = no_more_than xs in let one = at_most x.label in omega (arith, more, one)
  where
    at_most : (l : Option (Place × List ℕ)) → is_unnamed l ≤ 1
    at_most None = omega arith
    at_most _ = omega arith

-- those in brackets, and a closure behind them
pub few_written : (x : Args) → length (written_args x) ≤ length x.options.now + length x.args.now + 1
few_written x =
    let all = length-append (map arg_of x.options.now) (map arg_of x.args.now ++ closure_args x.closure) in
    let rest = length-append (map arg_of x.args.now) (closure_args x.closure) in
    let first = length-map x.options.now arg_of in
    let second = length-map x.args.now arg_of in
    let last = one_closure x.closure in
    omega (arith, all, rest, first, second, last)
  where
    one_closure : (o : Option (Bor ClosureExpr)) → length (closure_args o) ≤ 1
    one_closure None = omega arith
    one_closure _ = omega arith

-- ---- a call on a thing

module _ (K : Known) (t : Thing) (p : Place) (ports : ℕ) (old mid : Lowering) (keeps : IsLowering old) (reads : ThingReads old.plan (thing_of t)) where
  abbrev In : Ins meaning.Thing
  In q z y = a_thing.Stands q.run z.plan t y

  module _ {C D : Type 0} (f : Form C D) (u : meaning.Thing → Walk D) where
    abbrev after : meaning.Thing → Walk D
    after y = counted p ports >>= λ _. u y

    pub count_then : (new : Lowering) (r : Result C LowerFault) (m : Unit {0}) → Walked K (due nothing (counted p ports)) old mid (Ok m) → Walked K (from a_thing t f u) mid new r
        → Walked K (from a_thing t f after) old new r
    count_then new r m one two =
        ends K In after In u old mid (from a_thing t f u) new r
        (goes_further K In after In after old old (due nothing (counted p ports)) In u mid m (begins K In after old keeps) one
        (λ q j stands is.
        record {
          first = tt;
          stands = tt;
          goes = λ y s there out came. (j, one.later.stands q.run (thing_of t) j reads is, ap (then_by q.around (λ _. u j)) came);
        }))
        two (λ q j stands is. record { first = j; stands = is; same = refl })

    pub count_fails : (e : LowerFault) → Walked K (due nothing (counted p ports)) old mid (Err e) → Walked K (from a_thing t f after) old mid (Err e)
    count_fails e one =
        fails K In after In after old old (due nothing (counted p ports)) f mid e (begins K In after old keeps) one
        (λ q j stands is. record { first = tt; stands = tt; rest = λ _. u j; same = refl })

-- the thing is a channel, and then the call is counted
module _ (K : Known) (t : Thing) (p : Place) (ports : ℕ) (old mid : Lowering) (keeps : IsLowering old) where
  abbrev Of : Ins meaning.Thing
  Of q z y = a_thing.Stands q.run z.plan t y

  abbrev pub and_count : Channel → Walk Channel
  and_count c = counted p ports >>= λ _. gives c

  abbrev pub begin : meaning.Thing → Walk Channel
  begin y = channel_wanted p y >>= and_count

  pub channel_fails : (e : LowerFault) → Walked K (from a_thing t a_port (channel_wanted p)) old mid (Err e) → Walked K (from a_thing t a_port begin) old mid (Err e)
  channel_fails e one =
      fails K Of begin Of begin old old (from a_thing t a_port (channel_wanted p)) a_port mid e (begins K Of begin old keeps) one
      (λ q j stands is. record { first = j; stands = is; rest = and_count; same = refl })

  module _ (port : Port) (one : Walked K (from a_thing t a_port (channel_wanted p)) old mid (Ok port)) where
    abbrev Ch : Ins Channel
    Ch q z c = a_port.Stands q.run z.plan port c

    made : Leads K Of begin Ch and_count old mid
    made =
        goes_further K Of begin Of begin old old (from a_thing t a_port (channel_wanted p)) Ch and_count mid port (begins K Of begin old keeps) one
        (λ q j stands is. record { first = j; stands = is; goes = λ y s there out came. (y, out, ap (then_by q.around and_count) came) })

    pub counted_fails : (new : Lowering) (e : LowerFault) → Walked K (due nothing (counted p ports)) mid new (Err e) → Walked K (from a_thing t a_port begin) old new (Err e)
    counted_fails new e two =
        fails K Of begin Ch and_count old mid (due nothing (counted p ports)) a_port new e made two
        (λ q j stands is. record { first = tt; stands = tt; rest = λ _. gives j; same = refl })

    pub counted_given : (new : Lowering) (m : Unit {0}) → Walked K (due nothing (counted p ports)) mid new (Ok m) → Walked K (from a_thing t a_port begin) old new (Ok port)
    counted_given new m two =
        is_given K Of begin Ch (λ c. gives c) old new a_port port (two.later.reads (read port) one.fits)
        (goes_further K Of begin Ch and_count old mid (due nothing (counted p ports)) Ch (λ c. gives c) new m made two
        (λ q j stands is.
        record {
          first = tt;
          stands = tt;
          goes = λ y s there out came. (j, two.later.stands q.run (read port) (meaning.a_channel j) one.fits is, ap (then_by q.around (λ _. gives j)) came);
        }))
        (λ q j stands is. (j, is, refl))

-- ---- the room of what was counted

pub room_on : {A : Type 0} (nodes ports : ℕ) (old mid new : Lowering) (r : Result A LowerFault) → LeavesRoom nodes ports old.plan mid.plan → OnOk r (Goes mid new) → OnOk r (LeavesRoom nodes ports old.plan new.plan)
room_on nodes ports old mid new (Ok v) l g = leaves_on nodes ports old.plan mid.plan new.plan l (goes_keeps mid new g)
room_on nodes ports old mid new (Err e) l g = tt

pub room_of_count : (ports : ℕ) (old mid new : Lowering) → Goes old mid → Grows mid.plan ports new.plan → LeavesRoom 1 ports old.plan new.plan
room_of_count ports old mid new g h = leaves_after 1 ports old.plan mid.plan new.plan (goes_keeps old mid g) (leaves_counted ports mid.plan new.plan h)

-- ---- a call for each of several outputs

abbrev pub AreSoMany : ℕ → Ins (List Output)
AreSoMany n q z qs = length qs ≡ n

-- some are counted, and these are left
abbrev pub AreLeft : ℕ → ℕ → Ins (List Output)
AreLeft n i q z qs = length qs + i ≡ n

pub record CountLeads (K : Known) (p : Place) (n i : ℕ) (old now : Lowering) : Type 0 where
  pub leads : Leads K (AreSoMany n) (counted_all p) (AreLeft n i) (counted_all p) old now
  pub room : LeavesRoom i i old.plan now.plan

module _ (K : Known) (p : Place) (n : ℕ) (old : Lowering) where
  pub counts_begin : IsLowering old → CountLeads K p n 0 old old
  counts_begin keeps = record {
    leads = record {
      later = b.later;
      goes = b.goes;
      left = λ q y runs stands is. record { state = q.state; stands = stands; item = y; is = omega (arith, is); same = refl };
    };
    room = leaves_none old.plan;
  }
    where
      b : Leads K (AreSoMany n) (counted_all p) (AreSoMany n) (counted_all p) old old
      b = begins K (AreSoMany n) (counted_all p) old keeps

  pub counts_go : (i : ℕ) (mid new : Lowering) (m : Unit {0}) → i < n → CountLeads K p n i old mid → Walked K (due nothing (counted p 1)) mid new (Ok m) → Grows mid.plan 1 new.plan → CountLeads K p n (i + 1) old new
  counts_go i mid new m lt so_far step grows = record {
    leads =
        goes_further K (AreSoMany n) (counted_all p) (AreLeft n i) (counted_all p) old mid (due nothing (counted p 1)) (AreLeft n (i + 1)) (counted_all p) new m so_far.leads step
        (λ q j stands is. turn q j is);
    room = leaves_more i i old.plan mid.plan new.plan so_far.room (leaves_counted 1 mid.plan new.plan grows);
  }
    where
      turn : (q : Point) (qs : List Output) → length qs + i ≡ n → Turn K (due nothing (counted p 1)) (counted_all p) (AreLeft n (i + 1)) (counted_all p) q mid new m qs
      turn q [] is = absurd (let e : ◌+◌ 0 i ≡ n = is in omega (arith, e, lt))
      turn q (o ∷ os) is = record {
        first = tt;
        stands = tt;
        goes = λ y s there out came. (os, omega (arith, is), ap (then_by q.around (λ _. counted_all p os)) came);
      }

  pub counts_fail : (i : ℕ) (mid new : Lowering) (e : LowerFault) → i < n → CountLeads K p n i old mid → Walked K (due nothing (counted p 1)) mid new (Err e) → Walked K (of_count n (counted_all p)) old new (Err e)
  counts_fail i mid new e lt so_far step =
      fails K (AreSoMany n) (counted_all p) (AreLeft n i) (counted_all p) old mid (due nothing (counted p 1)) nothing new e so_far.leads step
      (λ q j stands is. head q j is)
    where
      head : (q : Point) (qs : List Output) → length qs + i ≡ n → Head (due nothing (counted p 1)) (counted_all p) q mid qs
      head q [] is = absurd (let e : ◌+◌ 0 i ≡ n = is in omega (arith, e, lt))
      head q (o ∷ os) is = record { first = tt; stands = tt; rest = λ _. counted_all p os; same = refl }

  pub counts_end : (i : ℕ) (now : Lowering) → n ≤ i → CountLeads K p n i old now → Walked K (of_count n (counted_all p)) old now (Ok tt)
  counts_end i now le so_far =
      is_given K (AreSoMany n) (counted_all p) (AreLeft n i) (counted_all p) old now nothing tt tt so_far.leads (λ q j stands is. (tt, tt, none q j is))
    where
      none : (q : Point) (qs : List Output) → length qs + i ≡ n → counted_all p qs q.around q.state ≡ Ok (tt, q.state)
      none q [] is = refl
      none q (o ∷ os) is = absurd (omega (arith, is, le))

  pub counts_left : (i : ℕ) (now : Lowering) → i ≡ n → CountLeads K p n i old now → LeavesRoom n n old.plan now.plan
  counts_left i now is so_far = let P : ℕ → Type 0 = λ k. LeavesRoom k k old.plan now.plan in subst P is so_far.room
