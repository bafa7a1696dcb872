-- `set`: the calls of it, and the name that it binds.
use Rattle.std.proofs.Common.{◌≡◌, ◌∙◌, ◌≤◌, ◌<◌, ◌+◌, ◌++◌, ℕ, Result, Ok, Err, List, [], ◌∷◌, length, map, drop, get_or, refl, sym, ap, subst, arith}
use Rattle.std.proofs.lemmas.List.{append-nil, drop_all, map-append}
use Rattle.std.specs.Global.{Vec}
use Rattle.nf_value.specs.declared.place.Place.{Place}
use Rattle.nf_bag.specs.declared.rows.Row.TheVariants as row
use Rattle.nf_graph.specs.Meaning.{Bags}
use Rattle.nf_graph.specs.declared.port.Port.{Port}
use Rattle.nf_meaning.specs.declared.fault.LowerFault.{LowerFault}
use Rattle.nf_meaning.specs.declared.fault.LowerFault.TheVariants.{Mem}
use Rattle.nf_meaning.specs.Lowered.{Lowered}
use Rattle.nf_meaning.specs.Operators.{Call, applied, given_at, named_so, set_channel, set_outputs}
use Rattle.nf_meaning.specs.Stands.{OutputStands, OutputsStand, PortOutput, PortThing, StandsFor, ThingStands, read, results}
use Rattle.nf_meaning.specs.Taken as taken
use Rattle.nf_meaning.specs.Things as meaning
use Rattle.nf_meaning.specs.Things.{Channel, Output, a_channel, outputs}
use Rattle.nf_meaning.specs.Walk.{Around, State, Walk, ◌>>=◌, assigning, gives, then_by, with_scope}
use Rattle.nf_lowered.specs.Given.{Gives, HasFault}
use Rattle.nf_lowered.proofs.Joining.{fault_by}
use Rattle.nf_scopes.specs.declared.things.CallOutput.{CallOutput}
use Rattle.nf_scopes.specs.declared.things.Thing.{Thing}
use Rattle.nf_scopes.specs.declared.things.Thing.TheVariants as thing
use Rattle.nf_scopes.specs.Things.{output_of, thing_of}
use Rattle.nf_plan.specs.declared.builder.PlanBuilder.{PlanBuilder}
use Rattle.nf_plan.specs.declared.calls.OperatorCall.{OperatorCall}
use Rattle.nf_plan.specs.Plans.{HasRoom, IsPlan, ReadPlan}
use Rattle.nf_plan.specs.Calls.{CanAddOperator}
use Rattle.nf_plan.specs.Runs.{bags_of}
use Rattle.nf_bag.specs.Options.{Allows}
use Rattle.nf_operator.specs.Row.{takes_ports}
use Rattle.nf_follows.specs.Things.{OutputsRead, PortReads, ThingReads}
use Rattle.nf_lowering.specs.declared.state.Lowering.{Lowering}
use Rattle.nf_lowering.specs.Nodes.{HasLabels}
use Rattle.nf_lowering.specs.State.{IsLowering}
use Rattle.nf_taken.specs.Calls.{IsSetOf, TookName}
use Rattle.nf_taken.specs.declared.taken.Taken.{Taken}
use Rattle.nf_walked.specs.Filled.{Filled, of_operator}
use Rattle.nf_walked.specs.Forms.{a_port, a_thing, nothing}
use Rattle.nf_walked.specs.Forms as form
use Rattle.nf_walked.specs.Parts.{of_thing}
use Rattle.nf_walked.specs.Steps.{Came, Due, Known, Later, Point, StandsAt, Walked, at, from}
use Rattle.nf_walked.proofs.Goings.{later_again}
use Rattle.nf_walked.proofs.Items.{none_before, one_before}
use Rattle.nf_walked.proofs.Leads.{Head, Ins, Turn, begins, fails, goes_further, is_given}
use Rattle.nf_walked.proofs.Rows.{left}
use Rattle.nf_applied.specs.Applied.{IsNamed, of_named, of_named_outputs, of_set, of_sets, with_port}
use Rattle.nf_applied.specs.Rooms.{HasRoomFor, Used}
use Rattle.nf_applied.proofs.Applying.{first_reads}
use Rattle.nf_applied.proofs.Rooms.{room_after, uses_fills}
use Rattle.nf_applied.proofs.Using.{LeadsUsing, used_lost_later, using_begins, using_ends, using_fails, using_further, using_given}

-- ---- the name

module _ (K : Known) (n : List ℕ) (t copy : Thing) (old : Lowering) (keeps : IsLowering old) (reads : ThingReads old.plan (thing_of t)) (same : thing_of copy ≡ thing_of t) where
  abbrev Bound_in : Ins meaning.Thing
  Bound_in p z y = ThingStands (bags_of p.run z.plan) (thing_of t) y

  abbrev putting : Due meaning.Thing (Unit {0}) (Unit {0})
  putting = from a_thing copy nothing (λ y. with_scope (assigning n y))

  in_copy : (bags : Bags) (y : meaning.Thing) → ThingStands bags (thing_of t) y → ThingStands bags (thing_of copy) y
  in_copy bags y h = subst (λ (v : PortThing). ThingStands bags v y) (sym same) h

  pub bind_fails : (new : Lowering) (e : LowerFault) → Walked K putting old new (Err e) → Walked K (of_thing t a_thing (named_so n)) old new (Err e)
  bind_fails new e step =
      fails K Bound_in (named_so n) Bound_in (named_so n) old old putting a_thing new e (begins K Bound_in (named_so n) old keeps) step
      (λ p y here k. record { first = y; stands = in_copy (bags_of p.run old.plan) y k; rest = λ u. gives y; same = refl })

  pub bind_done : (new : Lowering) (u : Unit {0}) → Walked K putting old new (Ok u) → Walked K (of_thing t a_thing (named_so n)) old new (Ok t)
  bind_done new u step =
      is_given K Bound_in (named_so n) Bound_in (λ y. gives y) old new a_thing t (step.later.reads (thing_of t) reads)
      (goes_further K Bound_in (named_so n) Bound_in (named_so n) old old putting Bound_in (λ y. gives y) new u (begins K Bound_in (named_so n) old keeps) step
      (λ p y here k.
      record {
        first = y;
        stands = in_copy (bags_of p.run old.plan) y k;
        goes = λ v s there out came. (y, step.later.stands p.run (thing_of t) y reads k, ap (then_by p.around (λ w. gives y)) came);
      }))
      (λ p y here k. (y, k, refl))

-- ---- the channel

-- what an operator gives that has no labels, as a channel
as_channel : (K : Known) (p : Point) (new : Lowering) (port : Port) (g : Channel) (s : State) → Gives (Came K a_thing p new) (Ok (a_channel g, s)) (Ok (thing.Channel port))
    → Gives (Came K a_port p new) (Ok (g, s)) (Ok port)
as_channel K p new port g s h =
    let e : ◌≡◌ {A = meaning.Thing × State} h.value (a_channel g, s) = cc in
    record {
      value = (g, s);
      is = refl;
      fits = record {
        stands = subst (λ (v : meaning.Thing × State). StandsAt K (at v.1 p) new) e h.fits.stands;
        out = subst (λ (v : meaning.Thing × State). ThingStands (bags_of p.run new.plan) (read port) v.0) e h.fits.out;
      };
    }

-- an operator that is applied gives something
never_fails : {B : Type 0} (c : Call) (w : Lowered B) (p : Point) (e : LowerFault) → HasFault (applied c p.around p.state) e → HasFault w e
never_fails c w p e h =
    fault_by (applied c p.around p.state) w e
    (λ k. absurd (let q : ◌≡◌ {A = Lowered (meaning.Thing × State)} (applied c p.around p.state) (Err e) = k in cc)) h

module _ (K : Known) (q : Place) (first : Port) (call : OperatorCall) (is : IsSetOf q first call) where
  one_port : length call.ports ≡ 1
  one_port = ap (λ (ps : List Port). length ps) is.ports

  pub can_set : (b : PlanBuilder) → PortReads b first → HasRoom b 1 → CanAddOperator b call
  can_set b reads room = record {
    room = subst (λ m. HasRoom b m) (sym one_port) room;
    body = is.body;
    options = subst (λ k. Allows k call.opts) (sym is.row) is.options;
    count = ap (λ k. takes_ports k (length call.ports)) is.row ∙ ap (takes_ports row.Set) one_port;
    reads = subst (λ ps. ReadPlan b ps) (sym is.ports) (first_reads b first [] reads (λ i lt. absurd (omega (arith, lt))));
  }

  pub has_no_labels : (labels : List (List ℕ)) → HasLabels call.row call.opts labels
  has_no_labels labels = subst (λ k. HasLabels k call.opts labels) (sym is.row) tt

  module _ (old new : Lowering) (plan : IsPlan old.plan) (room : HasRoom old.plan 1) (labels : List (List ℕ)) (none : labels ≡ []) where
    abbrev call_of : taken.Taken × Channel → Call
    call_of y = record { place = q; row = row.Set; taken = y.0; channels = y.1 ∷ [] }

    one_filled : (r : Result Thing LowerFault) → Filled K (length call.ports) (of_operator call labels) old new r → Filled K 1 (of_operator call []) old new r
    one_filled r h =
        let P : ℕ → Type 0 = λ n. Filled K n (of_operator call labels) old new r in
        let Q : List (List ℕ) → Type 0 = λ ls. Filled K 1 (of_operator call ls) old new r in
        subst Q none (subst P one_port h)

    pub set_given : (port : Port) → Filled K (length call.ports) (of_operator call labels) old new (Ok (thing.Channel port)) → Used K 1 1 (of_set q first) old new (Ok port)
    set_given port filled =
        let h = one_filled (Ok (thing.Channel port)) filled in
        record {
          later = h.later;
          goes = uses_fills 1 old new (Ok port) plan room h.goes;
          fits = h.fits;
          follows = λ p y runs stands k.
              as_channel K p new port (given_at (call_of y) 0) _ (h.follows p (call_of y) runs stands (is.means p.run old.plan y.0 y.1 k.0 k.1));
        }

    pub set_fails : (e : LowerFault) → Filled K (length call.ports) (of_operator call labels) old new (Err e) → Used K 1 1 (of_set q first) old new (Err e)
    set_fails e filled =
        let h = one_filled (Err e) filled in
        record {
          later = h.later;
          goes = tt;
          fits = tt;
          follows = λ p y runs stands k.
              never_fails (call_of y) (set_channel q y.0 y.1 p.around p.state) p e (h.follows p (call_of y) runs stands (is.means p.run old.plan y.0 y.1 k.0 k.1));
        }

-- ---- the channels of outputs, one after the other

abbrev pub Starts : List CallOutput → Ins (taken.Taken × List Output)
Starts os p z y = TookName y.0 × OutputsStand (bags_of p.run z.plan) (map output_of os) y.1

abbrev pub starts : Place → taken.Taken × List Output → Walk (List Output)
starts q y = set_outputs q y.0 y.1

-- those that have their calls, and those that are left
abbrev pub Between : List CallOutput → ℕ → List CallOutput → Ins (taken.Taken × List Output × List Output)
Between os i set p z j =
    TookName j.0 × OutputsStand (bags_of p.run z.plan) (map output_of set) j.1 × OutputsStand (bags_of p.run z.plan) (map output_of (drop i os)) j.2

abbrev pub goes_on : Place → taken.Taken × List Output × List Output → Walk (List Output)
goes_on q j = set_outputs q j.0 j.2 >>= λ more. gives (j.1 ++ more)

pub record SetsLead (K : Known) (q : Place) (os : List CallOutput) (i : ℕ) (set : List CallOutput) (old now : Lowering) : Type 0 where
  pub leads : LeadsUsing K (Starts os) (starts q) (Between os i set) (goes_on q) i i old now
  pub made : OutputsRead now.plan (map output_of set)
  pub others : OutputsRead now.plan (map output_of (drop i os))
  pub within : i ≤ length os

reads_more : (b : PlanBuilder) (xs : List PortOutput) (x : PortOutput) → OutputsRead b xs → PortReads b x.port → OutputsRead b (xs ++ x ∷ [])
reads_more b [] x h k = (k, tt)
reads_more b (y ∷ xs) x h k = (h.0, reads_more b xs x h.1 k)

stand_more : (bags : Bags) (xs : List PortOutput) (ys : List Output) (x : PortOutput) (y : Output) → OutputsStand bags xs ys → OutputStands bags x y → OutputsStand bags (xs ++ x ∷ []) (ys ++ y ∷ [])
stand_more bags [] [] x y h k = (k, tt)
stand_more bags [] (v ∷ ys) x y h k = absurd h
stand_more bags (u ∷ xs) [] x y h k = absurd h
stand_more bags (u ∷ xs) (v ∷ ys) x y h k = (h.0, stand_more bags xs ys x y h.1 k)

module _ (K : Known) (q : Place) (os : List CallOutput) (old : Lowering) where
  pub sets_begin : (set : List CallOutput) → set ≡ [] → IsLowering old → OutputsRead old.plan (map output_of os) → SetsLead K q os 0 set old old
  sets_begin set none keeps reads = record {
    leads = record {
      later = b.later;
      goes = b.goes;
      left = λ p y runs stands is. record {
        state = p.state;
        stands = stands;
        item = (y.0, [], y.1);
        is = (is.0, subst (λ us. OutputsStand (bags_of p.run old.plan) (map output_of us) []) (sym none) tt, is.1);
        same = sym (none_before p.around (set_outputs q y.0 y.1 p.around p.state));
      };
    };
    made = subst (λ us. OutputsRead old.plan (map output_of us)) (sym none) tt;
    others = reads;
    within = omega arith;
  }
    where
      b : LeadsUsing K (Starts os) (starts q) (Starts os) (starts q) 0 0 old old
      b = using_begins K (Starts os) (starts q) old keeps

  module _ (i : ℕ) (o : CallOutput) (set : List CallOutput) (mid : Lowering) (lt : i < length os) (is_at : o ≡ get_or os i o) (so_far : SetsLead K q os i set old mid) where
    split : drop i os ≡ o ∷ drop (i + 1) os
    split = left os i o lt is_at

    others_read : OutputsRead mid.plan (output_of o ∷ map output_of (drop (i + 1) os))
    others_read = subst (λ us. OutputsRead mid.plan (map output_of us)) split so_far.others

    -- what the next call asks
    pub next_reads : PortReads mid.plan o.port
    next_reads = others_read.0

    pub next_room : HasRoomFor (length os) (length os) old.plan → HasRoom mid.plan 1
    next_room room = room_after (length os) i old.plan mid.plan lt room so_far.leads.goes.room

    module _ (new : Lowering) (port : Port) (x : CallOutput) (more : List CallOutput) (step : Used K 1 1 (of_set q o.port) mid new (Ok port))
        (named : output_of x ≡ with_port port (output_of o)) (added : more ≡ set ++ x ∷ []) where
      more_is : map output_of more ≡ map output_of set ++ output_of x ∷ []
      more_is = ap (λ us. map output_of us) added ∙ map-append output_of set (x ∷ [])

      x_reads : PortReads new.plan (output_of x).port
      x_reads = subst (λ (v : PortOutput). PortReads new.plan v.port) (sym named) step.fits

      turn : (p : Point) (t : taken.Taken) (done rest : List Output) → TookName t → OutputsStand (bags_of p.run mid.plan) (map output_of set) done
          → OutputsStand (bags_of p.run mid.plan) (output_of o ∷ map output_of (drop (i + 1) os)) rest
          → Turn K (of_set q o.port) (goes_on q) (Between os (i + 1) more) (goes_on q) p mid new port (t, done, rest)
      turn p t done [] name are h = absurd h
      turn p t done (r ∷ rs) name are h = record {
        first = (t, r.channel);
        stands = (name, h.0.channel);
        goes = λ d s there out came.
            (let y : Output = record { label = r.label; channel = d } in
            let whole : OutputStands (bags_of p.run new.plan) (with_port port (output_of o)) y = record { label = h.0.label; channel = out } in
            let one = subst (λ v. OutputStands (bags_of p.run new.plan) v y) (sym named) whole in
            let before = step.later.stands p.run (results (map output_of set)) (outputs done) so_far.made are in (
              (t, done ++ y ∷ [], rs),
              (
                name,
                subst (λ us. OutputsStand (bags_of p.run new.plan) us (done ++ y ∷ [])) (sym more_is) (stand_more (bags_of p.run new.plan) (map output_of set) done (output_of x) y before one),
                step.later.stands p.run (results (map output_of (drop (i + 1) os))) (outputs rs) others_read.1 h.1,
              ),
              ap (λ v. then_by p.around (λ zs. gives (done ++ zs)) (then_by p.around (λ c. set_outputs q t rs >>= λ zs. gives (record { label = r.label; channel = c } ∷ zs)) v)) came
                  ∙ one_before p.around done y (set_outputs q t rs p.around s),
            ));
      }

      pub sets_go : SetsLead K q os (i + 1) more old new
      sets_go = record {
        leads =
            using_further K (Starts os) (starts q) (Between os i set) (goes_on q) i i old mid so_far.leads (of_set q o.port) (Between os (i + 1) more) (goes_on q) 1 1 new port step
            (λ p j stands is. turn p j.0 j.1 j.2 is.0 is.1 (subst (λ us. OutputsStand (bags_of p.run mid.plan) (map output_of us) j.2) split is.2));
        made =
            subst (λ us. OutputsRead new.plan us) (sym more_is)
            (reads_more new.plan (map output_of set) (output_of x) (step.later.reads (results (map output_of set)) so_far.made) x_reads);
        others = step.later.reads (results (map output_of (drop (i + 1) os))) others_read.1;
        within = omega (arith, lt);
      }

    pub sets_fail : (new : Lowering) (e : LowerFault) → Used K 1 1 (of_set q o.port) mid new (Err e) → Used K (length os) (length os) (of_sets q os) old new (Err e)
    sets_fail new e step =
        using_fails K (Starts os) (starts q) (Between os i set) (goes_on q) i i old mid so_far.leads (of_set q o.port) form.outputs 1 1 (length os) (length os) new e step
        (λ p j stands is. head p j.0 j.1 j.2 is.0 (subst (λ us. OutputsStand (bags_of p.run mid.plan) (map output_of us) j.2) split is.2))
      where
        twice : (a : Around) (t : taken.Taken) (r : Output) (done rs : List Output) (v : Lowered (Channel × State))
            → then_by a (λ zs. gives (done ++ zs)) (then_by a (λ c. set_outputs q t rs >>= λ zs. gives (record { label = r.label; channel = c } ∷ zs)) v)
            ≡ then_by a (λ c b s. then_by b (λ zs. gives (done ++ zs)) ((set_outputs q t rs >>= λ zs. gives (record { label = r.label; channel = c } ∷ zs)) b s)) v
        twice a t r done rs (Ok z) = refl
        twice a t r done rs (Err f) = refl

        head : (p : Point) (t : taken.Taken) (done rest : List Output) → TookName t → OutputsStand (bags_of p.run mid.plan) (output_of o ∷ map output_of (drop (i + 1) os)) rest
            → Head (of_set q o.port) (goes_on q) p mid (t, done, rest)
        head p t done [] name h = absurd h
        head p t done (r ∷ rs) name h = record {
          first = (t, r.channel);
          stands = (name, h.0.channel);
          rest = λ c b s. then_by b (λ zs. gives (done ++ zs)) ((set_outputs q t rs >>= λ zs. gives (record { label = r.label; channel = c } ∷ zs)) b s);
          same = twice p.around t r done rs (set_channel q t r.channel p.around p.state);
        }

  pub sets_lost : (mid new : Lowering) (i : ℕ) (set : List CallOutput) → SetsLead K q os i set old mid → Later mid.plan new.plan → Used K (length os) (length os) (of_sets q os) old new (Err Mem)
  sets_lost mid new i set so_far later =
      used_lost_later K (length os) (length os) (of_sets q os) old new (later_again old.plan mid.plan new.plan so_far.leads.later later)

  pub sets_end : (i : ℕ) (set : Vec CallOutput) (now : Lowering) → length os ≤ i → SetsLead K q os i set.items old now → Used K (length os) (length os) (of_sets q os) old now (Ok set)
  sets_end i set now le so_far =
      using_given K (Starts os) (starts q) (Between os i set.items) (goes_on q) i (length os) old now form.outputs set so_far.within so_far.made so_far.leads
      (λ p j stands is. (j.1, is.1, none p j.0 j.1 j.2 (subst (λ us. OutputsStand (bags_of p.run now.plan) (map output_of us) j.2) (drop_all i os le) is.2)))
    where
      none : (p : Point) (t : taken.Taken) (done rest : List Output) → OutputsStand (bags_of p.run now.plan) [] rest → goes_on q (t, done, rest) p.around p.state ≡ Ok (done, p.state)
      none p t done [] h = ap (λ l. Ok (l, p.state)) (append-nil done)
      none p t done (r ∷ rs) h = absurd h

-- ---- what was made gets its name

module _ (K : Known) (q : Place) (first : Port) (v : Taken) (old mid : Lowering) (keeps : IsLowering old) where
  abbrev Named : Ins (taken.Taken × Channel)
  Named p z y = IsNamed p.run.program (bags_of p.run z.plan) v y.0 × StandsFor (bags_of p.run z.plan) first y.1

  abbrev naming : taken.Taken × Channel → Walk meaning.Thing
  naming y = set_channel q y.0 y.1 >>= λ d. named_so y.0.word (a_channel d)

  pub channel_fails : (e : LowerFault) → Used K 1 1 (of_set q first) old mid (Err e) → Used K 1 1 (of_named q first v) old mid (Err e)
  channel_fails e one =
      using_fails K Named naming Named naming 0 0 old old (using_begins K Named naming old keeps) (of_set q first) a_thing 1 1 1 1 mid e one
      (λ p y stands is. record { first = y; stands = (is.0.name, is.1); rest = λ d. named_so y.0.word (a_channel d); same = refl })

  pub channel_named : (port : Port) (new : Lowering) (r : Result Thing LowerFault) → Used K 1 1 (of_set q first) old mid (Ok port) → Walked K (of_thing (thing.Channel port) a_thing (named_so v.word)) mid new r
      → Used K 1 1 (of_named q first v) old new r
  channel_named port new r one two =
      let Made = λ (p : Point) (z : Lowering) (j : meaning.Thing). ThingStands (bags_of p.run z.plan) (read port) j in
      using_ends K Named naming Made (λ y. named_so v.word y) 1 1 old mid
      (using_further K Named naming Named naming 0 0 old old (using_begins K Named naming old keeps) (of_set q first) Made (λ y. named_so v.word y) 1 1 mid port one
      (λ p y stands is.
      record {
        first = y;
        stands = (is.0.name, is.1);
        goes = λ d s there out came. (
          a_channel d,
          out,
          ap (then_by p.around (λ c. named_so y.0.word (a_channel c))) came ∙ ap (λ n. named_so n (a_channel d) p.around s) (sym is.0.taken.word),
        );
      }))
      (of_thing (thing.Channel port) a_thing (named_so v.word)) new r two (λ p j stands is. record { first = j; stands = is; same = refl })

module _ (K : Known) (q : Place) (os : List CallOutput) (v : Taken) (old mid : Lowering) (keeps : IsLowering old) where
  abbrev AllNamed : Ins (taken.Taken × List Output)
  AllNamed p z y = IsNamed p.run.program (bags_of p.run z.plan) v y.0 × OutputsStand (bags_of p.run z.plan) (map output_of os) y.1

  abbrev naming_all : taken.Taken × List Output → Walk meaning.Thing
  naming_all y = set_outputs q y.0 y.1 >>= λ more. named_so y.0.word (outputs more)

  pub outputs_fail : (e : LowerFault) → Used K (length os) (length os) (of_sets q os) old mid (Err e) → Used K (length os) (length os) (of_named_outputs q os v) old mid (Err e)
  outputs_fail e one =
      using_fails K AllNamed naming_all AllNamed naming_all 0 0 old old (using_begins K AllNamed naming_all old keeps) (of_sets q os) a_thing (length os) (length os) (length os) (length os) mid e one
      (λ p y stands is. record { first = y; stands = (is.0.name, is.1); rest = λ more. named_so y.0.word (outputs more); same = refl })

  pub outputs_named : (set : Vec CallOutput) (new : Lowering) (r : Result Thing LowerFault) → Used K (length os) (length os) (of_sets q os) old mid (Ok set)
      → Walked K (of_thing (thing.Outputs set) a_thing (named_so v.word)) mid new r → Used K (length os) (length os) (of_named_outputs q os v) old new r
  outputs_named set new r one two =
      let n = length os in
      let Made = λ (p : Point) (z : Lowering) (j : meaning.Thing). ThingStands (bags_of p.run z.plan) (results (map output_of set.items)) j in
      let so_far =
      using_further K AllNamed naming_all AllNamed naming_all 0 0 old old (using_begins K AllNamed naming_all old keeps) (of_sets q os) Made (λ y. named_so v.word y) n n mid set one
      (λ p y stands is.
      record {
        first = y;
        stands = (is.0.name, is.1);
        goes = λ zs s there out came. (
          outputs zs,
          out,
          ap (then_by p.around (λ more. named_so y.0.word (outputs more))) came ∙ ap (λ m. named_so m (outputs zs) p.around s) (sym is.0.taken.word),
        );
      })
      in
      let P : ℕ → Type 0 = λ m. LeadsUsing K AllNamed naming_all Made (λ y. named_so v.word y) m m old mid in
      using_ends K AllNamed naming_all Made (λ y. named_so v.word y) n n old mid (subst P (zero_add n) so_far)
      (of_thing (thing.Outputs set) a_thing (named_so v.word)) new r two (λ p j stands is. record { first = j; stands = is; same = refl })
    where
      zero_add : (n : ℕ) → 0 + n ≡ n
      zero_add n = omega arith
