-- How the steps of a walk join: what is left of it after some of them.
use Rattle.std.proofs.Common.{◌≡◌, Result, Ok, Err, refl, sym, ap, subst, ◌∙◌}
use Rattle.nf_meaning.specs.declared.fault.LowerFault.{LowerFault}
use Rattle.nf_meaning.specs.declared.fault.LowerFault.TheVariants.{Mem}
use Rattle.nf_meaning.specs.Lowered.{Lowered}
use Rattle.nf_meaning.specs.Walk.{State, Walk, then_by}
use Rattle.nf_lowered.specs.Given.{Gives}
use Rattle.nf_lowered.proofs.Joining.{fault_by, fault_is}
use Rattle.nf_plan.specs.Runs.{RunsNodes}
use Rattle.nf_lowering.specs.declared.state.Lowering.{Lowering}
use Rattle.nf_lowering.specs.State.{IsLowering}
use Rattle.nf_walked.specs.Steps.{Came, Due, Form, Goes, Known, Later, Point, StandsAt, Walked, at}
use Rattle.nf_walked.proofs.Goings.{goes_after, goes_on, goes_same, later_again, later_same}

-- what stands for something of the meaning at a point
abbrev pub Ins : Type 0 → Type 1
Ins J = Point → Lowering → J → Type 0

-- where the walk stands now, and what of it is left there: it comes to the same
pub record Left {J D : Type 0} (K : Known) (T : Ins J) (u : J → Walk D) (p : Point) (now : Lowering) (due : Lowered (D × State)) : Type 0 where
  pub state : State
  pub stands : StandsAt K (at state p) now
  pub item : J
  pub is : T (at state p) now item
  pub same : due ≡ u item p.around state

-- from one state in memory to a later one, where of the walk w of what goes in u is left, of what there is by then
pub record Leads {L J D : Type 0} (K : Known) (In : Ins L) (w : L → Walk D) (T : Ins J) (u : J → Walk D) (old now : Lowering) : Type 0 where
  pub later : Later old.plan now.plan
  pub goes : Goes old now
  pub left : (p : Point) (y : L) → RunsNodes p.run now.plan.infos.items → StandsAt K p old → In p old y
      → Left K T u p now (w y p.around p.state)

pub begins : {L D : Type 0} (K : Known) (In : Ins L) (w : L → Walk D) (z : Lowering) → IsLowering z → Leads K In w In w z z
begins K In w z keeps = record {
  later = later_same z.plan;
  goes = goes_same z keeps;
  left = λ p y runs stands is. record { state = p.state; stands = stands; item = y; is = is; same = refl };
}

-- what goes into the next step; and of what that comes to, what is left
pub record Turn {I A B J M D : Type 0} (K : Known) (d : Due I A B) (u : J → Walk D) (T : Ins M) (rest : M → Walk D) (p : Point) (mid new : Lowering) (m : A) (j : J) : Type 0 where
  pub first : I
  pub stands : d.In p mid first
  pub goes : (y : B) (s : State) → StandsAt K (at s p) new → d.form.Stands p.run new.plan m y → d.walk first p.around p.state ≡ Ok (y, s)
      → (k : M) × T (at s p) new k × (u j p.around p.state ≡ rest k p.around s)

-- what goes into a step that the walk begins with; and what of the walk comes after it
pub record Head {I A B J D : Type 0} (d : Due I A B) (u : J → Walk D) (p : Point) (mid : Lowering) (j : J) : Type 0 where
  pub first : I
  pub stands : d.In p mid first
  pub rest : B → Walk D
  pub same : u j p.around p.state ≡ then_by p.around rest (d.walk first p.around p.state)

-- what goes into a step that is all that is left
pub record Tail {I C J D : Type 0} (d : Due I C D) (u : J → Walk D) (p : Point) (mid : Lowering) (j : J) : Type 0 where
  pub first : I
  pub stands : d.In p mid first
  pub same : u j p.around p.state ≡ d.walk first p.around p.state

module _ {L J D : Type 0} (K : Known) (In : Ins L) (w : L → Walk D) (T : Ins J) (u : J → Walk D) (old mid : Lowering) where
  -- one step more
  pub goes_further : {I A B M : Type 0} (d : Due I A B) (U : Ins M) (rest : M → Walk D) (new : Lowering) (m : A) → Leads K In w T u old mid → Walked K d mid new (Ok m)
      → ((p : Point) (j : J) → StandsAt K p mid → T p mid j → Turn K d u U rest p mid new m j) → Leads K In w U rest old new
  goes_further d U rest new m so_far step turn = record {
    later = later_again old.plan mid.plan new.plan so_far.later step.later;
    goes = goes_on old mid new so_far.goes step.goes;
    left = λ p y runs stands is.
        (let it = so_far.left p y (step.later.runs p.run runs) stands is in
        let next = turn (at it.state p) it.item it.stands it.is in
        let came = step.follows (at it.state p) next.first runs it.stands next.stands in
        let there = next.goes came.value.0 came.value.1 came.fits.stands came.fits.out came.is in
        record { state = came.value.1; stands = came.fits.stands; item = there.0; is = there.1; same = it.same ∙ there.2 });
  }

  -- the answer at the point where the walk stands is one at the point where it began
  pub from_there : {C : Type 0} (f : Form C D) (p : Point) (s : State) (new : Lowering) (due : Lowered (D × State)) (r : Result C LowerFault) → Gives (Came K f (at s p) new) due r
      → Gives (Came K f p new) due r
  from_there f p s new due (Ok v) h = record { value = h.value; is = h.is; fits = record { stands = h.fits.stands; out = h.fits.out } }
  from_there f p s new due (Err e) h = h

  -- the last step
  pub ends : {I C : Type 0} (d : Due I C D) (new : Lowering) (r : Result C LowerFault) → Leads K In w T u old mid → Walked K d mid new r
      → ((p : Point) (j : J) → StandsAt K p mid → T p mid j → Tail d u p mid j) → Walked K (record { In = In; walk = w; form = d.form }) old new r
  ends d new r so_far step tail = record {
    later = later_again old.plan mid.plan new.plan so_far.later step.later;
    goes = goes_after old mid new r so_far.goes step.goes;
    fits = step.fits;
    follows = λ p y runs stands is.
        (let it = so_far.left p y (step.later.runs p.run runs) stands is in
        let last = tail (at it.state p) it.item it.stands it.is in
        let there = step.follows (at it.state p) last.first runs it.stands last.stands in
        subst (λ v. Gives (Came K d.form p new) v r) (sym (it.same ∙ last.same)) (from_there d.form p it.state new (d.walk last.first p.around it.state) r there));
  }

  -- a fault of a step
  pub fails : {I A B C : Type 0} (d : Due I A B) (f : Form C D) (new : Lowering) (e : LowerFault) → Leads K In w T u old mid → Walked K d mid new (Err e)
      → ((p : Point) (j : J) → StandsAt K p mid → T p mid j → Head d u p mid j) → Walked K (record { In = In; walk = w; form = f }) old new (Err e)
  fails d f new e so_far step head = record {
    later = later_again old.plan mid.plan new.plan so_far.later step.later;
    goes = tt;
    fits = tt;
    follows = λ p y runs stands is.
        (let it = so_far.left p y (step.later.runs p.run runs) stands is in
        let next = head (at it.state p) it.item it.stands it.is in
        let there = step.follows (at it.state p) next.first runs it.stands next.stands in
        let whole : Gives (Came K f p new) (then_by p.around next.rest (d.walk next.first p.around it.state)) (Err e) =
        fault_by (d.walk next.first p.around it.state) (then_by p.around next.rest (d.walk next.first p.around it.state)) e (λ k. ap (then_by p.around next.rest) k) there in
        subst (λ v. Gives (Came K f p new) v (Err e)) (sym (it.same ∙ next.same)) whole);
  }

  -- a fault that needs no step
  pub is_refused : {C : Type 0} (f : Form C D) (e : LowerFault) → Leads K In w T u old mid
      → ((p : Point) (j : J) → StandsAt K p mid → T p mid j → u j p.around p.state ≡ Err e) → Walked K (record { In = In; walk = w; form = f }) old mid (Err e)
  is_refused f e so_far refused = record {
    later = so_far.later;
    goes = tt;
    fits = tt;
    follows = λ p y runs stands is.
        (let it = so_far.left p y runs stands is in
        fault_is (w y p.around p.state) e (it.same ∙ refused (at it.state p) it.item it.stands it.is));
  }

  -- what needs no step
  pub is_given : {C : Type 0} (f : Form C D) (v : C) → f.Fits mid.plan v → Leads K In w T u old mid
      → ((p : Point) (j : J) → StandsAt K p mid → T p mid j → (b : D) × f.Stands p.run mid.plan v b × (u j p.around p.state ≡ Ok (b, p.state)))
      → Walked K (record { In = In; walk = w; form = f }) old mid (Ok v)
  is_given f v fits so_far given = record {
    later = so_far.later;
    goes = so_far.goes;
    fits = fits;
    follows = λ p y runs stands is.
        (let it = so_far.left p y runs stands is in
        let there = given (at it.state p) it.item it.stands it.is in
        record { value = (there.0, it.state); is = it.same ∙ there.2; fits = record { stands = it.stands; out = there.1 } });
  }

  -- want of memory
  pub is_lost : {C : Type 0} (f : Form C D) (new : Lowering) → Leads K In w T u old mid → Later mid.plan new.plan
      → Walked K (record { In = In; walk = w; form = f }) old new (Err Mem)
  is_lost f new so_far later = record {
    later = later_again old.plan mid.plan new.plan so_far.later later;
    goes = tt;
    fits = tt;
    follows = λ p y runs stands is. tt;
  }
