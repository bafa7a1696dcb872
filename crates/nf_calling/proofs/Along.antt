-- Steps of other kinds in a walk.
use Rattle.std.proofs.Common.{Result, Ok, Err, OnOk, sym, subst, ◌∙◌}
use Rattle.nf_meaning.specs.declared.fault.LowerFault.{LowerFault}
use Rattle.nf_meaning.specs.Walk.{Walk}
use Rattle.nf_lowered.specs.Given.{Gives}
use Rattle.nf_lowering.specs.declared.state.Lowering.{Lowering}
use Rattle.nf_walked.specs.Steps.{Came, Due, Goes, Known, Point, StandsAt, Walked, at}
use Rattle.nf_walked.proofs.Goings.{later_again}
use Rattle.nf_walked.proofs.Leads.{Ins, Leads, Tail, Turn, from_there}
use Rattle.nf_calling.specs.Goes.{Going, WalkedAs}

-- a fault is one whatever would go on
pub fault_walked : {I A B : Type 0} (G : Going) (K : Known) (d : Due I A B) (old new : Lowering) (e : LowerFault) → WalkedAs G K d old new (Err e) → Walked K d old new (Err e)
fault_walked G K d old new e h = record { later = h.later; goes = tt; fits = tt; follows = h.follows }

goes_as : {C : Type 0} (G : Going) (old mid new : Lowering) (r : Result C LowerFault) → (G mid new → Goes old new) → OnOk r (G mid new) → OnOk r (Goes old new)
goes_as G old mid new (Ok v) closes h = closes h
goes_as G old mid new (Err e) closes h = tt

module _ {L J D : Type 0} (G : Going) (K : Known) (In : Ins L) (w : L → Walk D) (T : Ins J) (u : J → Walk D) (old mid : Lowering) where
  -- one step more
  pub goes_further_as : {I A B M : Type 0} (d : Due I A B) (U : Ins M) (rest : M → Walk D) (new : Lowering) (m : A) → Leads K In w T u old mid → (G mid new → Goes old new)
      → WalkedAs G K d mid new (Ok m) → ((p : Point) (j : J) → StandsAt K p mid → T p mid j → Turn K d u U rest p mid new m j) → Leads K In w U rest old new
  goes_further_as d U rest new m so_far closes step turn = record {
    later = later_again old.plan mid.plan new.plan so_far.later step.later;
    goes = closes step.goes;
    left = λ p y runs stands is.
        (let it = so_far.left p y (step.later.runs p.run runs) stands is in
        let next = turn (at it.state p) it.item it.stands it.is in
        let came = step.follows (at it.state p) next.first runs it.stands next.stands in
        let there = next.goes came.value.0 came.value.1 came.fits.stands came.fits.out came.is in
        record { state = came.value.1; stands = came.fits.stands; item = there.0; is = there.1; same = it.same ∙ there.2 });
  }

  -- the last step
  pub ends_as : {I C : Type 0} (d : Due I C D) (new : Lowering) (r : Result C LowerFault) → Leads K In w T u old mid → (G mid new → Goes old new) → WalkedAs G K d mid new r
      → ((p : Point) (j : J) → StandsAt K p mid → T p mid j → Tail d u p mid j) → Walked K (record { In = In; walk = w; form = d.form }) old new r
  ends_as d new r so_far closes step tail = record {
    later = later_again old.plan mid.plan new.plan so_far.later step.later;
    goes = goes_as G old mid new r closes step.goes;
    fits = step.fits;
    follows = λ p y runs stands is.
        (let it = so_far.left p y (step.later.runs p.run runs) stands is in
        let last = tail (at it.state p) it.item it.stands it.is in
        let there = step.follows (at it.state p) last.first runs it.stands last.stands in
        subst (λ v. Gives (Came K d.form p new) v r) (sym (it.same ∙ last.same)) (from_there K In w T u old mid d.form p it.state new (d.walk last.first p.around it.state) r there));
  }
