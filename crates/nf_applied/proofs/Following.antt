-- How steps join, whatever of the plan they use: what is left of a walk, and what a step answers.
use Rattle.std.proofs.Common.{◌≡◌, ◌∙◌, Result, Ok, Err, sym, ap, subst}
use Rattle.nf_lowered.specs.Given.{Gives}
use Rattle.nf_lowered.proofs.Joining.{fault_by}
use Rattle.nf_meaning.specs.declared.fault.LowerFault.{LowerFault}
use Rattle.nf_meaning.specs.Walk.{Walk, then_by}
use Rattle.nf_plan.specs.Runs.{RunsNodes}
use Rattle.nf_lowering.specs.declared.state.Lowering.{Lowering}
use Rattle.nf_walked.specs.Steps.{Answers, Came, Due, Form, Known, Later, Point, StandsAt, at}
use Rattle.nf_walked.proofs.Leads.{Head, Ins, Left, Tail, Turn, from_there}

-- what is left at each point
abbrev pub Lefts : {L J D : Type 0} → Known → Ins L → (L → Walk D) → Ins J → (J → Walk D) → Lowering → Lowering → Type 0
Lefts {L} K In w T u old now =
    (p : Point) (y : L) → RunsNodes p.run now.plan.infos.items → StandsAt K p old → In p old y → Left K T u p now (w y p.around p.state)

abbrev pub Follows : {I A B : Type 0} → Known → Due I A B → Lowering → Lowering → Result A LowerFault → Type 0
Follows {I} K d old new r =
    (p : Point) (y : I) → RunsNodes p.run new.plan.infos.items → StandsAt K p old → d.In p old y → Answers K d.form p new r (d.walk y)

module _ {L J D : Type 0} (K : Known) (In : Ins L) (w : L → Walk D) (T : Ins J) (u : J → Walk D) (old mid : Lowering) (so_far : Lefts K In w T u old mid) where
  pub lefts_further : {I A B M : Type 0} (d : Due I A B) (U : Ins M) (rest : M → Walk D) (new : Lowering) (m : A) → Later mid.plan new.plan → Follows K d mid new (Ok m)
      → ((p : Point) (j : J) → StandsAt K p mid → T p mid j → Turn K d u U rest p mid new m j) → Lefts K In w U rest old new
  lefts_further d U rest new m later follows turn p y runs stands is =
      let it = so_far p y (later.runs p.run runs) stands is in
      let next = turn (at it.state p) it.item it.stands it.is in
      let came = follows (at it.state p) next.first runs it.stands next.stands in
      let there = next.goes came.value.0 came.value.1 came.fits.stands came.fits.out came.is in
      record { state = came.value.1; stands = came.fits.stands; item = there.0; is = there.1; same = it.same ∙ there.2 }

  pub follows_last : {I C : Type 0} (d : Due I C D) (new : Lowering) (r : Result C LowerFault) → Later mid.plan new.plan → Follows K d mid new r
      → ((p : Point) (j : J) → StandsAt K p mid → T p mid j → Tail d u p mid j) → Follows K (record { In = In; walk = w; form = d.form }) old new r
  follows_last d new r later follows tail p y runs stands is =
      let it = so_far p y (later.runs p.run runs) stands is in
      let last = tail (at it.state p) it.item it.stands it.is in
      let there = follows (at it.state p) last.first runs it.stands last.stands in
      subst (λ v. Gives (Came K d.form p new) v r) (sym (it.same ∙ last.same)) (from_there K In w T u old mid d.form p it.state new (d.walk last.first p.around it.state) r there)

  pub follows_fault : {I A B C : Type 0} (d : Due I A B) (f : Form C D) (new : Lowering) (e : LowerFault) → Later mid.plan new.plan → Follows K d mid new (Err e)
      → ((p : Point) (j : J) → StandsAt K p mid → T p mid j → Head d u p mid j) → Follows K (record { In = In; walk = w; form = f }) old new (Err e)
  follows_fault d f new e later follows head p y runs stands is =
      let it = so_far p y (later.runs p.run runs) stands is in
      let next = head (at it.state p) it.item it.stands it.is in
      let there = follows (at it.state p) next.first runs it.stands next.stands in
      let whole : Gives (Came K f p new) (then_by p.around next.rest (d.walk next.first p.around it.state)) (Err e) =
      fault_by (d.walk next.first p.around it.state) (then_by p.around next.rest (d.walk next.first p.around it.state)) e (λ k. ap (then_by p.around next.rest) k) there in
      subst (λ v. Gives (Came K f p new) v (Err e)) (sym (it.same ∙ next.same)) whole

  pub follows_given : {C : Type 0} (f : Form C D) (v : C)
      → ((p : Point) (j : J) → StandsAt K p mid → T p mid j → (b : D) × f.Stands p.run mid.plan v b × (u j p.around p.state ≡ Ok (b, p.state)))
      → Follows K (record { In = In; walk = w; form = f }) old mid (Ok v)
  follows_given f v given p y runs stands is =
      let it = so_far p y runs stands is in
      let there = given (at it.state p) it.item it.stands it.is in
      record { value = (there.0, it.state); is = it.same ∙ there.2; fits = record { stands = it.stands; out = there.1 } }
