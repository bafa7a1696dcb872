-- A run enters one event more.
use Rattle.std.proofs.Common.{◌≡◌, ℕ, ◌≤◌, List, [], ◌++◌, ap, sym, ◌∙◌, subst, arith, ◌⊎◌, inl, inr}
use Rattle.std.specs.Prelude.{Option, Some, None, IfSome, fold}
use Rattle.std.specs.List.{Contains}
use Rattle.std.proofs.lemmas.List.Elements.{Contains-push_cases}
use Rattle.nf_machine.specs.declared.event.Event.{Event}
use Rattle.nf_machine.specs.declared.stop.Outside.TheVariants.{Keeper}
use Rattle.nf_machine.specs.Event.{PlainEvent, abort, outside_stop}
use Rattle.nf_machine.specs.State.{opening}
use Rattle.nf_machine.specs.Legal.{IsLegal}
use Rattle.nf_machine.proofs.Growing.{lawful_grows}
use Rattle.nf_host.specs.Faults.{Rose}
use Rattle.nf_keeper.specs.Held.{Held, Both}
use Rattle.nf_lane.specs.World.{World}
use Rattle.nf_flow.specs.Seen.{Seen, plain_of, events_of, state_of, grown}
use Rattle.nf_core.specs.Opening.{Opening, IsSteady}
use Rattle.nf_core.specs.Told.{Ending, told_in, finished_by, reused_by, Match}
use Rattle.nf_core.specs.Records.{Write, writes_by, known, known_after, IsSound}
use Rattle.nf_core.specs.Causes.{IsWarranted}
use Rattle.nf_core.specs.Run.{Parts, IsRun}
use Rattle.nf_core.proofs.Growing.{told_grows, match_more, warranted_grows, known_grows}
use Rattle.nf_core.proofs.Seens.{event_in, events_grown}

abbrev pub writes_of : Opening → Seen → List Write
writes_of F z = told_in (writes_by F.rules) (plain_of z) (events_of z)

-- the keeper's content goes on from m to n as these writes tell
abbrev pub Follows : List Write → Held → Held → Type 0
Follows ws m n = (q : List ℕ) (k : Option (Option (List ℕ))) → IfSome k (λ v. m q ≡ v) → IfSome (fold (known_after q) k ws) (λ v. n q ≡ v)

-- what an event owes the run that enters it
pub record Owes (F : Opening) {D S : Type 0} (done : D → Ending → Type 0) (seen : S → Ending → Type 0) (z y : Parts D S) (e : PlainEvent) : Type 0 where
  pub legal : IsLegal (plain_of z.flow) F.rules (state_of z.flow) e
  pub warranted : IsWarranted F (state_of z.flow) (writes_of F z.flow) e
  pub dones : List D
  pub dones_are : y.dones ≡ z.dones ++ dones
  pub finished : Match done dones (finished_by (state_of z.flow) e)
  pub seens : List S
  pub seens_are : y.seens ≡ z.seens ++ seens
  pub reused : Match seen seens (reused_by (state_of z.flow) e)
  pub resumed : y.resumed ≡ z.resumed
  pub records : Both z.held y.held (Follows (writes_by F.rules (state_of z.flow) e))
  pub sound : (w : World) → IsSteady w F → IsSound w z.held → IsSound w y.held
  pub later : z.faults ≤ y.faults
  pub blamed : (t : ℕ) → e ≡ abort t (Some (outside_stop Keeper)) → Rose F.faults y.faults

pub both_then : {A : Type 0} {P Q R : A → A → Type 0} (a b c : Option A) → Both a b P → Both b c Q → ((m n o : A) → P m n → Q n o → R m o) → Both a c R
both_then None None None p q f = tt
both_then None None (Some z) p q f = q
both_then None (Some y) c p q f = absurd p
both_then (Some x) None c p q f = absurd p
both_then (Some x) (Some y) None p q f = q
both_then (Some x) (Some y) (Some z) p q f = f x y z p q

pub both_map : {A : Type 0} {P R : A → A → Type 0} (a b : Option A) → Both a b P → ((m n : A) → P m n → R m n) → Both a b R
both_map None None p f = tt
both_map None (Some y) p f = p
both_map (Some x) None p f = p
both_map (Some x) (Some y) p f = f x y p

pub both_refl : {A : Type 0} (P : A → A → Type 0) (a : Option A) → ((m : A) → P m m) → Both a a P
both_refl P None f = tt
both_refl P (Some m) f = f m

module _ {F : Opening} {D S : Type 0} {done : D → Ending → Type 0} {seen : S → Ending → Type 0} where
  entered_at : (z y : Parts D S) (x : Event) → IsRun F done seen z → Owes F done seen z y (event_in z.flow x) → IsRun F done seen (record y { flow = grown z.flow x })
  entered_at z y x k o =
      let g = plain_of z.flow in
      let h = events_of z.flow in
      let e = event_in z.flow x in
      let more = events_grown z.flow x in
      let writes : writes_of F (grown z.flow x) ≡ writes_of F z.flow ++ writes_by F.rules (state_of z.flow) e =
      ap (told_in (writes_by F.rules) g) more ∙ told_grows (writes_by F.rules) g (opening g) h e in
      record {
        graph = k.graph;
        resumed = o.resumed ∙ k.resumed;
        rules = k.rules;
        apart = k.apart;
        lawful = rw more ((lawful_grows g F.rules (opening g) h e).1 (k.lawful, o.legal));
        finished = rw (o.dones_are, more, told_grows finished_by g (opening g) h e) (match_more done z.dones o.dones _ _ k.finished o.finished);
        reused = rw (o.seens_are, more, told_grows reused_by g (opening g) h e) (match_more seen z.seens o.seens _ _ k.reused o.reused);
        warranted = rw more (warranted_grows F g (opening g) [] h e k.warranted o.warranted);
        records = both_then F.held z.held y.held k.records o.records
            (λ m n r a f q. rw (writes, known_grows m (writes_of F z.flow) (writes_by F.rules (state_of z.flow) e) q) (f q (known m (writes_of F z.flow) q) (a q)));
        sound = λ w steady first. o.sound w steady (k.sound w steady first);
        later = (let a = k.later in let b = o.later in omega (arith, a, b));
        blamed = λ t c. by_place t (Contains-push_cases h e (abort t (Some (outside_stop Keeper))) (subst (λ es. Contains es (abort t (Some (outside_stop Keeper)))) more c));
      } where
        by_place : (t : ℕ) → Contains (events_of z.flow) (abort t (Some (outside_stop Keeper))) ⊎ (event_in z.flow x ≡ abort t (Some (outside_stop Keeper))) → Rose F.faults y.faults
        by_place t (inl c) = (let r = k.blamed t c in let l = o.later in omega (arith, r, l))
        by_place t (inr is) = o.blamed t is

  pub entered : (z y : Parts D S) (x : Event) → IsRun F done seen z → Owes F done seen z y (event_in z.flow x) → y.flow ≡ grown z.flow x → IsRun F done seen y
  entered z y x k o new = let P : Seen → Type 0 = λ f. IsRun F done seen (record y { flow = f }) in subst P (sym new) (entered_at z y x k o)
